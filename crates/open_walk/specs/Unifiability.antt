-- That some offer makes terms equal, or equates an item.
use Rattle.std.specs.Prelude.{ℕ}
use Rattle.free_terms.specs.Free.{FreeTerms}
use Rattle.unify.specs.Offers.{Offer, IsOffer, EquatesAll}
use Rattle.tab_tree.specs.ClosingView.{ClosesAt}
use Rattle.tab_tree.specs.Segments.{Segment}

-- some offer makes the lists equal
abbrev pub AreUnifiable : FreeTerms → FreeTerms → Type 0
AreUnifiable us vs = (s : Offer) × IsOffer s × EquatesAll s us vs

-- some offer equates the segment's item of that number
abbrev pub IsUnifiable : Segment → ℕ → Type 0
IsUnifiable g n = (s : Offer) × IsOffer s × ClosesAt s g n

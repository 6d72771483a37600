-- Sites as segments of a round's tableau.
use Rattle.std.specs.Prelude.{◌≡◌, Some}
use Rattle.tab_tree.specs.Segments.{Segments, top}
use Rattle.tab_tree.specs.RoundValue.{RoundValue}
use Rattle.tab_tree.specs.SiteValue.{SiteValue, segment_of, IsOfRound}
use Rattle.round_offers.specs.Places.{segments_at}
use Rattle.round_offers.specs.RoundTableau.{segments_of}

-- The site is the segment of its name in the round's tableau.
pub record StandsIn (r : RoundValue) (site : SiteValue) : Type 0 where
  pub of_round : IsOfRound r site
  pub segments : Segments
  pub at : segments_at (segments_of r) site.name ≡ Some segments
  pub first : top segments ≡ segment_of site

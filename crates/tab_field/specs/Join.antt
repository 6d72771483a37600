-- What it means for a round's tableau that offers solve the root of the round's tree.
use Rattle.std.specs.Prelude.{◌≡◌, ◌↔◌}
use Rattle.unify.specs.Offers.{Offer}
use Rattle.unify.specs.View.{offer_of}
use Rattle.nego_laws.specs.Tree.{Solves}
use Rattle.tab_tree.specs.RoundValue.{RoundValue}
use Rattle.round_offers.specs.RoundOffer.{RoundOffer, tree_of_round, tree_of_offer}
use Rattle.round_offers.specs.RoundTableau.{ClosesRound}

-- an offer of the tree solves the root exactly where it closes the round's tableau
abbrev pub SolvesWhereCloses : RoundValue → Type 0
SolvesWhereCloses r = (t : RoundOffer) → Solves (tree_of_round r) t 1 ↔ ClosesRound r (offer_of t.bindings)

-- where no offer of the tree solves the root, no offer closes the round's tableau
abbrev pub ClosesWhereSolved : RoundValue → Type 0
ClosesWhereSolved r =
    ((t : RoundOffer) → tree_of_offer t ≡ tree_of_round r → Solves (tree_of_round r) t 1 → ⊥)
    → (s : Offer) → ClosesRound r s → ⊥

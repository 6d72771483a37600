-- What contracts see of a place in a round's tableau.
use Rattle.std.specs.Prelude.{ℕ, refl}
use Rattle.std.specs.Coded.{Coded, code_by, coded×, coded_ℕ}
use Rattle.nego_laws.specs.Tree.{Tree}
use Rattle.tab_tree.specs.RoundValue.{RoundValue, round_code}
use Rattle.round_offers.specs.RoundOffer.{RoundOffer, tree_of_round}

-- the name of a segment, and the round whose tableau it is of
pub record PlaceValue : Type 0 where
  pub name : ℕ
  pub round : RoundValue

abbrev pub place_code : Coded PlaceValue
place_code =
    code_by (ℕ × RoundValue) (coded× coded_ℕ round_code) (λ p. (p.name, p.round))
    (λ p. record { name = p.0; round = p.1 }) (λ _. refl)

abbrev pub tree_of_place : PlaceValue → Tree RoundOffer
tree_of_place p = tree_of_round p.round

-- Offers with the round to which they belong.
use Rattle.std.specs.Prelude.{[], List, refl}
use Rattle.std.specs.Coded.{Coded, code_by, coded×, coded_list, prop_coded}
use Rattle.unify.specs.Offers.{IsOffer}
use Rattle.unify.specs.View.{offer_of}
use Rattle.unify.specs.declared.bindings.Binding.{Binding}
use Rattle.nego_laws.specs.Tree.{Tree}
use Rattle.tab_tree.specs.RoundValue.{RoundValue, round_code}
use Rattle.round_offers.specs.OfferOnce.{IsOffer-prop}
use Rattle.round_offers.specs.RoundTableau.{segments_of, IsOfferOf}
use Rattle.round_offers.specs.OfferTree.{tree_of}
use Rattle.unify.proofs.Extend.{no_bindings}
use Rattle.unify.specs.contracts.bindings.Binding as binding
use denote.Struct.Codes.{also_coded}
use denote.Struct.Record.{Also}

-- An offer and its round. The round says of which tree it is.
pub record RoundOffer : Type 0 where
  pub bindings : List Binding
  pub is_offer : IsOffer (offer_of bindings)
  pub round : RoundValue

abbrev pub round_offer_code : Coded RoundOffer
round_offer_code =
    code_by (RoundValue × Also (List Binding) (λ s. IsOffer (offer_of s)))
    (coded× round_code (also_coded (coded_list binding.the_row.coded) (λ s. prop_coded (IsOffer-prop (offer_of s)))))
    (λ t. (t.round, (t.bindings, t.is_offer)))
    (λ p. record { bindings = p.1.0; is_offer = p.1.1; round = p.0 }) (λ _. refl)

-- the offer without bindings
abbrev pub free_offer : RoundValue → RoundOffer
free_offer r = record { bindings = []; is_offer = no_bindings; round = r }

-- the tree of the round's segments
abbrev pub tree_of_round : RoundValue → Tree RoundOffer
tree_of_round r = tree_of (λ t. offer_of t.bindings) (free_offer r) (segments_of r)

abbrev pub tree_of_offer : RoundOffer → Tree RoundOffer
tree_of_offer t = tree_of_round t.round

-- the terms of the offer are of its round
abbrev pub IsOfItsRound : List Binding → RoundValue → Type 0
IsOfItsRound s r = IsOfferOf r (offer_of s)

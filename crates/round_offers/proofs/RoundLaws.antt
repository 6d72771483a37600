-- The laws of a field, for the tree of a round.
use Rattle.std.proofs.Common.{◌≡◌, List, ap, sym, ◌∙◌, refl, ◌↔◌, subst}
use mathlib.Core.Path.{path_j}
use Rattle.unify.specs.Offers.{Offer, IsOffer}
use Rattle.unify.specs.View.{offer_of}
use Rattle.unify.specs.declared.bindings.Binding.{Binding}
use Rattle.unify.proofs.Injective.{offer_of_injective, offer_from, offer_of_from}
use Rattle.nego_laws.specs.Tree.{Tree, Laws}
use Rattle.nego_laws.specs.Tree as field
use Rattle.tab_tree.specs.RoundValue.{RoundValue, root_of}
use Rattle.round_offers.specs.OfferOnce.{IsOffer-prop}
use Rattle.tab_tree.specs.Segments.{Solves}
use Rattle.round_offers.specs.RoundTableau.{segments_of, tableau_of, ClosesRound}
use Rattle.round_offers.specs.RoundOffer.{RoundOffer, free_offer, tree_of_round, tree_of_offer}
use Rattle.tab_tree.proofs.Exists.{tableau_below}
use Rattle.tab_tree.proofs.Solving.{closes_where_solved}
use Rattle.round_offers.proofs.TreeLaws.{tree_laws}
use Rattle.round_offers.proofs.SitesSolved.{solves_root}

abbrev round_offer : (s : List Binding) → IsOffer (offer_of s) → RoundValue → RoundOffer
round_offer s o r = record { bindings = s; is_offer = o; round = r }

same_list : (s : List Binding) (o : IsOffer (offer_of s)) (r : RoundValue) (z : List Binding) → s ≡ z → (q : IsOffer (offer_of z)) → round_offer s o r ≡ round_offer z q r
same_list s o r z p =
    path_j (λ (z : List Binding) (_ : s ≡ z). (q : IsOffer (offer_of z)) → round_offer s o r ≡ round_offer z q r) (λ q i. round_offer s (IsOffer-prop (offer_of s) o q i) r) p

-- Two offers of one round with the same bindings are equal.
pub same_round_offer : (t u : RoundOffer) → t.round ≡ u.round → offer_of t.bindings ≡ offer_of u.bindings → t ≡ u
same_round_offer t u e f =
    (λ i. round_offer t.bindings t.is_offer (e i)) ∙ same_list t.bindings t.is_offer u.round u.bindings (offer_of_injective t.bindings u.bindings f) u.is_offer

-- The tree of an offer tells its round.
pub round_of_tree : (t : RoundOffer) (r : RoundValue) → tree_of_offer t ≡ tree_of_round r → t.round ≡ r
round_of_tree t r e = ap (λ (x : Tree RoundOffer). x.free.round) e

pub round_laws : (r : RoundValue) → Laws (tree_of_round r) (λ t. tree_of_offer t ≡ tree_of_round r)
round_laws r =
    tree_laws (λ t. offer_of t.bindings) (free_offer r) (segments_of r) (λ t. tree_of_offer t ≡ tree_of_round r)
    (record {
      offers = λ t m. t.is_offer;
      free_belongs = refl;
      free_is_empty = refl;
      apart = λ t u mt mu e. same_round_offer t u (round_of_tree t r mt ∙ sym (round_of_tree u r mu)) e;
    })

-- An offer solves the root of a round's tree exactly where it solves the round's segments.
pub round_solves : (r : RoundValue) (t : RoundOffer) → field.Solves (tree_of_round r) t 1 ↔ Solves (offer_of t.bindings) (segments_of r)
round_solves r t = solves_root (λ u. offer_of u.bindings) (free_offer r) (segments_of r) t

-- An offer solves the root of a round's tree exactly where it closes the round's tableau.
pub round_closes : (r : RoundValue) (t : RoundOffer) → field.Solves (tree_of_round r) t 1 ↔ ClosesRound r (offer_of t.bindings)
unfolding segments_of
round_closes r t =
    let join : ClosesRound r (offer_of t.bindings) ↔ Solves (offer_of t.bindings) (segments_of r) =
    closes_where_solved (root_of r).start (root_of r).rules r.depth (offer_of t.bindings) (tableau_of r) (tableau_below r.depth (root_of r)).1 t.is_offer in
    (λ h. join.1 ((round_solves r t).0 h), λ h. (round_solves r t).1 (join.0 h))

-- each offer is one of the tree's
abbrev pub of_round : RoundValue → (s : Offer) → IsOffer s → RoundOffer
of_round r s o = record { bindings = offer_from s; is_offer = subst IsOffer (sym (offer_of_from s)) o; round = r }

-- Where no offer of the tree solves the root, no offer at all closes the round's tableau.
pub none_closes : (r : RoundValue) → ((t : RoundOffer) → tree_of_offer t ≡ tree_of_round r → field.Solves (tree_of_round r) t 1 → ⊥) → (s : Offer) → ClosesRound r s → ⊥
none_closes r none s c =
    none (of_round r s c.2) refl ((round_closes r (of_round r s c.2)).1 (subst (ClosesRound r) (sym (offer_of_from s)) c))

-- an offer made of equal parts
pub round_offer_as : (t : RoundOffer) (s : List Binding) (o : IsOffer (offer_of s)) (r : RoundValue) → s ≡ t.bindings → r ≡ t.round → round_offer s o r ≡ t
round_offer_as t s o r e f = (λ i. round_offer s o (f i)) ∙ same_list s o t.round t.bindings e t.is_offer

-- What is read at a place of the field's round.
use Rattle.std.proofs.Common.{◌≡◌, ℕ, ◌*◌, ◌+◌, ◌<◌, ◌^◌, true, List, length, Option, Some, None, is_some, ap, sym, ◌∙◌, subst}
use Rattle.std.proofs.lemmas.Bool.{false≢true}
use Rattle.free_terms.specs.Free.{FreeTerms}
use Rattle.unify.specs.Offers.{Unifies}
use Rattle.free_terms.specs.declared.term.FTerm.{FTerm}
use Rattle.unify.specs.View.{offer_of, UnifiesTerms}
use Rattle.unify.specs.declared.bindings.Binding.{Binding}
use Rattle.nego_laws.specs.Tree.{Attempted}
use Rattle.tab_tree.specs.Segments.{items}
use Rattle.tab_tree.specs.Arguments.{ItemHas}
use Rattle.tab_tree.specs.RoundValue.{RoundValue}
use Rattle.tab_tree.specs.SiteValue.{SiteValue, segment_of, AreParts}
use Rattle.round_offers.specs.Places.{segments_at, has_parts}
use Rattle.round_offers.specs.ClosingTests.{count_at}
use Rattle.round_offers.specs.RoundTableau.{segments_of}
use Rattle.round_offers.specs.RoundOffer.{RoundOffer, tree_of_round, tree_of_offer, IsOfItsRound}
use Rattle.round_offers.specs.Sites.{StandsIn}
use Rattle.round_offers.proofs.Attempts.{Belongs, alone_attempted, none_attempted, found_attempted}
use Rattle.round_offers.proofs.Names.{names_fit}
use Rattle.round_offers.proofs.RoundLaws.{round_of_tree}
use Rattle.round_offers.proofs.Sites.{stands_here, items_are, parts_are, site_found_of_round}
use Rattle.tab_field.specs.PlaceValue.{PlaceValue, tree_of_place}

module _ (r : RoundValue) (p : PlaceValue) (site : SiteValue) (here : tree_of_place p ≡ tree_of_round r) (name : site.name ≡ p.name) (in_its : StandsIn p.round site) where
  pub stands : StandsIn r site
  stands = stands_here p.round r site here in_its

  pub item_count : length (items (segment_of site)) ≡ count_at (segments_at (segments_of r) p.name)
  item_count = items_are r site stands ∙ ap (λ n. count_at (segments_at (segments_of r) n)) name

  pub splits : is_some site.splits_at ≡ has_parts (segments_at (segments_of r) p.name)
  splits = parts_are r site stands ∙ ap (λ n. has_parts (segments_at (segments_of r) n)) name

  pub parts_have_names : is_some site.splits_at ≡ true → 2 * p.name + 1 < 2 ^ 128
  parts_have_names e = names_fit r p.name (sym splits ∙ e)

  pub is_leaf : site.splits_at ≡ None → has_parts (segments_at (segments_of r) p.name) ≡ true → ⊥
  is_leaf e h = false≢true (sym (ap is_some e) ∙ splits ∙ h)

  module _ (k : ℕ) (given : RoundOffer) (belongs : tree_of_offer given ≡ tree_of_round r) where
    at_place : (o : Option RoundOffer) → Attempted (tree_of_round r) (Belongs r) site.name k given o → Attempted (tree_of_round r) (Belongs r) p.name k given o
    at_place o h = subst (λ n. Attempted (tree_of_round r) (Belongs r) n k given o) name h

    pub alone : (t : RoundOffer) → ItemHas (segment_of site) k None → t ≡ given → Attempted (tree_of_round r) (Belongs r) p.name k given (Some t)
    alone t has same =
        subst (λ u. Attempted (tree_of_round r) (Belongs r) p.name k given (Some u)) (sym same)
        (at_place (Some given) (alone_attempted r site stands k given has (round_of_tree given r belongs)))

    pub nothing : (us vs : FreeTerms) → ItemHas (segment_of site) k (Some (us, vs)) → Unifies (offer_of given.bindings) us vs None
        → Attempted (tree_of_round r) (Belongs r) p.name k given None
    nothing us vs has none = at_place None (none_attempted r site stands k given us vs has none)

    pub found : (us vs : FreeTerms) → ItemHas (segment_of site) k (Some (us, vs)) → (t : RoundOffer) → t.round ≡ r
        → Unifies (offer_of given.bindings) us vs (Some (offer_of t.bindings)) → Attempted (tree_of_round r) (Belongs r) p.name k given (Some t)
    found us vs has t of u = at_place (Some t) (found_attempted r site stands k given us vs has t of u)

  -- What makes the arguments of an item equal is of the field's round.
  pub found_of_round : (k : ℕ) (us vs : FreeTerms) → ItemHas (segment_of site) k (Some (us, vs)) → (given : RoundOffer) → tree_of_offer given ≡ tree_of_round r
      → IsOfItsRound given.bindings given.round → (found : List Binding) → Unifies (offer_of given.bindings) us vs (Some (offer_of found)) → IsOfItsRound found r
  found_of_round k us vs has given belongs of found u =
      site_found_of_round r site stands k (us, vs) has (offer_of given.bindings) (offer_of found)
      (subst (λ x. IsOfItsRound given.bindings x) (round_of_tree given r belongs) of) u

-- The parts, where the round has another name.
pub parts_in : (q r : RoundValue) (site left right : SiteValue) → q ≡ r → AreParts q (segment_of site) left right → AreParts r (segment_of site) left right
parts_in q r site left right e h = subst (λ x. AreParts x (segment_of site) left right) e h

-- What unification answers, where the given offer and the answer have other names.
pub unified : (g given : List Binding) (a b : List FTerm) (o q : Option (List Binding)) → g ≡ given → o ≡ q → UnifiesTerms g a b o → UnifiesTerms given a b q
unified g given a b o q e f u = subst (λ x. UnifiesTerms given a b x) f (subst (λ x. UnifiesTerms x a b o) e u)

-- What is answered for an item, by what unification answers for the item's arguments.
use Rattle.std.proofs.Common.{◌≡◌, ℕ, [], ◌∷◌, ◌++◌, length, List, Option, Some, None, ap, sym, ◌∙◌, subst, true}
use Rattle.std.specs.Prelude.{◌↔◌}
use Rattle.free_terms.specs.Free.{FreeTerms}
use Rattle.free_terms.specs.View.{terms_of}
use Rattle.free_terms.specs.declared.term.FTerm.{FTerm}
use Rattle.unify.specs.Offers.{Offer, Entails, Unifies}
use Rattle.unify.specs.Tests.{same_offer}
use Rattle.unify.specs.View.{offer_of}
use Rattle.unify.specs.declared.bindings.Binding.{Binding}
use Rattle.unify.proofs.Decides.{entails-true, same_offer-true}
use Rattle.unify.proofs.Injective.{offer_of_injective}
use Rattle.unify.proofs.Partial.{entails_itself}
use Rattle.unify.proofs.Parts.{same_count}
use Rattle.unify.proofs.Resolved.{count_terms}
use Rattle.nego_laws.specs.Tree.{Attempted, IsMostGeneral}
use Rattle.tab_tree.specs.Arguments.{ItemHas}
use Rattle.tab_tree.specs.RoundValue.{RoundValue}
use Rattle.tab_tree.specs.SiteValue.{SiteValue, segment_of}
use Rattle.round_offers.specs.RoundOffer.{RoundOffer, tree_of_round, tree_of_offer}
use Rattle.round_offers.specs.Sites.{StandsIn}
use Rattle.round_offers.proofs.Sites.{item_closes}

-- the offer belongs to the tree of the round
abbrev pub Belongs : RoundValue → RoundOffer → Type 0
Belongs r t = tree_of_offer t ≡ tree_of_round r

entails_front : (r s t : Offer) → Entails r (s ++ t) → Entails r s
entails_front r [] t e = tt
entails_front r (b ∷ s) t e = (e.0, entails_front r s t e.1)

module _ (r : RoundValue) (site : SiteValue) (stands : StandsIn r site) (k : ℕ) (given : RoundOffer) where
  -- The given offer serves where nothing has to be made equal.
  pub alone_attempted : ItemHas (segment_of site) k None → given.round ≡ r → Attempted (tree_of_round r) (Belongs r) site.name k given (Some given)
  alone_attempted has of =
      record {
        belongs = ap tree_of_round of;
        entails_given = (entails-true (offer_of given.bindings) (offer_of given.bindings)).1 (entails_itself (offer_of given.bindings) given.is_offer);
        closes_item = (item_closes r site stands k None has (offer_of given.bindings)).1 tt;
        most_general = λ u m e c. e;
      }

  -- Where no offer makes the arguments equal, none closes the item.
  pub none_attempted : (us vs : FreeTerms) → ItemHas (segment_of site) k (Some (us, vs)) → Unifies (offer_of given.bindings) us vs None
      → Attempted (tree_of_round r) (Belongs r) site.name k given None
  none_attempted us vs has none = λ u m e c.
      none (offer_of u.bindings) u.is_offer ((entails-true (offer_of u.bindings) (offer_of given.bindings)).0 e)
      ((item_closes r site stands k (Some (us, vs)) has (offer_of u.bindings)).0 c)

  -- A most general offer that makes the arguments equal serves.
  pub found_attempted : (us vs : FreeTerms) → ItemHas (segment_of site) k (Some (us, vs)) → (t : RoundOffer) → t.round ≡ r
      → Unifies (offer_of given.bindings) us vs (Some (offer_of t.bindings)) → Attempted (tree_of_round r) (Belongs r) site.name k given (Some t)
  found_attempted us vs has t of found =
      record {
        belongs = ap tree_of_round of;
        entails_given =
            (entails-true (offer_of t.bindings) (offer_of given.bindings)).1
            (entails_front (offer_of t.bindings) (offer_of given.bindings) found.more
            (subst (Entails (offer_of t.bindings)) found.begins (entails_itself (offer_of t.bindings) t.is_offer)));
        closes_item = (item_closes r site stands k (Some (us, vs)) has (offer_of t.bindings)).1 found.equates;
        most_general =
            λ u m e c.
            (entails-true (offer_of u.bindings) (offer_of t.bindings)).1
            (found.general (offer_of u.bindings) u.is_offer ((entails-true (offer_of u.bindings) (offer_of given.bindings)).0 e)
            ((item_closes r site stands k (Some (us, vs)) has (offer_of u.bindings)).0 c));
      }

-- No offer makes lists of two lengths equal.
pub lengths_differ : (given : Offer) (us vs : List FTerm) → (length us ≡ length vs → ⊥) → Unifies given (terms_of us) (terms_of vs) None
lengths_differ given us vs n s o e m = n (sym (count_terms us) ∙ same_count s (terms_of us) (terms_of vs) m ∙ count_terms vs)

pub same_bindings : (r s : List Binding) → same_offer (offer_of r) (offer_of s) ≡ true ↔ (r ≡ s)
same_bindings r s = (λ e. offer_of_injective r s ((same_offer-true (offer_of r) (offer_of s)).0 e), λ e. (same_offer-true (offer_of r) (offer_of s)).1 (ap offer_of e))

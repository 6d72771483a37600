-- The laws of a field, for the segments of a tableau.
use Rattle.std.proofs.Common.{◌≡◌, [], ap, sym, subst, ◌<◌}
use Rattle.unify.specs.Offers.{Offer, IsOffer}
use Rattle.unify.specs.Tests.{entails}
use Rattle.unify.proofs.Absorb.{transitive}
use Rattle.unify.proofs.Partial.{entails_itself}
use Rattle.unify.proofs.Decides.{entails-true, same_offer-true}
use Rattle.nego_laws.specs.Tree.{Laws}
use Rattle.tab_tree.specs.Segments.{Segments}
use Rattle.round_offers.specs.Places.{segments_at, height_at}
use Rattle.round_offers.specs.OfferTree.{tree_of}
use Rattle.round_offers.proofs.Places.{at_left, at_right, named, left_lower, right_lower}
use Rattle.round_offers.proofs.ClosingTests.{closes_at-more}

-- The values that belong to the tree stand for offers, each for another one, and the one that says nothing is among them.
pub record AreOffers {O : Type 0} (offer : O → Offer) (free : O) (mine : O → Type 0) : Type 0 where
  pub offers : (s : O) → mine s → IsOffer (offer s)
  pub free_belongs : mine free
  pub free_is_empty : offer free ≡ []
  pub apart : (r s : O) → mine r → mine s → offer r ≡ offer s → r ≡ s

pub tree_laws : {O : Type 0} (offer : O → Offer) (free : O) (gs : Segments) (mine : O → Type 0) → AreOffers offer free mine → Laws (tree_of offer free gs) mine
tree_laws offer free gs mine h =
    record {
      reflexive = λ s m. (entails-true (offer s) (offer s)).1 (entails_itself (offer s) (h.offers s m));
      transitive =
          λ r s u mr ms mu x y.
          (entails-true (offer r) (offer u)).1
          (transitive (offer r) (offer s) (offer u) ((entails-true (offer r) (offer s)).0 x) ((entails-true (offer s) (offer u)).0 y));
      free_belongs = h.free_belongs;
      free_is_least = λ r m. ap (entails (offer r)) h.free_is_empty;
      closes_more = λ r s n i mr ms x c. closes_at-more (offer r) (offer s) (segments_at gs n) i ((entails-true (offer r) (offer s)).0 x) c;
      same_is_equal = λ r s mr ms. (
        λ e. h.apart r s mr ms ((same_offer-true (offer r) (offer s)).0 e),
        λ e. (same_offer-true (offer r) (offer s)).1 (ap offer e),
      );
      left_is_lower =
          λ n p.
          subst (λ o. height_at o < height_at (segments_at gs n)) (sym (at_left gs n (named gs n p))) (left_lower (segments_at gs n) p);
      right_is_lower =
          λ n p.
          subst (λ o. height_at o < height_at (segments_at gs n)) (sym (at_right gs n (named gs n p))) (right_lower (segments_at gs n) p);
    }

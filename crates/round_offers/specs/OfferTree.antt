-- The segments of a tableau as what a negotiation is about.
use Rattle.unify.specs.Offers.{Offer}
use Rattle.unify.specs.Tests.{entails, same_offer}
use Rattle.nego_laws.specs.Tree.{Tree}
use Rattle.tab_tree.specs.Segments.{Segments}
use Rattle.round_offers.specs.Places.{segments_at, has_parts, height_at}
use Rattle.round_offers.specs.ClosingTests.{count_at, closes_at}

-- The tree of the segments, for values that stand for offers: the sites are the segments by their names, and the items
-- of a site are those of its segment.
abbrev pub tree_of : {O : Type 0} → (O → Offer) → O → Segments → Tree O
tree_of offer free gs =
    record {
      entails = λ r s. entails (offer r) (offer s);
      same = λ r s. same_offer (offer r) (offer s);
      free = free;
      items = λ n. count_at (segments_at gs n);
      closes = λ n i s. closes_at (segments_at gs n) i (offer s);
      parted = λ n. has_parts (segments_at gs n);
      height = λ n. height_at (segments_at gs n);
    }

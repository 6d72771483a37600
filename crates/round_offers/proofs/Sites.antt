-- What is read of a site is what the segment of its name has.
use Rattle.std.proofs.Common.{◌≡◌, ℕ, ◌*◌, ◌+◌, Bool, true, [], length, slice_get, Option, Some, None, is_some, refl, ap, sym, ◌∙◌, subst}
use Rattle.std.specs.Prelude.{◌↔◌}
use Rattle.free_terms.specs.Free.{FreeTerms}
use Rattle.unify.specs.Offers.{Offer, EquatesAll, IsMostGeneral}
use Rattle.branch_rules.specs.Branch.{entries}
use Rattle.tab_tree.specs.Tableau.{Tableau, IsTableau}
use Rattle.tab_tree.specs.Segments.{Segments, Segment, node, top, items, all_segments, IsAmong, itself}
use Rattle.tab_tree.specs.Arguments.{ItemHas}
use Rattle.tab_tree.specs.ClosingView.{ClosesAt}
use Rattle.tab_tree.specs.RoundValue.{RoundValue, root_of}
use Rattle.tab_tree.specs.SiteValue.{SiteValue, segment_of, IsOfRound, IsRoot, AreParts}
use Rattle.tab_tree.proofs.ItemArguments.{alone_at, two_at}
use Rattle.nego_laws.specs.Tree.{Tree}
use Rattle.round_offers.specs.Places.{segments_at, has_parts}
use Rattle.round_offers.specs.ClosingTests.{count_at, closes_at}
use Rattle.round_offers.specs.RoundTableau.{segments_of, IsOfferOf}
use Rattle.round_offers.specs.RoundOffer.{RoundOffer, tree_of_round}
use Rattle.round_offers.specs.Sites.{StandsIn}
use Rattle.round_offers.proofs.ClosingTests.{closes_at-true}
use Rattle.round_offers.proofs.Everywhere.{of_first, of_named}
use Rattle.round_offers.proofs.NamedSegments.{IsNamed, are_named, all_named, stands_at_name, parts_named, left_among, right_among}
use Rattle.round_offers.proofs.RoundOffers.{item_terms, found_of_round}

segment_stands : (r : RoundValue) (site : SiteValue) → IsOfRound r site → (t : Tableau) → IsTableau r.depth (root_of r) t
    → (hs : Segments) → IsAmong hs (all_segments (root_of r) t) → top hs ≡ segment_of site → StandsIn r site
segment_stands r site of t whole hs among first = record {
  of_round = of;
  segments = hs;
  at = ap (λ (g : Segment). segments_at (segments_of r) g.name) (sym first) ∙ stands_at_name r t whole hs among;
  first = first;
}

-- The first segment stands in the round's tableau.
pub root_stands : (r : RoundValue) (site : SiteValue) → IsRoot r site → StandsIn r site
root_stands r site h = segment_stands r site h.of_round h.tableau h.whole (all_segments (root_of r) h.tableau) itself h.first

pub root_name : (r : RoundValue) (site : SiteValue) → IsRoot r site → site.name ≡ 1
root_name r site h =
    ap (λ (g : Segment). g.name) (sym h.first)
    ∙ (of_first IsNamed 1 (all_segments (root_of r) h.tableau) (are_named 1 0 [] (root_of r) h.tableau)).name

-- The parts of a segment of the round's tableau stand in it.
pub left_stands : (r : RoundValue) (g : Segment) (left right : SiteValue) → AreParts r g left right → StandsIn r left
left_stands r g left right h =
    segment_stands r left h.left_of_round h.tableau h.whole h.below_left (left_among g h.below_left h.below_right (all_segments (root_of r) h.tableau) h.among) h.first_left

pub right_stands : (r : RoundValue) (g : Segment) (left right : SiteValue) → AreParts r g left right → StandsIn r right
right_stands r g left right h =
    segment_stands r right h.right_of_round h.tableau h.whole h.below_right (right_among g h.below_left h.below_right (all_segments (root_of r) h.tableau) h.among) h.first_right

pub left_name : (r : RoundValue) (g : Segment) (left right : SiteValue) → AreParts r g left right → left.name ≡ 2 * g.name
left_name r g left right h =
    ap (λ (k : Segment). k.name) (sym h.first_left) ∙ (parts_named r h.tableau h.whole g h.below_left h.below_right h.among).0

pub right_name : (r : RoundValue) (g : Segment) (left right : SiteValue) → AreParts r g left right → right.name ≡ 2 * g.name + 1
right_name r g left right h =
    ap (λ (k : Segment). k.name) (sym h.first_right) ∙ (parts_named r h.tableau h.whole g h.below_left h.below_right h.among).1

-- A segment with parts has them at its name.
pub parts_stand : (r : RoundValue) (g : Segment) (left right : SiteValue) → AreParts r g left right → has_parts (segments_at (segments_of r) g.name) ≡ true
parts_stand r g left right h = ap has_parts (stands_at_name r h.tableau h.whole (node g h.below_left h.below_right) h.among)

-- A tree tells its round.
pub one_round : (q r : RoundValue) → tree_of_round q ≡ tree_of_round r → q ≡ r
one_round q r e = ap (λ (t : Tree RoundOffer). t.free.round) e

pub stands_here : (q r : RoundValue) (site : SiteValue) → tree_of_round q ≡ tree_of_round r → StandsIn q site → StandsIn r site
stands_here q r site e h = subst (λ x. StandsIn x site) (one_round q r e) h

pub items_are : (r : RoundValue) (site : SiteValue) → StandsIn r site → length (items (segment_of site)) ≡ count_at (segments_at (segments_of r) site.name)
items_are r site h = ap (λ g. length (items g)) (sym h.first) ∙ sym (ap count_at h.at)

pub parts_are : (r : RoundValue) (site : SiteValue) → StandsIn r site → is_some site.splits_at ≡ has_parts (segments_at (segments_of r) site.name)
parts_are r site h =
    ap (λ (g : Segment). is_some g.splits_at) (sym h.first)
    ∙ (of_named IsNamed (segments_of r) (all_named r) site.name h.segments h.at).splits
    ∙ sym (ap has_parts h.at)

-- the offer makes the lists equal, where there are any
abbrev pub MakesEqual : Offer → Option (FreeTerms × FreeTerms) → Type 0
MakesEqual s None = Unit {0}
MakesEqual s (Some two) = EquatesAll s two.0 two.1

closes_where_equal : (s : Offer) (g : Segment) (k : ℕ) (two : Option (FreeTerms × FreeTerms)) → ItemHas g k two → ClosesAt s g k ↔ MakesEqual s two
closes_where_equal s g k None h = (λ c. tt, λ m. alone_at s g k h)
closes_where_equal s g k (Some two) h = let both = two_at s g k two.0 two.1 h in (both.1, both.0)

-- An offer closes an item exactly where it makes the item's arguments equal.
pub item_closes : (r : RoundValue) (site : SiteValue) → StandsIn r site → (k : ℕ) (two : Option (FreeTerms × FreeTerms)) → ItemHas (segment_of site) k two → (s : Offer)
    → closes_at (segments_at (segments_of r) site.name) k s ≡ true ↔ MakesEqual s two
item_closes r site h k two has s =
    let there = closes_at-true s h.segments k in
    let equal = closes_where_equal s (top h.segments) k two (subst (λ g. ItemHas g k two) (sym h.first) has) in
    let here = ap (λ gs. closes_at gs k s) h.at in
    (λ c. equal.0 (there.0 (sym here ∙ c)), λ m. here ∙ there.1 (equal.1 m))

-- What makes an item's arguments equal is of the round.
pub site_found_of_round : (r : RoundValue) (site : SiteValue) → StandsIn r site
    → (k : ℕ) (two : FreeTerms × FreeTerms) → ItemHas (segment_of site) k (Some two) → (given found : Offer) → IsOfferOf r given
    → IsMostGeneral given two.0 two.1 found → IsOfferOf r found
site_found_of_round r site h k two has given found of m =
    let there = subst (λ g. ItemHas g k (Some two)) (sym h.first) has in
    found_of_round r (entries (top h.segments).branch) (item_terms r h.of_round.rules site.name h.segments h.at) there.0 two there.2 given found of m

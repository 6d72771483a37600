-- Worked names: a tree whose first segment splits, and then its left part.
use Rattle.std.proofs.Common.{◌≡◌, Some, None, refl, true, false}
use Rattle.tab_tree.specs.Segments.{Segment, Segments, tip, node}
use Rattle.round_offers.specs.Places.{segments_at, has_parts, height_at}

abbrev worked : Segment → Segments → Segments → Segment → Segments
worked a d e c = node a (node a d e) (tip c)

first : (a c : Segment) (d e : Segments) → segments_at (worked a d e c) 1 ≡ Some (worked a d e c)
first a c d e = refl

right : (a c : Segment) (d e : Segments) → segments_at (worked a d e c) 3 ≡ Some (tip c)
right a c d e = refl

left_of_left : (a c : Segment) (d e : Segments) → segments_at (worked a d e c) 4 ≡ Some d
left_of_left a c d e = refl

right_of_left : (a c : Segment) (d e : Segments) → segments_at (worked a d e c) 5 ≡ Some e
right_of_left a c d e = refl

below_a_leaf : (a c : Segment) (d e : Segments) → segments_at (worked a d e c) 6 ≡ None
below_a_leaf a c d e = refl

nothing_is_named_0 : (gs : Segments) → segments_at gs 0 ≡ None
nothing_is_named_0 gs = refl

parted : (a b c d : Segment) → has_parts (segments_at (worked a (tip b) (tip d) c) 2) ≡ true
parted a b c d = refl

unparted : (a b c d : Segment) → has_parts (segments_at (worked a (tip b) (tip d) c) 3) ≡ false
unparted a b c d = refl

tall : (a b c d : Segment) → height_at (segments_at (worked a (tip b) (tip d) c) 1) ≡ 2
tall a b c d = refl

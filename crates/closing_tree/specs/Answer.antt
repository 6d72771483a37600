-- What is answered of an offer: its closed tree of a round.
use Rattle.std.specs.Prelude.{◌≡◌, ℕ, Option, None, Some, take, slice_get}
use Rattle.unify.specs.Offers.{Offer}
use Rattle.branch_rules.specs.Branch.{entries}
use Rattle.tab_tree.specs.Tableau.{Tableau, IsTableau}
use Rattle.tab_tree.specs.Items.{Item, ClosesNone}
use Rattle.tab_tree.specs.Segments.{Segment, Segments, items, all_segments, top, Solves, IsAmong}
use Rattle.tab_tree.specs.ClosedTree as spec
use Rattle.tab_tree.specs.RoundValue.{RoundValue, root_of}
use Rattle.tab_tree.specs.SiteValue.{SiteValue, segment_of, AreParts}
use Rattle.tab_tree.specs.ClosingView.{closed_tree_of}
use Rattle.tab_tree.specs.declared.closed.ClosedTree.{ClosedTree}

-- the tree is the offer's closed tree of the round, or the offer closes no tableau of the round
abbrev pub IsAnswer : RoundValue → Offer → Option ClosedTree → Type 0
IsAnswer r s (Some c) =
    (t : Tableau) × IsTableau r.depth (root_of r) t
    × spec.IsClosedTree s (all_segments (root_of r) t) (closed_tree_of c)
IsAnswer r s None = (t : Tableau) × IsTableau r.depth (root_of r) t × (Solves s (all_segments (root_of r) t) → ⊥)

-- the segments of the round's tableau from the segment on
pub record AreFrom (r : RoundValue) (g : Segment) (gs : Segments) : Type 0 where
  pub tableau : Tableau
  pub whole : IsTableau r.depth (root_of r) tableau
  pub among : IsAmong gs (all_segments (root_of r) tableau)
  pub first : top gs ≡ g

-- the same of the segments from one on: the tree is their closed tree, or the offer does not solve them
pub data IsAnswerFrom (r : RoundValue) (g : Segment) (s : Offer) : Option spec.ClosedTree → Type 0 where
  is_tree : (c : spec.ClosedTree) → ((gs : Segments) → AreFrom r g gs → spec.IsClosedTree s gs c)
      → IsAnswerFrom r g s (Some c)
  unsolved : ((gs : Segments) → AreFrom r g gs → Solves s gs → ⊥) → IsAnswerFrom r g s None

-- the trees of two parts
abbrev pub two_trees : ClosedTree × ClosedTree → spec.ClosedTree × spec.ClosedTree
two_trees two = (closed_tree_of two.0, closed_tree_of two.1)

-- the same of two sites: both trees, or the offer does not solve the segments from one of them on
pub data AreBoth (r : RoundValue) (left right : SiteValue) (s : Offer) : Option (spec.ClosedTree × spec.ClosedTree)
    → Type 0 where
  are_trees : (c e : spec.ClosedTree) → IsAnswerFrom r (segment_of left) s (Some c)
      → IsAnswerFrom r (segment_of right) s (Some e) → AreBoth r left right s (Some (c, e))
  left_unsolved : IsAnswerFrom r (segment_of left) s None → AreBoth r left right s None
  right_unsolved : IsAnswerFrom r (segment_of right) s None → AreBoth r left right s None

-- the same of the parts of a segment, which a leaf does not have
pub data AreBelow (r : RoundValue) (g : Segment) (s : Offer) : Option (spec.ClosedTree × spec.ClosedTree) → Type 0 where
  no_parts : g.splits_at ≡ None → AreBelow r g s None
  of_parts : (left right : SiteValue) (found : Option (spec.ClosedTree × spec.ClosedTree)) → AreParts r g left right
      → AreBoth r left right s found → AreBelow r g s found

-- the item of that number is the first one that is equated
abbrev pub FirstAt : Offer → Segment → ℕ → Type 0
FirstAt s g n = (item : Item) × (slice_get (items g) n ≡ Some item) × spec.FirstClosed s g item

-- none of the first items is equated
abbrev pub NoneBefore : Offer → Segment → ℕ → Type 0
NoneBefore s g n = ClosesNone s (entries g.branch) (take n (items g))

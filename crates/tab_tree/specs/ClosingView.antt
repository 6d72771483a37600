-- The closed trees that the program's trees stand for.
use Rattle.std.specs.Prelude.{◌≡◌, ℕ, Option, None, Some, slice_get}
use Rattle.unify.specs.Offers.{Offer}
use Rattle.branch_rules.specs.Branch.{entries}
use Rattle.tab_tree.specs.Items.{Item, false_at, ClosesItem}
use Rattle.tab_tree.specs.Segments.{Segment, items}
use Rattle.tab_tree.specs.ClosedTree as spec
use Rattle.tab_tree.specs.SiteValue.{segment_of}
use Rattle.tab_tree.specs.declared.closed.ClosedTree.{ClosedTree, fold-ClosedTree}
use Rattle.tab_tree.specs.declared.closed.ClosedTree.TheOpen.{ClosedTree-F}

abbrev pub item_or_first : Option Item → Item
item_or_first None = false_at 0
item_or_first (Some item) = item

abbrev pub tree_level : ClosedTree-F spec.ClosedTree → spec.ClosedTree
tree_level (ClosedTree-F.Leaf site n) =
    spec.closed (segment_of site) (item_or_first (slice_get (items (segment_of site)) n))
tree_level (ClosedTree-F.Fork site left right) = spec.forked (segment_of site) left right

abbrev pub closed_tree_of : ClosedTree → spec.ClosedTree
closed_tree_of = fold-ClosedTree spec.ClosedTree tree_level

-- the item of that number is equated
abbrev pub ClosesAt : Offer → Segment → ℕ → Type 0
ClosesAt s g n = (item : Item) × (slice_get (items g) n ≡ Some item) × ClosesItem s (entries g.branch) item

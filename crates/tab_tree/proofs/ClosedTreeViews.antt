-- What the program's closed trees stand for.
use Rattle.std.proofs.Common.{◌≡◌, ℕ, slice_get}
use Rattle.tab_tree.specs.Segments.{items}
use Rattle.tab_tree.specs.SiteValue.{SiteValue, segment_of}
use Rattle.tab_tree.specs.ClosingView.{closed_tree_of, item_or_first, tree_level}
use Rattle.tab_tree.specs.ClosedTree as spec
use Rattle.tab_tree.specs.declared.closed.ClosedTree.{ClosedTree, fold-roll-ClosedTree}
use Rattle.tab_tree.specs.declared.closed.ClosedTree.TheOpen.{ClosedTree-F}
use Rattle.tab_tree.specs.declared.closed.ClosedTree.TheVariants.{Leaf, Fork}
use Rattle.tab_tree.specs.declared.closed.ClosedTree.TheViews.{roll-ClosedTree}
use denote.Hole.Carrier.{roll}

pub tree_of_leaf : (site : SiteValue) (n : ℕ) → closed_tree_of (Leaf site n) ≡ spec.closed (segment_of site) (item_or_first (slice_get (items (segment_of site)) n))
unfolding roll-ClosedTree roll
tree_of_leaf site n = fold-roll-ClosedTree spec.ClosedTree tree_level (ClosedTree-F.Leaf site n)

pub tree_of_fork : (site : SiteValue) (c e : ClosedTree) → closed_tree_of (Fork site c e) ≡ spec.forked (segment_of site) (closed_tree_of c) (closed_tree_of e)
unfolding roll-ClosedTree roll
tree_of_fork site c e = fold-roll-ClosedTree spec.ClosedTree tree_level (ClosedTree-F.Fork site c e)

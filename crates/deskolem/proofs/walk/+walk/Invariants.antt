use Rattle.std.proofs.Common.{◌+◌, ◌*◌, max}
use Rattle.tab_tree.specs.declared.closed.ClosedTree.{size-ClosedTree}
use Rattle.deskolem.proofs.walk.+walk.Given as goal

-- the trees get lower on the way down
abbrev pub decreases-walk_tree : goal.decreases-walk_tree
decreases-walk_tree l = 4 * size-ClosedTree l.tree.now

abbrev pub decreases-walk_side : goal.decreases-walk_side
decreases-walk_side l = 4 * size-ClosedTree l.tree.now + 1

abbrev pub decreases-walk_sides : goal.decreases-walk_sides
decreases-walk_sides l = 4 * max (size-ClosedTree l.left.now) (size-ClosedTree l.right.now) + 2

abbrev pub decreases-walk_fork : goal.decreases-walk_fork
decreases-walk_fork l = 4 * max (size-ClosedTree l.left.now) (size-ClosedTree l.right.now) + 3

use Rattle.std.proofs.Common.{None, Some}
use Rattle.std.proofs.lemmas.Result.{IfOk-weaker}
use Rattle.unify.specs.View.{offer_of}
use Rattle.tab_tree.specs.SiteValue.{segment_of}
use Rattle.tab_tree.specs.ClosingView.{closed_tree_of}
use Rattle.closing_tree.specs.Answer.{are_trees, left_unsolved, right_unsolved, no_parts, of_parts}
use Rattle.closing_tree.proofs.ClosedTrees.{leaf_is}
use Rattle.closing_tree.proofs.closing_tree.+closed.Goals as goal

pub closed_below-returns-in-None : goal.closed_below-returns-in-None
closed_below-returns-in-None n c = no_parts (rw c.in-None.is at c.in_ok-split.ensures.parts)

pub closed_below-returns-in-Some : goal.closed_below-returns-in-Some
closed_below-returns-in-Some n c =
    IfOk-weaker _ _ _ (λ found both. of_parts c.in-Some.left c.in-Some.right _ (rw c.in-Some.is at c.in_ok-split.ensures.parts) both)
    c.closed_both.ensures

pub closed_both-returns-in_default : goal.closed_both-returns-in_default
closed_both-returns-in_default n c = left_unsolved (rw c.in_default.is at c.in_ok-left.ensures)

pub closed_both-returns-in_default-2 : goal.closed_both-returns-in_default-2
closed_both-returns-in_default-2 n c = right_unsolved (rw c.in_default-2.is at c.in_ok-right.ensures)

pub closed_both-returns : goal.closed_both-returns
closed_both-returns n c =
    are_trees _ _ (rw c.in-Some.is at c.in_ok-left.ensures) (rw c.in-Some-2.is at c.in_ok-right.ensures)

pub closed_from-returns-in-Some : goal.closed_from-returns-in-Some
closed_from-returns-in-Some n c =
    leaf_is c.args.round.now (segment_of c.args.site) (offer_of c.args.s.now) c.in-Some.item (closed_tree_of c.in_ok-leaf.field-0)
    c.in-Some.ensures c.in_ok-leaf.ensures

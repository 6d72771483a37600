use Rattle.unify.specs.View.{offer_of}
use Rattle.closing_tree.specs.Answer.{NoneBefore}
use Rattle.tab_tree.specs.SiteValue.{segment_of}
use Rattle.closing_tree.proofs.closing_tree.first_closed.Given as goal

abbrev pub invariant-loop-item : goal.invariant-loop-item
invariant-loop-item l = NoneBefore (offer_of l.s) (segment_of l.site) l.item

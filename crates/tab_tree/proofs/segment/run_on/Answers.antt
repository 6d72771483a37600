use Rattle.std.proofs.Common.{sym, ◌∙◌, subst}
use Rattle.branch_rules.specs.Steps.{IsNextAnswer}
use Rattle.tab_tree.proofs.SegmentRuns.{begun, one_more, smaller, at_leaf, at_split}
use Rattle.tab_tree.proofs.segment.run_on.Goals as goal

pub loop-steps-init : goal.loop-steps-init
loop-steps-init c = begun c.args.depth c.args.branch c.new-steps.result c.new-steps.ensures c.requires.ready

pub next-requires-clause-ready : goal.next-requires-clause-ready
next-requires-clause-ready c = c.loop-steps.invariant.ready

pub next-requires-clause-rules : goal.next-requires-clause-rules
next-requires-clause-rules c =
    c.get.ensures ∙ c.in_ok-rules.ensures ∙ c.rules.ensures ∙ sym c.loop-steps.invariant.rules

pub loop-steps-smaller : goal.loop-steps-smaller
loop-steps-smaller c = smaller c.args.depth c.loop-steps.at c.in-Ok-One.branch c.in-Ok-One.step (subst (IsNextAnswer c.loop-steps.at c.args.depth) c.in-Ok-One.field-0-is c.in-Ok-One.ensures)

pub loop-steps-preserved : goal.loop-steps-preserved
loop-steps-preserved c =
    one_more c.args.depth c.args.branch c.loop-steps.at c.in-Ok-One.branch c.loop-steps.steps c.push.new.self c.in-Ok-One.step
    c.loop-steps.invariant (subst (IsNextAnswer c.loop-steps.at c.args.depth) c.in-Ok-One.field-0-is c.in-Ok-One.ensures) c.in_ok-push-in-Ok-One.ensures.ok

pub returns-in-Ok-Done : goal.returns-in-Ok-Done
returns-in-Ok-Done c =
    at_leaf c.args.depth c.args.branch c.loop-steps.at c.in-Ok-Done.branch c.loop-steps.steps c.loop-steps.invariant (subst (IsNextAnswer c.loop-steps.at c.args.depth) c.in-Ok-Done.field-0-is c.in-Ok-Done.ensures)

pub returns-in-Ok-Splits : goal.returns-in-Ok-Splits
returns-in-Ok-Splits c =
    at_split c.args.depth c.args.branch c.loop-steps.at c.in-Ok-Splits.branch c.loop-steps.steps c.in-Ok-Splits.place c.loop-steps.invariant
    (subst (IsNextAnswer c.loop-steps.at c.args.depth) c.in-Ok-Splits.field-0-is c.in-Ok-Splits.ensures)

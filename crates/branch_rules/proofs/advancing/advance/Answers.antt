use Rattle.std.proofs.Common.{◌≡◌, refl, ap, sym, ◌∙◌, subst}
use Rattle.branch_rules.specs.BranchView.{branch_in, born_in}
use Rattle.branch_rules.specs.Plans.{HasFront}
use Rattle.branch_rules.proofs.Same.{reads_same, agenda_same}
use Rattle.branch_rules.proofs.Came.{leaf_outcome, split_outcome, step_means, step_outcome}
use Rattle.branch_rules.proofs.advancing.advance.Goals as goal

pub returns-in-Done-clause-ok : goal.returns-in-Done-clause-ok
returns-in-Done-clause-ok c =
    leaf_outcome c.args.lists.now c.open_all.new.lists c.args.depth c.in_ok-next_plan.field-0 c.in_ok-open_all.ensures.same c.in-Done.is c.in_ok-next_plan.ensures.means

pub returns-in-Split-clause-ok : goal.returns-in-Split-clause-ok
returns-in-Split-clause-ok c =
    split_outcome c.args.lists.now c.open_all.new.lists c.args.depth c.in-Split.place c.in_ok-next_plan.field-0 c.in_ok-open_all.ensures.same c.in-Split.is c.in_ok-next_plan.ensures.means

pub returns-in_ok-step-in-Step-clause-ok : goal.returns-in_ok-step-in-Step-clause-ok
returns-in_ok-step-in-Step-clause-ok c =
    step_outcome c.args.lists.now c.open_all.new.lists c.take.new.lists c.args.depth c.in-Step.work c.in_ok-step-in-Step.step c.in_ok-next_plan.field-0 c.in_ok-open_all.ensures.same c.in-Step.is
    c.in_ok-next_plan.ensures.means c.in_ok-step-in-Step.ensures.ok

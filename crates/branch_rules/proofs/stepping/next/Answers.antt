use Rattle.std.proofs.Common.{◌∙◌, subst}
use Rattle.branch_rules.specs.Next.{IsLeaf}
use Rattle.branch_rules.specs.BranchValue.{branch_of}
use Rattle.branch_rules.specs.BranchView.{branch_in}
use Rattle.branch_rules.specs.Outcomes.{IsOutcome}
use Rattle.branch_rules.proofs.Ready.{ready_split}
use Rattle.branch_rules.proofs.Same.{same_value, ready_same}
use Rattle.branch_rules.proofs.stepping.next.Goals as goal

pub split_ready-requires-clause-splits : goal.split_ready-requires-clause-splits
split_ready-requires-clause-splits c =
    let was = c.branch.inside in
    let came = subst (IsOutcome was.lists c.advance.new.lists c.args.depth) c.in-Ok-Splits.field-0-is c.in-Ok-Splits.ensures.ok in
    ready_same was.lists c.advance.new.lists c.in-Ok-Splits.place came.0 (ready_split (branch_in was.lists) c.args.depth c.in-Ok-Splits.place came.1)

pub returns-in-Ok-Done : goal.returns-in-Ok-Done
returns-in-Ok-Done c =
    let was = c.branch.inside in
    let came = subst (IsOutcome was.lists c.advance.new.lists c.args.depth) c.in-Ok-Done.field-0-is c.in-Ok-Done.ensures.ok in
    (same_value was.lists c.advance.new.lists was.ready came.0 ∙ c.branch.view_is, subst (λ v. IsLeaf (branch_of v) c.args.depth) c.branch.view_is came.1)

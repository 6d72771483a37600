use Rattle.std.proofs.Common.{◌≡◌}
use Rattle.std.proofs.lemmas.Result.{IfOk-weaker}
use Rattle.branch_rules.specs.BranchValue.{branch_of}
use Rattle.tab_tree.specs.RoundValue.{root_of}
use Rattle.tab_tree.proofs.SegmentRuns.{root_segment, root_site}
use Rattle.tab_tree.proofs.segment.root.Goals as goal

pub finish-requires-clause-segment : goal.finish-requires-clause-segment
finish-requires-clause-segment c =
    let is : branch_of c.in_ok-branch.branch ≡ root_of c.args.round.now = cc (c.in_ok-branch.ensures.branch, c.get.ensures, c.problem.ensures, c.rules.ensures.value) in
    root_segment c.args.round.now c.depth-depth.result c.in_ok-branch.branch c.in_ok-run.run' is c.in_ok-run.ensures

pub returns-clause-root : goal.returns-clause-root
returns-clause-root c =
    let is : branch_of c.in_ok-branch.branch ≡ root_of c.args.round.now = cc (c.in_ok-branch.ensures.branch, c.get.ensures, c.problem.ensures, c.rules.ensures.value) in
    IfOk-weaker _ _ _
    (λ site same. root_site c.args.round.now c.depth-depth.result c.in_ok-branch.branch c.in_ok-run.run' site c.rules.ensures.of_problem is c.depth-depth.ensures c.in_ok-run.ensures same)
    c.finish.ensures

use Rattle.std.proofs.Common.{◌≤◌}
use Rattle.fof_parse.specs.ProblemView.{plain_problem}
use Rattle.rewrite_rules.specs.RuleView.{rules_in}
use Rattle.deepening.specs.Depths.{NoneBefore}
use Rattle.deepening.proofs.searching.search_alone.Given as goal

abbrev pub invariant-loop-depth : goal.invariant-loop-depth
invariant-loop-depth l = record {
  first : 1 ≤ l.depth;
  none_before : NoneBefore (plain_problem l.problem) (rules_in l.rules) l.depth;
}

use Rattle.std.proofs.Common.{drop, [], ◌∷◌}
use Rattle.fol_core.specs.View.{formulas_of}
use Rattle.gs3_rules.specs.Apply.{rules_of}
use Rattle.gs3_kernel.specs.OpenLists.{left_of, LeftIsSound}
use Rattle.gs3_kernel.proofs.Turns.{Reaches}
use Rattle.gs3_kernel.proofs.checking.check_steps.Given as goal

abbrev pub invariant-loop-at : goal.invariant-loop-at
invariant-loop-at l = record {
  sound : LeftIsSound l.left;
  reaches : Reaches (formulas_of l.fn.start ∷ []) (rules_of l.steps) (left_of l.left) (rules_of (drop l.at l.steps)) l.at;
}

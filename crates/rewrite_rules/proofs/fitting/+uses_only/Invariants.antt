use Rattle.std.proofs.Common.{◌≡◌, ◌≤◌}
use Rattle.fol_core.specs.View.{formula_of}
use Rattle.fol_core.specs.declared.formula.Formula.{size-Formula}
use Rattle.rewrite_rules.specs.Fitting.{uses_only}
use Rattle.rewrite_rules.proofs.fitting.+uses_only.Given as goal

abbrev pub decreases-uses_only : goal.decreases-uses_only
decreases-uses_only l = goal.size-uses_only l

abbrev pub invariant-loop-at : goal.invariant-loop-at
invariant-loop-at l = record {
  smaller : size-Formula _ l.at ≤ size-Formula _ l.initial.at;
  alike : uses_only l.depth l.marks (formula_of l.at) ≡ uses_only l.initial.depth l.marks (formula_of l.initial.at);
}

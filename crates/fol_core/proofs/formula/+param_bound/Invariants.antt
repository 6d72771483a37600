use Rattle.std.proofs.Common.{◌≡◌, ◌≤◌, max}
use Rattle.fol_core.specs.Syntax.{param_bound}
use Rattle.fol_core.specs.View.{formula_of}
use Rattle.fol_core.specs.declared.formula.Formula.{size-Formula}
use Rattle.fol_core.proofs.formula.+param_bound.Given as goal

abbrev pub invariant-loop-at : goal.invariant-loop-at
invariant-loop-at l = record {
  smaller : size-Formula _ l.at ≤ size-Formula _ l.initial.at;
  alike : max l.most (param_bound (formula_of l.at)) ≡ param_bound (formula_of l.initial.at);
}

use Rattle.std.proofs.Common.{◌≡◌, ◌≤◌}
use Rattle.fol_core.specs.Syntax.{param_in}
use Rattle.fol_core.specs.View.{formula_of}
use Rattle.fol_core.specs.declared.formula.Formula.{size-Formula}
use Rattle.fol_core.proofs.formula.+occurs_param.Given as goal

abbrev pub invariant-loop-at : goal.invariant-loop-at
invariant-loop-at l = record {
  smaller : size-Formula _ l.at ≤ size-Formula _ l.initial.at;
  alike : param_in l.param (formula_of l.at) ≡ param_in l.param (formula_of l.initial.at);
}

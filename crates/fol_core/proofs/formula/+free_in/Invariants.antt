use Rattle.std.proofs.Common.{◌≤◌, ◌^◌, ◌-◌}
use Rattle.fol_core.specs.Syntax.{free_in}
use Rattle.fol_core.specs.View.{formula_of}
use Rattle.fol_core.specs.declared.formula.Formula.{size-Formula}
use Rattle.fol_core.proofs.Depth.{Remains}
use Rattle.fol_core.proofs.formula.+free_in.Given as goal

abbrev pub invariant-loop-at : goal.invariant-loop-at
invariant-loop-at l = record {
  smaller : size-Formula _ l.at ≤ size-Formula _ l.initial.at;
  remains : Remains (2 ^ 64 - 1) l.depth l.most (free_in (formula_of l.at)) (free_in (formula_of l.initial.at));
}

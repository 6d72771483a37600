use Rattle.std.proofs.Common.{◌≤◌}
use Rattle.fol_core.specs.declared.formula.Formula.{size-Formula}
use Rattle.fol_core.proofs.formula.Formula.+drop.Given as goal

abbrev pub invariant-loop-self : goal.invariant-loop-self
invariant-loop-self g l = size-Formula _ l.self ≤ size-Formula _ l.initial.self

use Rattle.std.proofs.Common.{◌≡◌, ◌↔◌, ◌≤◌}
use Rattle.fol_core.specs.declared.formula.Formula.{size-Formula}
use Rattle.fol_core.proofs.formula.+same.Given as goal

abbrev pub invariant-loop-a : goal.invariant-loop-a
invariant-loop-a l = record {
  smaller : size-Formula _ l.a ≤ size-Formula _ l.initial.a;
  alike : (l.a ≡ l.b) ↔ (l.initial.a ≡ l.initial.b);
}

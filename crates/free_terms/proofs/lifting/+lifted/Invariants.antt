use Rattle.std.proofs.Common.{◌≡◌, ◌≤◌}
use Rattle.fol_core.specs.View as plain
use Rattle.fol_core.specs.declared.formula.Formula.{size-Formula}
use Rattle.fol_core.specs.Around.{plain_around}
use Rattle.free_terms.specs.Free.{lift}
use Rattle.free_terms.specs.View.{terms_of}
use Rattle.free_terms.specs.NoParam.{NoParamIn}
use Rattle.free_terms.proofs.lifting.+lifted.Given as goal

abbrev pub invariant-lifted-loop-at : goal.invariant-lifted-loop-at
invariant-lifted-loop-at l = record {
  smaller : size-Formula _ l.at ≤ size-Formula _ l.initial.at;
  no_param : NoParamIn (plain.formula_of l.at);
  whole : plain_around terms_of l.wraps.items (lift (plain.formula_of l.at)) ≡ lift (plain.formula_of l.f);
}

use Rattle.std.proofs.Common.{◌≡◌}
use Rattle.fol_core.specs.View as plain
use Rattle.rewrite_rules.specs.Fitting.{under}
use Rattle.rewrite_rules.proofs.equivalence.strip.Given as goal

abbrev pub invariant-loop-at : goal.invariant-loop-at
invariant-loop-at l = plain.formula_of l.f ≡ under l.count (plain.formula_of l.at)

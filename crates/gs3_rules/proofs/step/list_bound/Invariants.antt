use Rattle.std.proofs.Common.{◌≡◌, max, drop}
use Rattle.fol_core.specs.View.{formulas_of}
use Rattle.gs3_rules.specs.ParamBound.{list_bound}
use Rattle.gs3_rules.proofs.step.list_bound.Given as goal

abbrev pub invariant-loop-f : goal.invariant-loop-f
invariant-loop-f l = max l.most (list_bound (formulas_of (drop l.f-index l.f-items))) ≡ list_bound (formulas_of l.f-items)

use Rattle.std.proofs.Common.{◌≡◌, ℕ, suc, ◌-◌, false, length, get_or}
use Rattle.rewrite_rules.proofs.fitting.widen.Given as goal

abbrev pub invariant-loop-marks : goal.invariant-loop-marks
invariant-loop-marks l = (k : ℕ) → get_or l.marks k false ≡ get_or l.initial.marks k false

abbrev pub decreases-loop-marks : goal.decreases-loop-marks
decreases-loop-marks l = suc l.place - length l.marks

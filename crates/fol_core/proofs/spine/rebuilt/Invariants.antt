use Rattle.std.proofs.Common.{◌≡◌, vec_len}
use Rattle.fol_core.specs.Around.{around}
use Rattle.fol_core.proofs.spine.rebuilt.Given as goal

abbrev pub invariant-loop-wrap : goal.invariant-loop-wrap
invariant-loop-wrap g l = around l.wraps.items l.out ≡ around l.initial.wraps.items l.initial.out

abbrev pub decreases-loop-wrap : goal.decreases-loop-wrap
decreases-loop-wrap g l = vec_len l.wraps

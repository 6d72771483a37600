use Rattle.std.proofs.Common.{◌≡◌, vec_len}
use Rattle.pool_run.proofs.crew.all_thieves.Given as goal

abbrev pub invariant-loop-i : goal.invariant-loop-i
invariant-loop-i g l = vec_len l.all ≡ l.i

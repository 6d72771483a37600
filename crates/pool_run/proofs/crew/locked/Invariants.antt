use Rattle.std.proofs.Common.{◌≡◌, ◌+◌, vec_len}
use Rattle.pool_run.proofs.crew.locked.Given as goal

abbrev pub invariant-loop-own : goal.invariant-loop-own
invariant-loop-own g l =
    (vec_len l.thieves ≡ vec_len l.owners) × (vec_len l.all + vec_len l.owners ≡ vec_len l.fn.owners)

abbrev pub decreases-loop-own : goal.decreases-loop-own
decreases-loop-own g l = vec_len l.owners

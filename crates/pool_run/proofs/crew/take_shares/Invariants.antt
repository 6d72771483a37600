use Rattle.std.proofs.Common.{◌≡◌, ◌+◌, vec_len, length}
use Rattle.pool_run.proofs.crew.take_shares.Given as goal

abbrev pub invariant-loop-share : goal.invariant-loop-share
invariant-loop-share g l =
    (vec_len l.all + length l.shares.held ≡ length l.initial.shares.held) × (l.shares.made ≡ l.initial.shares.made)
    × (l.shares.limit ≡ l.initial.shares.limit)

abbrev pub decreases-loop-share : goal.decreases-loop-share
decreases-loop-share g l = length l.shares.held

use Rattle.std.proofs.Common.{◌≡◌, ◌+◌, vec_len, sum}
use Rattle.step_book.proofs.count.Book.total.Given as goal

abbrev pub invariant-loop-share : goal.invariant-loop-share
invariant-loop-share g l = (l.all.parts + vec_len l.held ≡ l.fn.shares.made) × (l.all.amount + sum l.held.items ≡ sum l.fn.shares.held)

abbrev pub decreases-loop-share : goal.decreases-loop-share
decreases-loop-share g l = goal.left-loop-share g l

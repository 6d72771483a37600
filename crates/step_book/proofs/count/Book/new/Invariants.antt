use Rattle.std.proofs.Common.{◌≡◌, ◌+◌, ◌≤◌, vec_capacity, replicate}
use Rattle.step_book.proofs.count.Book.new.Given as goal

abbrev pub invariant-loop-i : goal.invariant-loop-i
invariant-loop-i g l = (l.whole.parts + l._i ≡ l.shares) × (l.whole.amount ≡ 0) × (l.held.items ≡ replicate l._i 0) × (l.shares ≤ vec_capacity l.held)

use Rattle.std.proofs.Common.{length}
use Rattle.unify.specs.Memo.{KeepsMemory}
use Rattle.unify.proofs.memo.settle.Given as goal

abbrev pub invariant-loop-met : goal.invariant-loop-met
invariant-loop-met l = KeepsMemory l.left l.initial.memo l.memo

abbrev pub decreases-loop-met : goal.decreases-loop-met
decreases-loop-met l = length l.memo.waiting.items

use Rattle.std.proofs.Common.{◌≡◌, [], ℕ, suc, ◌-◌, length, get_or}
use Rattle.rewrite_rules.proofs.grouping.widen.Given as goal

abbrev pub invariant-loop-alloc : goal.invariant-loop-alloc
invariant-loop-alloc l = (p : ℕ) → get_or l.groups.items p [] ≡ get_or l.initial.groups.items p []

abbrev pub decreases-loop-alloc : goal.decreases-loop-alloc
decreases-loop-alloc l = suc l.predicate - length l.groups.items

use Rattle.std.proofs.Common.{ℕ, ◌≤◌, ◌<◌}
use Rattle.branch_rules.specs.Next.{conjunctive, IsPending}
use Rattle.branch_rules.specs.BranchView.{branch_in}
use Rattle.branch_rules.proofs.conjunct.find_conjunctive.Given as goal

abbrev pub invariant-loop-i : goal.invariant-loop-i
invariant-loop-i l = (j : ℕ) → l.from ≤ j → j < l.i → IsPending (branch_in l.lists) l.depth conjunctive j → ⊥

use Rattle.std.proofs.Common.{ℕ, ◌≤◌, ◌<◌}
use Rattle.branch_rules.specs.BranchView.{branch_in}
use Rattle.branch_rules.specs.Plans.{IsFree}
use Rattle.branch_rules.proofs.finding.find.Given as goal

abbrev pub invariant-loop-i : goal.invariant-loop-i
invariant-loop-i l = (j : ℕ) → l.from ≤ j → j < l.i → IsFree (branch_in l.lists) l.kind j → ⊥

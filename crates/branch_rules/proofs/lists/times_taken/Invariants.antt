use Rattle.std.proofs.Common.{◌≡◌, ◌≤◌}
use Rattle.branch_rules.specs.BranchView.{branch_in}
use Rattle.branch_rules.proofs.Counted.{counted}
use Rattle.branch_rules.proofs.lists.times_taken.Given as goal

abbrev pub invariant-loop-n : goal.invariant-loop-n
invariant-loop-n l = record {
  count : l.times ≡ counted (branch_in l.lists).steps l.place l.n;
  within : l.times ≤ l.n;
}

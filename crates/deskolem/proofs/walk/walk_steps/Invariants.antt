use Rattle.std.proofs.Common.{◌≡◌, ◌≤◌, drop, length, map, take}
use Rattle.branch_rules.specs.BranchValue.{branch_of}
use Rattle.branch_rules.specs.Steps.{done_by}
use Rattle.deskolem.specs.Walking.{IsStanding, WalksOn}
use Rattle.deskolem.proofs.walk.walk_steps.Given as goal

abbrev pub invariant-loop-step : goal.invariant-loop-step
invariant-loop-step l = record {
  standing : IsStanding l.walk;
  kept : take (length l.fn.walk.places.items) l.walk.places.items ≡ l.fn.walk.places.items;
  left : l.walk.left ≤ l.fn.walk.left;
  on : WalksOn l.fn.walk (branch_of l.site.branch) (map done_by l.site.steps) l.newest l.walk l.closings (map done_by (drop l.step-index l.site.steps));
  items : l.step-items ≡ l.site.steps;
}

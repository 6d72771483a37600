use Rattle.std.proofs.Common.{◌≡◌, ◌++◌, take}
use Rattle.branch_rules.specs.ListsGrown.{held_at}
use Rattle.branch_rules.proofs.growing.push_entries.Given as goal

abbrev pub invariant-loop-part : goal.invariant-loop-part
invariant-loop-part l = l.entries ≡ record {
  items = l.initial.entries.items ++ held_at l.level l.number (take l.part-index l.parts);
  own_start = l.initial.entries.own_start;
  sealed = l.initial.entries.sealed;
}

use Rattle.std.proofs.Common.{◌≡◌, ◌++◌, take}
use Rattle.containers.proofs.owners.append_owners.Given as goal

abbrev pub invariant-loop-value : goal.invariant-loop-value
invariant-loop-value g l = l.list ≡ l.fn.list ++ take l.value-index l.value-items

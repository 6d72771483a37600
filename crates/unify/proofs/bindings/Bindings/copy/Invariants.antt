use Rattle.std.proofs.Common.{◌≡◌, take}
use Rattle.unify.proofs.bindings.Bindings.copy.Given as goal

abbrev pub invariant-loop-b : goal.invariant-loop-b
invariant-loop-b l = l.list.items ≡ take l.b-index l.self-inside.list.items

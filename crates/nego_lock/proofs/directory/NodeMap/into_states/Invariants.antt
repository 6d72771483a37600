use Rattle.std.proofs.Common.{◌≡◌, Some, All}
use Rattle.nego_lock.specs.Gathering.{AreStatesFrom}
use Rattle.nego_lock.proofs.Rising.{AreUpTo}
use Rattle.nego_lock.proofs.directory.NodeMap.into_states.Given as goal

abbrev pub invariant-nodes : goal.invariant-nodes
invariant-nodes g l = AreStatesFrom l.fn.first l.rising.items × AreUpTo l.last l.rising.items × All (λ n. g.K.Key.tree ≡ Some (g.F.Field.around n.site)) l.rising.items

use Rattle.std.proofs.Common.{◌≡◌, take}
use Rattle.nego_node.proofs.events.Events.copy.Given as goal

abbrev pub invariant-loop-event : goal.invariant-loop-event
invariant-loop-event g l = l.log.items ≡ take l.event-index l.event-items

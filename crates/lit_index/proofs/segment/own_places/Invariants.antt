use Rattle.lit_index.proofs.Linked.{IsBack, steps_left}
use Rattle.lit_index.proofs.segment.own_places.Given as goal

abbrev pub invariant-loop-at : goal.invariant-loop-at
invariant-loop-at l = IsBack l.held.items l.fn.literal l.at l.fn.out.items l.out.items

abbrev pub decreases-loop-at : goal.decreases-loop-at
decreases-loop-at l = steps_left l.at

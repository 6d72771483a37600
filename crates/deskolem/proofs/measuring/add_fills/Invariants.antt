use Rattle.std.proofs.Common.{◌≡◌, ◌+◌, ◌≤◌, length}
use Rattle.unify.specs.Measure.{AreMeasured}
use Rattle.unify.specs.View.{offer_of}
use Rattle.deskolem.specs.Sums.{most_counted}
use Rattle.deskolem.proofs.Fills.{Remains}
use Rattle.deskolem.proofs.measuring.add_fills.Given as goal

abbrev pub decreases-loop-at : goal.decreases-loop-at
decreases-loop-at l = l.at

abbrev pub invariant-loop-at : goal.invariant-loop-at
invariant-loop-at l =
    (l.at ≤ length l.rewriting.rewritten.fills)
    × (l.next + l.at ≡ l.rewriting.len + length l.rewriting.rewritten.fills)
    × (l.count.bytes ≤ l.limit)
    × AreMeasured (offer_of l.offer) l.lengths most_counted l.noted
    × Remains (offer_of l.offer) l.lengths l.fn.so_far l.rewriting.axiom l.rewriting.len l.rewriting.rewritten.fills l.count l.place l.next l.at

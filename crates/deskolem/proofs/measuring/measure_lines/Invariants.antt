use Rattle.std.proofs.Common.{◌≤◌, drop}
use Rattle.std.specs.List.{AllByRecursion}
use Rattle.unify.specs.Measure.{AreMeasured}
use Rattle.unify.specs.View.{offer_of}
use Rattle.deskolem.specs.Lines.{HasRoom}
use Rattle.deskolem.specs.Sums.{most_counted}
use Rattle.deskolem.specs.View.{names_of}
use Rattle.deskolem.proofs.Lined.{LinesRemain}
use Rattle.deskolem.proofs.measuring.measure_lines.Given as goal

abbrev pub invariant-loop-line : goal.invariant-loop-line
invariant-loop-line l =
    (l.count.bytes ≤ l.limit)
    × AllByRecursion HasRoom (drop l.line-index l.lines)
    × AreMeasured (offer_of l.offer) l.lengths most_counted l.noted
    × LinesRemain (offer_of l.offer) (names_of l.names) l.lengths (record { bytes = 6; depth = 0 }) l.lines l.count l.line-index

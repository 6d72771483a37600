use Rattle.std.proofs.Common.{take}
use Rattle.deskolem.specs.Spans.{AreSpans}
use Rattle.deskolem.proofs.lengths.skolem_lengths.Given as goal

abbrev pub invariant-loop-name : goal.invariant-loop-name
invariant-loop-name l = AreSpans l.names (take l.name-index l.name-items) l.lengths

use Rattle.std.proofs.Common.{◌≡◌, ◌++◌}
use Rattle.lit_index.specs.Links.{places_back}
use Rattle.lit_index.proofs.segment.Segment.places_back.Given as goal

abbrev pub invariant-loop-above : goal.invariant-loop-above
invariant-loop-above l =
    l.out.items ++ places_back l.literal l.at.occurrences ≡ l.fn.out.items ++ places_back l.literal l.self.occurrences

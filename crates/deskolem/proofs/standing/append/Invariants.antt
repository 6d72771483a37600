use Rattle.std.proofs.Common.{◌≡◌, ◌++◌}
use Rattle.translation.specs.Translation.{run_of}
use Rattle.deskolem.proofs.standing.append.Given as goal

abbrev pub invariant-loop-i : goal.invariant-loop-i
invariant-loop-i l =
    (l.walk.places.items ≡ l.fn.walk.places.items ++ run_of l.first l.i)
    × (l.walk.lines ≡ l.fn.walk.lines)
    × (l.walk.left ≡ l.fn.walk.left)
    × (l.walk.len ≡ l.first)

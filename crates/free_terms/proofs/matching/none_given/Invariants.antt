use Rattle.std.proofs.Common.{◌≡◌}
use Rattle.free_terms.specs.Gives.{unused}
use Rattle.free_terms.specs.View.{fills_of}
use Rattle.free_terms.proofs.matching.none_given.Given as goal

abbrev pub invariant-loop-i : goal.invariant-loop-i
invariant-loop-i l = fills_of l.out ≡ unused l._i

use Rattle.std.proofs.Common.{◌≡◌, drop}
use Rattle.gs3_text.specs.Reading.{value_after}
use Rattle.gs3_text.proofs.word.value.Given as goal

abbrev pub invariant-loop-d : goal.invariant-loop-d
invariant-loop-d l = value_after l.n (drop l.d-index l.digits) ≡ value_after 0 l.digits

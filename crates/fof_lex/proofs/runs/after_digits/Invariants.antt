use Rattle.std.proofs.Common.{◌≡◌, length}
use Rattle.fof_lex.specs.Bytes.{is_digit}
use Rattle.fof_lex.specs.Reading.{after}
use Rattle.fof_lex.proofs.runs.after_digits.Given as goal

abbrev pub invariant-loop-rest : goal.invariant-loop-rest
invariant-loop-rest l = after is_digit l.rest ≡ after is_digit l.bytes

abbrev pub decreases-loop-rest : goal.decreases-loop-rest
decreases-loop-rest l = length l.rest

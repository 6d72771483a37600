use Rattle.std.proofs.Common.{◌≡◌, length}
use Rattle.fof_lex.specs.Bytes.{is_word_byte}
use Rattle.fof_lex.specs.Reading.{after}
use Rattle.fof_lex.proofs.runs.after_word.Given as goal

abbrev pub invariant-loop-rest : goal.invariant-loop-rest
invariant-loop-rest l = after is_word_byte l.rest ≡ after is_word_byte l.bytes

abbrev pub decreases-loop-rest : goal.decreases-loop-rest
decreases-loop-rest l = length l.rest

use Rattle.std.proofs.Common.{◌≡◌, false, length}
use Rattle.fof_lex.specs.Reading.{after_quote}
use Rattle.fof_lex.proofs.runs.after_quote.Given as goal

abbrev pub invariant-loop-rest : goal.invariant-loop-rest
invariant-loop-rest l = after_quote l.quote false l.rest ≡ after_quote l.quote false l.bytes

abbrev pub decreases-loop-rest : goal.decreases-loop-rest
decreases-loop-rest l = length l.rest

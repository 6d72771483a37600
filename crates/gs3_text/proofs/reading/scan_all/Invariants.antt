use Rattle.std.proofs.Common.{length}
use Rattle.gs3_text.specs.Answer.{scan_of}
use Rattle.gs3_text.proofs.Texts.{IsReadTo}
use Rattle.gs3_text.proofs.reading.scan_all.Given as goal

abbrev pub invariant-lines : goal.invariant-lines
invariant-lines l = IsReadTo l.symbols.functions l.bytes l.rest l.number (scan_of l.scan)

abbrev pub decreases-lines : goal.decreases-lines
decreases-lines l = length l.rest

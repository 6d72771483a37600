use Rattle.std.proofs.Common.{take}
use Rattle.gs3_text.specs.ProofText.{IsLine}
use Rattle.gs3_text.proofs.scan.line_at.Given as goal

abbrev pub invariant-loop-i : goal.invariant-loop-i
invariant-loop-i l = IsLine (take l.i l.bytes)

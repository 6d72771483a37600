use Rattle.std.proofs.Common.{◌≡◌, take, drop, false}
use Rattle.gs3_text.specs.Reading.{onto, quoted_at}
use Rattle.gs3_text.proofs.spelling.quoted_at.Given as goal

abbrev pub invariant-loop-i : goal.invariant-loop-i
invariant-loop-i l = onto (take l.i l.bytes) (quoted_at l.escape (drop l.i l.bytes)) ≡ quoted_at false l.bytes

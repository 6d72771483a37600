use Rattle.std.proofs.Common.{◌≡◌, ◌+◌, drop}
use Rattle.std.specs.List.{prefix_len}
use Rattle.gs3_text.specs.Reading.{is_digit}
use Rattle.gs3_text.proofs.word.digits.Given as goal

abbrev pub invariant-loop-i : goal.invariant-loop-i
invariant-loop-i l = l.i + prefix_len is_digit (drop l.i l.bytes) ≡ prefix_len is_digit l.bytes

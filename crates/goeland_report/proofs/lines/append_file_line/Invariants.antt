use Rattle.std.proofs.Common.{◌≡◌, ◌++◌, drop}
use Rattle.goeland_report.specs.Output.{file_text}
use Rattle.goeland_report.proofs.lines.append_file_line.Given as goal

abbrev pub invariant-loop-byte : goal.invariant-loop-byte
invariant-loop-byte l =
    l.out.items ++ file_text (drop l.byte-index l.byte-items) ≡ (l.fn.out.items ++ l.words) ++ file_text l.file

use Rattle.std.specs.Prelude.{codes, ◌++◌}
use Rattle.std.proofs.lemmas.Result.{on_ok_weaker}
use Rattle.goeland_report.specs.Output.{file_text}
use Rattle.goeland_report.proofs.Pieces.{three_in_line}
use Rattle.goeland_report.proofs.lines.append_status.Goals as goal

pub returns : goal.returns
returns c =
    on_ok_weaker c.append_file_line.result (λ e. three_in_line (codes "% SZS status ") c.args.status.now (codes " for " ++ file_text c.args.file.now) c.args.out.now.items c.extend_from_slice.new.self.items c.extend_from_slice-2.new.self.items c.append_file_line.new.out.items c.in_ok-extend_from_slice.ensures.items c.in_ok-extend_from_slice-2.ensures.items e) c.append_file_line.ensures

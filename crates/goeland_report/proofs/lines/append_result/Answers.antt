use Rattle.std.specs.Prelude.{codes, decimal, ◌++◌}
use Rattle.std.proofs.Common.{ap, sym, ◌∙◌}
use Rattle.std.proofs.lemmas.Result.{on_ok_weaker}
use Rattle.goeland_report.specs.Output.{bench_words}
use Rattle.goeland_report.proofs.Pieces.{three_pieces}
use Rattle.goeland_report.proofs.lines.append_result.Goals as goal

pub returns-in_ok-spell_number-in-Proved : goal.returns-in_ok-spell_number-in-Proved
returns-in_ok-spell_number-in-Proved c =
    on_ok_weaker c.spell_number-in-Proved.result (λ e. three_pieces (codes "status Theorem") (codes " depth " ++ decimal c.in-Proved.depth) (codes " bytes " ++ decimal c.in-Proved.bytes) c.args.out.now.items c.extend_from_slice.new.self.items c.spell_number.new.out.items c.spell_number-in-Proved.new.out.items c.in_ok-extend_from_slice-in-Proved.ensures.items c.in_ok-spell_number-in-Proved.ensures.ok e ∙ ap (λ r. c.args.out.now.items ++ bench_words r) (sym c.in-Proved.is)) c.spell_number-in-Proved.ensures.ok

use Rattle.std.specs.Prelude.{codes, decimal, [], ◌∷◌, ◌++◌}
use Rattle.std.proofs.Common.{List, ℕ, ap, ◌∙◌}
use Rattle.goeland_report.specs.Asked.{asked_of}
use Rattle.goeland_report.specs.Output.{status_word, status_line, engine_line, start_line, asked_lines}
use Rattle.goeland_report.proofs.Pieces.{head_text}
use Rattle.goeland_report.proofs.reports.head_of.Goals as goal

pub returns : goal.returns
returns g c =
    let found = c.args.found.now in
    let file = c.args.file.now in
    let status = ◌∙◌ {A = List ℕ} c.in_ok-append_status.ensures (ap (λ w. c.new-out.result.items ++ (status_line w file ++ 10 ∷ [])) c.status_word.ensures) in
    head_text (status_line (status_word found.theorem) file) (codes "% depth " ++ decimal found.depth) (engine_line found.engine) (start_line file)
    (asked_lines (g.S.OfferSpelling.text c.args.spelling.now) (asked_of found.history)) c.new-out.result.items c.append_status.new.out.items
    c.spell_number.new.out.items c.push.new.self.items c.append_engine.new.out.items c.append_asked.new.out.items c.append_file_line.new.out.items
    c.new-out.ensures.items status c.in_ok-spell_number.ensures.ok c.in_ok-push.ensures.items c.in_ok-append_engine.ensures
    c.in_ok-append_asked.ensures c.in_ok-append_file_line.ensures

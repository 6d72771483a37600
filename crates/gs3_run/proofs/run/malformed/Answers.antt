use Rattle.std.proofs.Common.{inl, subst}
use Rattle.gs3_text.specs.Answer.{IsRefused}
use Rattle.gs3_run.proofs.run.malformed.Goals as goal

pub returns-in_ok-numbered-in-Malformed : goal.returns-in_ok-numbered-in-Malformed
returns-in_ok-numbered-in-Malformed c problem bytes refused =
    let at = subst (IsRefused problem.symbols.functions bytes) c.in-Malformed.is refused in
    inl (c.in-Malformed.line, record { malformed = at.0; no_text = at.1 }, c.in_ok-numbered-in-Malformed.ensures)

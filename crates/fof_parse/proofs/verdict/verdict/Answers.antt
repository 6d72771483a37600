use Rattle.std.proofs.Common.{sym, ap, ◌∙◌}
use Rattle.fof_parse.specs.Refusal.{is_early, no_statement}
use Rattle.fof_parse.specs.Reader.Verdict.{judged}
use Rattle.fof_parse.proofs.Judging.{late_bad}
use Rattle.fof_parse.proofs.verdict.verdict.Goals as goal

pub returns-in-Some : goal.returns-in-Some
returns-in-Some c = is_early _ (sym c.in_ok-kind.ensures ∙ c.in-Some.is)

pub returns-in_default-2 : goal.returns-in_default-2
returns-in_default-2 c = no_statement (sym c.in_ok-kind.ensures ∙ c.in_default.is) (rw c.in_default-2.is at c.in_ok-name.ensures)

pub returns-in-Err : goal.returns-in-Err
returns-in-Err c =
    let read = rw c.in-Some-2.is at c.in_ok-name.ensures in
    late_bad _ _ _ _ _ _ _ _ c.requires.no_fault c.requires.closed (sym c.in_ok-kind.ensures ∙ c.in_default.is) read
    (ap (λ r. judged c.parts_of.new.draft.fault c.parts_of.new.draft.is_closed r c.args.had) (sym c.role_of.ensures) ∙ c.in-Err.ensures)

use Rattle.std.proofs.Common.{sym, ap, ◌∙◌}
use Rattle.fof_parse.specs.Reader.Building.{names}
use Rattle.fof_parse.proofs.Judging.{no_heading, no_formula, no_ending, whole_statement}
use Rattle.fof_parse.proofs.verdict.parts_of.Goals as goal

pub returns-in_default : goal.returns-in_default
returns-in_default c = no_heading _ (sym c.in_default.ensures)

pub returns-in_default-2 : goal.returns-in_default-2
returns-in_default-2 c = no_formula _ _ _ _ (sym c.in-Some.ensures) (rw c.in_default-2.is at c.in_ok-formula.ensures.formula)

pub returns-then-branch : goal.returns-then-branch
returns-then-branch c =
    let found = rw c.in-Some-2.is at c.in_ok-formula.ensures.formula in
    whole_statement _ _ _ _ (sym c.in-Some.ensures) _ _ _ _ _ found.0 (ap names c.new-scope.ensures.items) (sym c.in_ok-is_ending.ensures ∙ c.if-branch.true)

pub returns : goal.returns
returns c =
    let found = rw c.in-Some-2.is at c.in_ok-formula.ensures.formula in
    no_ending _ _ _ _ (sym c.in-Some.ensures) _ _ _ _ _ found.0 (sym c.in_ok-is_ending.ensures ∙ c.if-branch.false)

use Rattle.std.proofs.Common.{◌∙◌, length, inr, ap, subst, Err, sym, arith}
use Rattle.fol_core.specs.View.{formulas_of}
use Rattle.fof_parse.specs.Problem.{Start}
use Rattle.gs3_rules.specs.Apply.{rules_of}
use Rattle.gs3_rules.specs.Refutes.{RefutedBy}
use Rattle.gs3_run.proofs.Failing.{FailsAlways, within, wrong_at, valid}
use Rattle.gs3_run.proofs.run.judge_steps.Goals as goal

pub returns-in-Ok : goal.returns-in-Ok
returns-in-Ok c problem bytes same read =
    valid problem bytes (rules_of c.args.read.now.tree) c.args.read.now.lines read
    (subst (λ start. RefutedBy start (rules_of c.args.read.now.tree)) (sym same)
    (subst (λ tree. RefutedBy (formulas_of c.args.start) (rules_of tree)) c.steps.ensures.steps c.in-Ok.ensures.refuted))

pub bounds-as_slice-step : goal.bounds-as_slice-step
bounds-as_slice-step c =
    let wrong = c.in-Err-Wrong.is ∙ ap Err c.in-Err-Wrong.field-0-is in
    let fails : FailsAlways (formulas_of c.args.start) (rules_of c.args.read.now.tree) c.in-Err-Wrong.step
    = λ tree shape same. c.check_steps.ensures.fails tree shape (same ∙ ap rules_of (sym c.steps.ensures.steps)) c.in-Err-Wrong.step wrong in
    let inside = within c.requires.0 c.requires.1 (rules_of c.args.read.now.tree) c.args.read.now.lines (formulas_of c.args.start) c.in-Err-Wrong.step c.requires.2 fails in
    omega (arith, inside, ap length c.as_slice.ensures)

pub offset_bounds-as_slice-step : goal.offset_bounds-as_slice-step
offset_bounds-as_slice-step c =
    let wrong = c.in-Err-Wrong.is ∙ ap Err c.in-Err-Wrong.field-0-is in
    let fails : FailsAlways (formulas_of c.args.start) (rules_of c.args.read.now.tree) c.in-Err-Wrong.step
    = λ tree shape same. c.check_steps.ensures.fails tree shape (same ∙ ap rules_of (sym c.steps.ensures.steps)) c.in-Err-Wrong.step wrong in
    let inside = within c.requires.0 c.requires.1 (rules_of c.args.read.now.tree) c.args.read.now.lines (formulas_of c.args.start) c.in-Err-Wrong.step c.requires.2 fails in
    omega (arith, inside, ap length c.as_slice.ensures, c.as_slice.type_inv.1)

pub returns-in_ok-numbered-in-Err-Wrong : goal.returns-in_ok-numbered-in-Err-Wrong
returns-in_ok-numbered-in-Err-Wrong c problem bytes same read =
    let wrong = c.in-Err-Wrong.is ∙ ap Err c.in-Err-Wrong.field-0-is in
    let fails : FailsAlways (formulas_of c.args.start) (rules_of c.args.read.now.tree) c.in-Err-Wrong.step
    = λ tree shape is. c.check_steps.ensures.fails tree shape (is ∙ ap rules_of (sym c.steps.ensures.steps)) c.in-Err-Wrong.step wrong in
    let none : RefutedBy (Start problem) (rules_of c.args.read.now.tree) → ⊥
    = λ r. c.check_steps.ensures.not_refuted c.in-Err-Wrong.step wrong (subst (λ tree. RefutedBy (formulas_of c.args.start) (rules_of tree)) (sym c.steps.ensures.steps) (subst (λ start. RefutedBy start (rules_of c.args.read.now.tree)) same r)) in
    let at = wrong_at problem bytes (rules_of c.args.read.now.tree) c.args.read.now.lines c.in-Err-Wrong.step read
    (subst (λ start. FailsAlways start (rules_of c.args.read.now.tree) c.in-Err-Wrong.step) (sym same) fails) none in
    inr (_, at, rw c.as_slice.ensures at c.in_ok-numbered-in-Err-Wrong.ensures)

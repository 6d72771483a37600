use Rattle.std.proofs.Common.{◌≡◌, subst, sym, ap, ◌∙◌}
use Rattle.fol_core.specs.View as plain
use Rattle.fol_core.specs.declared.formula.Formula.TheVariants.{Not}
use Rattle.fol_core.specs.Syntax.{not}
use Rattle.fol_core.proofs.Trees.{formula_by_not}
use Rattle.free_terms.specs.View.{terms_of, formula_of}
use Rattle.free_terms.specs.Free.{lift}
use Rattle.rewrite_rules.specs.Fitting.{HoldNoParams}
use Rattle.rewrite_rules.proofs.WellFormed.{none_hold_params}
use Rattle.branch_rules.proofs.Lifting.{conjecture_no_param, with_conjecture, without_conjecture}
use Rattle.branch_rules.proofs.starting.start_formulas.Goals.{in-Some+in_ok-lifted+in_ok-new+in_ok-push, in_default}
use Rattle.branch_rules.proofs.starting.start_formulas.Goals as goal
use Rattle.std.specs.Prelude.{map}

pub lift_axioms-requires : goal.lift_axioms-requires
lift_axioms-requires c =
    subst (λ fs. HoldNoParams (plain.formulas_of fs)) (sym c.as_slice.ensures) (none_hold_params _ _ c.args.problem.now.kept.axioms)

pub lift-requires : goal.lift-requires
lift-requires c = conjecture_no_param _ c.args.problem.now.conjecture c.in-Some.f c.in-Some.is c.args.problem.now.kept.conjecture

pub returns : goal.returns
returns c =
    let lifted = c.in_ok-out.ensures ∙ ap (λ fs. map lift (plain.formulas_of fs)) c.as_slice.ensures in
    elim c.match-problem.branch [
      | in-Some+in_ok-lifted+in_ok-new+in_ok-push w ↦
          with_conjecture c.args.problem.now.axioms c.args.problem.now.conjecture w.in-Some.f w.in_ok-lifted.lifted (Not w.in_ok-new.field-0) c.in_ok-out.out c.match-problem.out w.in-Some.is w.in_ok-lifted.ensures
          (formula_by_not terms_of w.in_ok-new.field-0 ∙ ap (λ z. not (formula_of z)) w.in_ok-new.ensures) (w.out-is ∙ w.in_ok-push.ensures.ok) lifted
      | in_default w ↦ without_conjecture c.args.problem.now.axioms c.args.problem.now.conjecture c.in_ok-out.out c.match-problem.out w.in_default.is w.out-is lifted
    ]

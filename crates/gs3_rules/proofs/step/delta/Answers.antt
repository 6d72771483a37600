use Rattle.std.proofs.Common.{◌≡◌, Some, slice_get, option_and_then, refl, subst, rules}
use Rattle.fol_core.specs.Syntax.{instance}
use Rattle.fol_core.specs.View.{formulas_of, formula_of, term_of}
use Rattle.fol_core.specs.declared.term.Term.TheVariants.{Param}
use Rattle.fol_core.proofs.Trees.{term_of_param}
use Rattle.gs3_rules.specs.Rules.{delta_part, IsFresh}
use Rattle.gs3_rules.proofs.Applied.{answers_one}
use Rattle.gs3_rules.proofs.step.delta.Goals as goal

pub returns-in-Some-2 : goal.returns-in-Some-2
returns-in-Some-2 c =
    let by_code : option_and_then (delta_part (λ a. instance a (term_of (Param c.args.param)))) (slice_get (formulas_of c.args.list.now) c.args.i) ≡ Some (formula_of c.in-Some-2.part) = search rules in
    let part = subst (λ u. option_and_then (delta_part (λ a. instance a u)) (slice_get (formulas_of c.args.list.now) c.args.i) ≡ Some (formula_of c.in-Some-2.part)) (term_of_param c.args.param) by_code in
    let holds : IsFresh c.args.param (formulas_of c.args.list.now) = search rules in
    answers_one c.args.list.now _ c.in-Some-2.part _ c.in_ok-one-in-Some-2.ensures (formula_of c.in-Some-2.part, part, holds, refl)

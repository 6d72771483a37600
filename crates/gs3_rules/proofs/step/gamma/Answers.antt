use Rattle.std.proofs.Common.{◌≡◌, Some, slice_get, option_and_then, refl, rules}
use Rattle.fol_core.specs.Syntax.{free_in_term, instance}
use Rattle.fol_core.specs.View.{formulas_of, formula_of, term_of}
use Rattle.gs3_rules.specs.Rules.{gamma_part}
use Rattle.gs3_rules.proofs.Applied.{answers_one}
use Rattle.gs3_rules.proofs.step.gamma.Goals as goal

pub returns-in_ok-one-in-Some-2 : goal.returns-in_ok-one-in-Some-2
returns-in_ok-one-in-Some-2 c =
    let part : option_and_then (gamma_part (λ a. instance a (term_of c.args.term.now))) (slice_get (formulas_of c.args.list.now) c.args.i) ≡ Some (formula_of c.in-Some-2.part) = search rules in
    let holds : free_in_term (term_of c.args.term.now) ≡ 0 = search rules in
    answers_one c.args.list.now _ c.in-Some-2.part _ c.in_ok-one-in-Some-2.ensures (formula_of c.in-Some-2.part, part, holds, refl)

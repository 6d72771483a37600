-- What a rule answers whose one premise appends one formula.
use Rattle.std.proofs.Common.{◌≡◌, List, [], ◌∷◌, ◌++◌, Result, Ok, Err, refl, sym, subst}
use Rattle.fol_core.specs.View.{TermFormula, formula_of, formulas_of}
use Rattle.gs3_rules.specs.Rules.{Rule, Step}
use Rattle.gs3_rules.specs.Apply.{lists_after, Answers}
use Rattle.gs3_rules.specs.declared.step.Premises.{Premises}
use Rattle.gs3_rules.specs.declared.step.Premises.TheVariants.{One}
use Rattle.gs3_rules.specs.declared.step.ApplyError.{ApplyError}
use Rattle.gs3_rules.specs.declared.step.ApplyError.TheVariants.{Wrong}

not_wrong : (p : Premises) (r : Result Premises ApplyError) → r ≡ Ok p → r ≡ Err Wrong → ⊥
not_wrong p r e f = cc

pub answers_one : (list : List TermFormula) (rule : Rule) (part : TermFormula) (p : Premises) → p ≡ One (part ∷ []) → Step (formulas_of list) rule ((formulas_of list ++ formula_of part ∷ []) ∷ []) → Answers list rule (Ok p)
answers_one list rule part p e s = record {
  step = subst (λ q. Step (formulas_of list) rule (lists_after (formulas_of list) q)) (sym e) s;
  wrong = λ w. absurd (not_wrong p (Ok p) refl w);
}

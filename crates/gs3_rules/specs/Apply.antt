-- What the program's steps and premises stand for, and what `apply` answers.
use Rattle.std.specs.Prelude.{◌≡◌, List, [], ◌∷◌, ◌++◌, map, Option, option_map, Result, Err, IfOk}
use Rattle.fol_core.specs.Syntax.{PlainFormula}
use Rattle.fol_core.specs.View.{TermFormula, term_of, formulas_of}
use Rattle.gs3_rules.specs.Rules.{Rule, close, false_at, not_true, alpha, beta, delta, gamma, Step}
use Rattle.gs3_rules.specs.Refutes.{IsNoStep}
use Rattle.gs3_rules.specs.declared.step.Step as code
use Rattle.gs3_rules.specs.declared.step.Premises.{Premises}
use Rattle.gs3_rules.specs.declared.step.Premises.TheVariants.{Zero, One, Two}
use Rattle.gs3_rules.specs.declared.step.ApplyError.{ApplyError}
use Rattle.gs3_rules.specs.declared.step.ApplyError.TheVariants.{Wrong}

abbrev pub rule_of : code.Step → Rule
rule_of (code.TheVariants.Close i j) = close i j
rule_of (code.TheVariants.FalseAt i) = false_at i
rule_of (code.TheVariants.NotTrue i) = not_true i
rule_of (code.TheVariants.Alpha i) = alpha i
rule_of (code.TheVariants.Beta i) = beta i
rule_of (code.TheVariants.Delta i n) = delta i n
rule_of (code.TheVariants.Gamma i t) = gamma i (term_of t)

abbrev pub rules_of : List code.Step → List Rule
rules_of steps = map rule_of steps

-- the list of each premise
abbrev pub lists_after : List PlainFormula → Premises → List (List PlainFormula)
lists_after list Zero = []
lists_after list (One a) = (list ++ formulas_of a) ∷ []
lists_after list (Two a b) = (list ++ formulas_of a) ∷ (list ++ formulas_of b) ∷ []

-- Ok gives the step with the lists of its premises, and Wrong comes only where it is no step on the list.
pub record Answers (list : List TermFormula) (rule : Rule) (result : Result Premises ApplyError) : Type 0 where
  pub step : IfOk result (λ p. Step (formulas_of list) rule (lists_after (formulas_of list) p))
  pub wrong : result ≡ Err Wrong → IsNoStep (formulas_of list) rule

abbrev pub sides_of : Option (List TermFormula × List TermFormula) → Option (List PlainFormula × List PlainFormula)
sides_of o = option_map (λ s. (formulas_of s.0, formulas_of s.1)) o

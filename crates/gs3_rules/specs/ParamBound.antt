-- How far up the parameters of a list and of a step go.
use Rattle.std.specs.Prelude.{ℕ, ◌≤◌, suc, max, List, [], ◌∷◌}
use Rattle.fol_core.specs.Syntax.{PlainFormula, param_bound, param_bound_in_term}
use Rattle.gs3_rules.specs.Rules.{Rule, close, false_at, not_true, alpha, beta, delta, gamma}

-- the least number above every parameter in the list
abbrev pub list_bound : List PlainFormula → ℕ
list_bound [] = 0
list_bound (a ∷ rest) = max (param_bound a) (list_bound rest)

-- the least number above every parameter that a step names
abbrev pub rule_bound : Rule → ℕ
rule_bound (close i j) = 0
rule_bound (false_at i) = 0
rule_bound (not_true i) = 0
rule_bound (alpha i) = 0
rule_bound (beta i) = 0
rule_bound (delta i n) = suc n
rule_bound (gamma i t) = param_bound_in_term t

-- every parameter in each of the lists is below n
abbrev pub AreBelow : ℕ → List (List PlainFormula) → Type 0
AreBelow n [] = Unit {0}
AreBelow n (list ∷ lists) = (list_bound list ≤ n) × AreBelow n lists

-- A proof read step by step: what a list of steps does to the lists that are still to be refuted.
use Rattle.std.specs.Prelude.{◌≡◌, ◌⊎◌, ℕ, suc, List, [], ◌∷◌, ◌++◌}
use Rattle.fol_core.specs.Syntax.{PlainFormula}
use Rattle.gs3_rules.specs.Rules.{Rule, Step}
use Rattle.gs3_rules.specs.Refutes.{IsNoStep}

-- The steps refute the lists from left to right: the first step is one on the first list, and leaves
-- the lists of its premises in its place.
abbrev pub RefuteInTurn : List (List PlainFormula) → List Rule → Type 0
RefuteInTurn [] [] = Unit {0}
RefuteInTurn [] (rule ∷ rules) = ⊥
RefuteInTurn (list ∷ lists) [] = ⊥
RefuteInTurn (list ∷ lists) (rule ∷ rules) =
    (premises : List (List PlainFormula)) × Step list rule premises × RefuteInTurn (premises ++ lists) rules

-- The steps stop at the place n, from 0: those before it are steps in turn, and there stands a step whose condition
-- fails on its list, or one step too many, or none although a list is left.
abbrev pub StopAt : List (List PlainFormula) → List Rule → ℕ → Type 0
StopAt [] [] n = ⊥
StopAt [] (rule ∷ rules) n = n ≡ 0
StopAt (list ∷ lists) [] n = n ≡ 0
StopAt (list ∷ lists) (rule ∷ rules) n = ((n ≡ 0) × IsNoStep list rule)
    ⊎ ((premises : List (List PlainFormula)) × Step list rule premises
    × (m : ℕ) × (n ≡ suc m) × StopAt (premises ++ lists) rules m)

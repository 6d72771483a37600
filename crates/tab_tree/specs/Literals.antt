-- The literals on a branch.
use Rattle.std.specs.Prelude.{◌≡◌, ℕ, suc, Bool, true, false, List, [], ◌∷◌, ◌++◌, slice_get, Some}
use Rattle.fol_core.specs.Syntax.{atom, verum, not}
use Rattle.free_terms.specs.Free.{FreeFormula}
use Rattle.rewrite_rules.specs.Firing.{IsLiteral}
use Rattle.lit_index.specs.Occurrences.{Occurrence, occurrence}
use Rattle.branch_rules.specs.Branch.{Entry}

-- the formula as a literal at the place, if it is one
abbrev pub occurrences_at : ℕ → FreeFormula → List Occurrence
occurrences_at i (atom p us) = occurrence i false p ∷ []
occurrences_at i (not (atom p us)) = occurrence i true p ∷ []
occurrences_at i _ = []

-- the literals among the entries, the first of which stands at the place i
abbrev pub occurrences_from : ℕ → List Entry → List Occurrence
occurrences_from i [] = []
occurrences_from i (e ∷ es) = occurrences_at i e.formula ++ occurrences_from (suc i) es

-- the literals of a branch with these entries
abbrev pub occurrences : List Entry → List Occurrence
occurrences es = occurrences_from 0 es

-- the formula stands at the place
abbrev pub Holds : List Entry → ℕ → FreeFormula → Type 0
Holds es i f = (n : ℕ) × (slice_get es i ≡ Some (record { formula = f; level = n }))

-- a literal stands at the place
abbrev pub HoldsLiteral : List Entry → ℕ → Type 0
HoldsLiteral es i = (f : FreeFormula) × Holds es i f × IsLiteral f

abbrev pub is_verum : FreeFormula → Bool
is_verum verum = true
is_verum _ = false

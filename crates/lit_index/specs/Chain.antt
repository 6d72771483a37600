-- What a chain of segments stands for.
use Rattle.std.specs.Prelude.{◌<◌, ℕ, Bool, List, [], ◌∷◌, ◌++◌, refl, Option, Some, None}
use Rattle.std.specs.Coded.{Coded, code_by, coded×, coded_ℕ, coded_list}
use Rattle.lit_index.specs.Occurrences.{Occurrence, occurrence_code, occurrence}

-- the occurrences that all segments hold, and how many segments stand above the last one
pub record Chain : Type 0 where
  pub occurrences : List Occurrence
  pub depth : ℕ

abbrev pub chain_code : Coded Chain
chain_code =
    code_by (List Occurrence × ℕ) (coded× (coded_list occurrence_code) coded_ℕ) (λ c. (c.occurrences, c.depth))
    (λ p. record { occurrences = p.0; depth = p.1 }) (λ _. refl)

-- the occurrences of the chain above a segment
abbrev pub occurrences_above : Option Chain → List Occurrence
occurrences_above None = []
occurrences_above (Some c) = c.occurrences

-- a chain above a segment is less deep than the segment
abbrev pub IsBelow : Option Chain → ℕ → Type 0
IsBelow None depth = Unit
IsBelow (Some c) depth = c.depth < depth

-- the chain with an occurrence more in its last segment
abbrev pub chain_with : Chain → ℕ → Bool → ℕ → Chain
chain_with c place negated predicate =
    record { occurrences = c.occurrences ++ occurrence place negated predicate ∷ []; depth = c.depth }

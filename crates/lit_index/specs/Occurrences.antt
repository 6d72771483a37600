-- Where literals stand on a branch.
use Rattle.std.specs.Prelude.{◌<◌, ℕ, Bool, ◌&&◌, eqb, List, map, filter, refl}
use Rattle.std.specs.Bool.{beq}
use Rattle.std.specs.Coded.{Coded, code_by, coded×, coded_ℕ, coded_bool}

-- a literal, by its sign and its predicate, at a place
pub record Occurrence : Type 0 where
  pub place : ℕ
  pub negated : Bool
  pub predicate : ℕ

abbrev pub occurrence_code : Coded Occurrence
occurrence_code =
    code_by (ℕ × (Bool × ℕ)) (coded× coded_ℕ (coded× coded_bool coded_ℕ)) (λ o. (o.place, (o.negated, o.predicate)))
    (λ p. record { place = p.0; negated = p.1.0; predicate = p.1.1 }) (λ _. refl)

abbrev pub occurrence : ℕ → Bool → ℕ → Occurrence
occurrence place negated predicate = record { place = place; negated = negated; predicate = predicate }

-- the first stands before the second
abbrev pub IsBefore : Occurrence → Occurrence → Type 0
IsBefore o q = o.place < q.place

-- whether the occurrence has that sign and that predicate
abbrev pub is_literal : Bool → ℕ → Occurrence → Bool
is_literal negated predicate o = beq o.negated negated && eqb o.predicate predicate

-- the places where a literal stands, in their order
abbrev pub places_of : Bool → ℕ → List Occurrence → List ℕ
places_of negated predicate os = map (λ o. o.place) (filter (is_literal negated predicate) os)

-- What a rewriting of a literal does to a list of formulas.
use Rattle.std.specs.Prelude.{◌≡◌, ℕ, Bool, if◌then◌else◌, List, [], ◌∷◌, ◌++◌, map, length, slice_get, Some}
use Rattle.fol_core.specs.Syntax.{PlainTerm, PlainTerms, PlainFormula, IsClosedTerm, instance, atom, not, iff, all}

-- Gamma steps for the terms: the first one is on the formula, and each of the others on what the one before it
-- appended. They append the instances, and the last of these, or the formula itself where there is no term, is the end.
abbrev pub Opens : PlainFormula → List PlainTerm → List PlainFormula → PlainFormula → Type 0
Opens a [] instances end = (instances ≡ []) × (a ≡ end)
Opens a (u ∷ us) instances end = (body : PlainFormula) × (a ≡ all body) × IsClosedTerm u
    × (rest : List PlainFormula) × (instances ≡ instance body u ∷ rest) × Opens (instance body u) us rest end

-- an atom, or its negation
abbrev pub literal : Bool → PlainFormula → PlainFormula
literal positive a = if positive then a else not a

abbrev pub equivalence : Bool → PlainFormula → PlainFormula → PlainFormula
equivalence head_left head body = if head_left then iff head body else iff body head

-- both sides of the equivalence in their order
abbrev pub in_order : Bool → PlainFormula → PlainFormula → List PlainFormula
in_order head_left head body = if head_left then head ∷ body ∷ [] else body ∷ head ∷ []

-- The literal and the axiom stand on the list of len formulas, and the terms open the axiom to an equivalence that has
-- the literal's atom as its left side, where head_left, and as its right side otherwise. The new list is that of the
-- premise with which the proof goes on: the instances are appended, and then both sides for an atom, and the negations
-- of both for a negated atom.
pub record IsRewriting (len axiom_place literal_place : ℕ) (positive head_left : Bool) (us : List PlainTerm)
    (list new : List PlainFormula) : Type 0 where
  pub few : length list ≡ len
  pub formula : PlainFormula
  pub instances : List PlainFormula
  pub predicate : ℕ
  pub arguments : PlainTerms
  pub body : PlainFormula
  pub axiom_there : slice_get list axiom_place ≡ Some formula
  pub opens : Opens formula us instances (equivalence head_left (atom predicate arguments) body)
  pub literal_there : slice_get list literal_place ≡ Some (literal positive (atom predicate arguments))
  pub goes_on : new
      ≡ (list ++ instances) ++ map (literal positive) (in_order head_left (atom predicate arguments) body)

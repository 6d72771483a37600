-- Patterns: plain terms, the variables of which are to be filled so that they become given free terms.
use Rattle.std.specs.Prelude.{◌≡◌, ◌<◌, ◌↔◌, ℕ, Bool, false, ◌||◌, eqb, List, length, Option, Some, None, slice_get}
use Rattle.fol_core.specs.Syntax as plain
use Rattle.free_terms.specs.Free.{FreeTerm, FreeTerms, fill_terms, lift_terms}
use Rattle.free_terms.specs.NoParam.{NoParamInTerms}

-- whether the variable that lies n quantifiers further out stands in it
abbrev mutual
  pub variable_in_term : ℕ → plain.PlainTerm → Bool
  variable_in_term n (plain.bound m) = eqb m n
  variable_in_term n (plain.param m) = false
  variable_in_term n (plain.app f us) = variable_in_terms n us

  pub variable_in_terms : ℕ → plain.PlainTerms → Bool
  variable_in_terms n plain.no_terms = false
  variable_in_terms n (plain.terms u us) = variable_in_term n u || variable_in_terms n us

-- One term for each of the pattern's variables, and none for a variable that the pattern does not have,
-- with which the pattern is the target. A parameter has no free term, so a pattern with one is none.
pub record IsMatch (pattern : plain.PlainTerms) (count : ℕ) (target : FreeTerms) (fills : List (Option FreeTerm)) :
    Type 0 where
  pub no_param : NoParamInTerms pattern
  pub one_each : length fills ≡ count
  pub used : (n : ℕ) → n < count → (slice_get fills n ≡ Some None) ↔ (variable_in_terms n pattern ≡ false)
  pub same : fill_terms fills 0 (lift_terms pattern) ≡ target

-- such fills, or None where there are none
abbrev pub Matches : plain.PlainTerms → ℕ → FreeTerms → Option (List (Option FreeTerm)) → Type 0
Matches pattern count target (Some fills) = IsMatch pattern count target fills
Matches pattern count target None = (fills : List (Option FreeTerm)) → IsMatch pattern count target fills → ⊥

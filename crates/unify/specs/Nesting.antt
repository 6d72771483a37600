-- How deep terms nest, and how deep those of an offer may.
use Rattle.std.specs.Prelude.{◌≡◌, ◌≤◌, ◌<◌, ℕ, suc, ◌+◌, max, Option, Some, None, [], ◌∷◌}
use Rattle.free_terms.specs.Free.{FreeTerm, FreeTerms, bound, metavar, skolem, app, no_terms, terms}
use Rattle.unify.specs.Offers.{Offer}

-- the greatest number of symbols that stand around a part of the term
abbrev mutual
  pub nesting : FreeTerm → ℕ
  nesting (bound n) = 0
  nesting (metavar x) = 0
  nesting (skolem x us) = nesting_below us
  nesting (app f us) = nesting_below us

  -- of the arguments, seen from the symbol above them
  pub nesting_below : FreeTerms → ℕ
  nesting_below no_terms = 0
  nesting_below (terms u us) = max (suc (nesting u)) (nesting_below us)

-- How deep the bound terms nest together. With all bindings applied none of them nests deeper.
abbrev pub nesting_of : Offer → ℕ
nesting_of [] = 0
nesting_of (b ∷ s) = nesting b.term + nesting_of s

-- the bound terms of an offer nest no deeper together
abbrev pub most_nested : ℕ
most_nested = 6000

-- the number, or None where it is more than the greatest that counts
abbrev pub IsWithin : ℕ → ℕ → Option ℕ → Type 0
IsWithin most n (Some found) = (found ≡ n) × (n ≤ most)
IsWithin most n None = most < n

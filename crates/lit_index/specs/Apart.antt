-- Lists of terms that no offer makes equal, since they have different symbols at one position.
use Rattle.std.specs.Prelude.{◌≡◌, ℕ, zero, suc, List, [], ◌∷◌, Option, Some, None, option_and_then}
use Rattle.free_terms.specs.Free.{Name, FreeTerm, FreeTerms, bound, metavar, skolem, app, no_terms, terms}
use Rattle.unify.specs.Offers.{Offer, EquatesAll}

-- What stands at the root of a term. A bound variable counts as a symbol of its own.
pub data Symbol : Type 0 where
  variable : ℕ → Symbol
  skolem_symbol : Name → Symbol
  function_symbol : ℕ → Symbol

-- a metavariable has none, since it may come to be any term
abbrev pub symbol_of : FreeTerm → Option Symbol
symbol_of (bound n) = Some (variable n)
symbol_of (metavar x) = None
symbol_of (skolem x us) = Some (skolem_symbol x)
symbol_of (app f us) = Some (function_symbol f)

abbrev pub arguments_of : FreeTerm → FreeTerms
arguments_of (bound n) = no_terms
arguments_of (metavar x) = no_terms
arguments_of (skolem x us) = us
arguments_of (app f us) = us

abbrev pub term_at : ℕ → FreeTerms → Option FreeTerm
term_at n no_terms = None
term_at zero (terms u us) = Some u
term_at (suc n) (terms u us) = term_at n us

-- The symbol at a position of a term. A position is the places of arguments on the way down, and nothing stands at
-- one that leads through a metavariable.
abbrev pub symbol_at : List ℕ → FreeTerm → Option Symbol
symbol_at [] t = symbol_of t
symbol_at (i ∷ position) t = option_and_then (λ u. symbol_at position u) (term_at i (arguments_of t))

-- two terms have different symbols at one position
pub record Clash (t u : FreeTerm) : Type 0 where
  pub position : List ℕ
  pub left : Symbol
  pub right : Symbol
  pub at_left : symbol_at position t ≡ Some left
  pub at_right : symbol_at position u ≡ Some right
  pub differ : left ≡ right → ⊥

-- The terms at one place of the lists clash. That one list is longer is no difference.
pub record AreApart (ts us : FreeTerms) : Type 0 where
  pub place : ℕ
  pub left : FreeTerm
  pub right : FreeTerm
  pub at_left : term_at place ts ≡ Some left
  pub at_right : term_at place us ≡ Some right
  pub clash : Clash left right

abbrev pub NoOfferEquates : FreeTerms → FreeTerms → Type 0
NoOfferEquates ts us = (s : Offer) → EquatesAll s ts us → ⊥

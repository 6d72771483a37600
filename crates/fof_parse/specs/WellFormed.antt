-- Which formulas are closed formulas over a problem's symbols.
use Rattle.std.specs.Prelude.{◌<◌, ℕ, suc, List, slice_get}
use Rattle.fol_core.specs.Syntax.{PlainTerm, bound, param, app, PlainTerms, no_terms, terms, PlainFormula}
use Rattle.fol_core.specs.Syntax as syntax
use Rattle.fol_core.specs.Symbol.{SymbolTable}
use Rattle.fol_core.specs.Symbol.{Symbol as Known}
use Rattle.fol_core.specs.Spelling.{HasArity, count}

-- A term over these function symbols, each with its number of arguments, where n quantifiers stand around it: each of
-- its variables is bound by one of them. It holds no parameter.
abbrev mutual
  pub IsWellFormedTerm : List Known → ℕ → PlainTerm → Type 0
  IsWellFormedTerm fs n (bound k) = k < n
  IsWellFormedTerm fs n (param k) = ⊥
  IsWellFormedTerm fs n (app f us) = HasArity (slice_get fs f) (count us) × AreWellFormedTerms fs n us

  pub AreWellFormedTerms : List Known → ℕ → PlainTerms → Type 0
  AreWellFormedTerms fs n no_terms = Unit {0}
  AreWellFormedTerms fs n (terms u us) = IsWellFormedTerm fs n u × AreWellFormedTerms fs n us

-- the same of a formula over the symbols of a table
abbrev pub IsWellFormed : SymbolTable → ℕ → PlainFormula → Type 0
IsWellFormed table n (syntax.atom p us) =
    HasArity (slice_get table.predicates p) (count us) × AreWellFormedTerms table.functions n us
IsWellFormed table n syntax.verum = Unit {0}
IsWellFormed table n syntax.falsum = Unit {0}
IsWellFormed table n (syntax.not a) = IsWellFormed table n a
IsWellFormed table n (syntax.and a b) = IsWellFormed table n a × IsWellFormed table n b
IsWellFormed table n (syntax.or a b) = IsWellFormed table n a × IsWellFormed table n b
IsWellFormed table n (syntax.imp a b) = IsWellFormed table n a × IsWellFormed table n b
IsWellFormed table n (syntax.iff a b) = IsWellFormed table n a × IsWellFormed table n b
IsWellFormed table n (syntax.all a) = IsWellFormed table (suc n) a
IsWellFormed table n (syntax.ex a) = IsWellFormed table (suc n) a

-- a closed formula over the symbols of a table: no quantifier stands around it
abbrev pub IsClosedOver : SymbolTable → PlainFormula → Type 0
IsClosedOver table a = IsWellFormed table 0 a

-- The function symbols of a term are of this list, each with its number of arguments.
abbrev mutual
  pub TermUses : List Known → PlainTerm → Type 0
  TermUses fs (bound k) = Unit {0}
  TermUses fs (param k) = Unit {0}
  TermUses fs (app f us) = HasArity (slice_get fs f) (count us) × TermsUse fs us

  pub TermsUse : List Known → PlainTerms → Type 0
  TermsUse fs no_terms = Unit {0}
  TermsUse fs (terms u us) = TermUses fs u × TermsUse fs us

-- The symbols of a formula are the table's, each with its number of arguments.
abbrev pub UsesSymbols : SymbolTable → PlainFormula → Type 0
UsesSymbols table (syntax.atom p us) =
    HasArity (slice_get table.predicates p) (count us) × TermsUse table.functions us
UsesSymbols table syntax.verum = Unit {0}
UsesSymbols table syntax.falsum = Unit {0}
UsesSymbols table (syntax.not a) = UsesSymbols table a
UsesSymbols table (syntax.and a b) = UsesSymbols table a × UsesSymbols table b
UsesSymbols table (syntax.or a b) = UsesSymbols table a × UsesSymbols table b
UsesSymbols table (syntax.imp a b) = UsesSymbols table a × UsesSymbols table b
UsesSymbols table (syntax.iff a b) = UsesSymbols table a × UsesSymbols table b
UsesSymbols table (syntax.all a) = UsesSymbols table a
UsesSymbols table (syntax.ex a) = UsesSymbols table a

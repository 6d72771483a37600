-- What the program finds in front of tokens.
use Rattle.std.specs.Prelude.{◌≡◌, ℕ, ◌<◌, List, length, Option, Some}
use Rattle.fol_core.specs.Symbol.{IsSymbolName}
use Rattle.fol_core.specs.Syntax.{PlainFormula}
use Rattle.fof_parse.specs.Reader.Building.{State, Built}
use Rattle.fof_parse.specs.declared.token.Quantifier.{Quantifier as Quantor}
use Rattle.fof_parse.specs.Token.{Token}
use Rattle.fof_parse.specs.Grammar.{Symbol, word, defined, Term, variable, numeral, object, applied, Terms, no_terms}
use Rattle.fof_parse.specs.Grammar.{terms, Sentence}
use Rattle.fof_parse.specs.Reader.Reading.{Head, symbol_head, variable_head, numeral_head, object_head, arguments_by}
use Rattle.fof_parse.specs.Reader.Reading.{terms_by}
use Rattle.fof_parse.specs.Reader.Reading.{term_within, terms_within, body_by, bound_by, scope_by, unit_within}
use Rattle.fof_parse.specs.Reader.Reading.{formula_within}

-- What is read, by any number of steps that is enough.
abbrev pub ReadsTerm : List Token → Option (Term × List Token) → Type 0
ReadsTerm ts found = (steps : ℕ) → length ts < steps → term_within steps ts ≡ found

abbrev pub ReadsArguments : Symbol → List Token → Option (Term × List Token) → Type 0
ReadsArguments f ts found = (steps : ℕ) → length ts < steps → arguments_by (terms_within steps) f ts ≡ found

abbrev pub ReadsTerms : List Token → Option (Terms × List Token) → Type 0
ReadsTerms ts found = (steps c : ℕ) → length ts < steps → length ts < c → terms_by (term_within steps) c ts ≡ found

abbrev pub ReadsUnit : List Token → Option (Sentence × List Token) → Type 0
ReadsUnit ts found = (steps : ℕ) → length ts < steps → unit_within steps ts ≡ found

abbrev pub ReadsScope : Quantor → List Token → Option (Sentence × List Token) → Type 0
ReadsScope q ts found = (steps c : ℕ) → length ts < steps → length ts < c → scope_by (unit_within steps) q c ts ≡ found

abbrev pub ReadsBody : List Token → Option (Sentence × List Token) → Type 0
ReadsBody ts found = (steps : ℕ) → length ts < steps → body_by (unit_within steps) ts ≡ found

abbrev pub ReadsBound : Quantor → List Token → Option (Sentence × List Token) → Type 0
ReadsBound q ts found = (steps c : ℕ) → length ts < steps → length ts < c
    → bound_by (unit_within steps) (scope_by (unit_within steps) q c) ts ≡ found

abbrev pub ReadsFormula : List Token → Option (Sentence × List Token) → Type 0
ReadsFormula ts found = (steps : ℕ) → length ts < steps → formula_within steps ts ≡ found

-- its words may be symbols' names
abbrev pub IsProperSymbol : Symbol → Type 0
IsProperSymbol (word w) = IsSymbolName w
IsProperSymbol (defined w) = Unit {0}

abbrev pub IsProperHead : Head → Type 0
IsProperHead (symbol_head f) = IsProperSymbol f
IsProperHead (variable_head w) = Unit {0}
IsProperHead (numeral_head w) = Unit {0}
IsProperHead (object_head w) = Unit {0}

abbrev mutual
  pub IsProperTerm : Term → Type 0
  IsProperTerm (variable w) = Unit {0}
  IsProperTerm (numeral w) = Unit {0}
  IsProperTerm (object w) = Unit {0}
  IsProperTerm (applied f us) = IsProperSymbol f × AreProperTerms us

  pub AreProperTerms : Terms → Type 0
  AreProperTerms no_terms = Unit {0}
  AreProperTerms (terms u us) = IsProperTerm u × AreProperTerms us

-- A part of a formula is read, and is built.
pub record Parsed (Reads : Option (Sentence × List Token) → Type 0) (vs : List (List ℕ)) (old new : State)
    (a : PlainFormula) (rest : List Token) : Type 0 where
  pub sentence : Sentence
  pub reads : Reads (Some (sentence, rest))
  pub built : Built vs old new sentence a

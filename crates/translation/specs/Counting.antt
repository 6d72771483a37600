-- The length of a proof's text, counted without the text.
use Rattle.std.specs.Prelude.{ℕ, suc, ◌+◌, List, [], ◌∷◌, length, decimal}
use Rattle.fol_core.specs.Symbol.{Symbol}
use Rattle.fol_core.specs.Spelling.{spelled_symbol, name_in}
use Rattle.fol_core.specs.Syntax.{PlainTerm, PlainTerms, bound, param, app, no_terms, terms}
use Rattle.gs3_rules.specs.Rules.{Rule, close, false_at, not_true, alpha, beta, delta, gamma}

abbrev pub digits_of : ℕ → ℕ
digits_of n = length (decimal n)

-- A term's bytes, where a symbol's are given. Behind each argument stands a comma or the closing parenthesis.
abbrev mutual
  pub term_bytes : (ℕ → ℕ) → PlainTerm → ℕ
  term_bytes symbol (bound n) = 0
  term_bytes symbol (param n) = suc (digits_of n)
  term_bytes symbol (app f us) = symbol f + arguments_bytes symbol us

  pub arguments_bytes : (ℕ → ℕ) → PlainTerms → ℕ
  arguments_bytes symbol no_terms = 0
  arguments_bytes symbol (terms u us) = suc (suc (term_bytes symbol u + rest_bytes symbol us))

  pub rest_bytes : (ℕ → ℕ) → PlainTerms → ℕ
  rest_bytes symbol no_terms = 0
  rest_bytes symbol (terms u us) = suc (term_bytes symbol u + rest_bytes symbol us)

-- how many bytes the symbol's spelling has
abbrev pub symbol_bytes : List Symbol → ℕ → ℕ
symbol_bytes fs f = length (spelled_symbol (name_in fs f))

-- the bytes of a step's line, its line feed too
abbrev pub line_bytes : List Symbol → Rule → ℕ
line_bytes fs (close i j) = 8 + digits_of i + digits_of j
line_bytes fs (false_at i) = 7 + digits_of i
line_bytes fs (not_true i) = 9 + digits_of i
line_bytes fs (alpha i) = 7 + digits_of i
line_bytes fs (beta i) = 6 + digits_of i
line_bytes fs (delta i n) = 9 + digits_of i + digits_of n
line_bytes fs (gamma i t) = 8 + digits_of i + term_bytes (symbol_bytes fs) t

abbrev pub lines_bytes : List Symbol → List Rule → ℕ
lines_bytes fs [] = 0
lines_bytes fs (rule ∷ rules) = line_bytes fs rule + lines_bytes fs rules

-- How symbols and closed terms are spelled in a proof's text.
use Rattle.std.specs.Prelude.{◌≡◌, ℕ, suc, ◌<◌, ◌^◌, max, Bool, false, ◌&&◌, ◌||◌, eqb, nat_le, if◌then◌else◌, List, []}
use Rattle.std.specs.Prelude.{◌∷◌, ◌++◌, slice_get, codes, decimal, Option, Some, None}
use Rattle.std.specs.List.{list_all, flat_map}
use Rattle.fol_core.specs.Syntax.{PlainTerm, PlainTerms, bound, param, app, no_terms, terms}
use Rattle.fol_core.specs.Symbol.{Symbol}

abbrev pub is_between : ℕ → ℕ → ℕ → Bool
is_between low high c = nat_le low c && nat_le c high

-- a letter, a digit or an underscore
abbrev pub is_word_byte : ℕ → Bool
is_word_byte c = is_between 97 122 c || is_between 65 90 c || is_between 48 57 c || eqb c 95

-- a small letter, and then letters, digits and underscores
abbrev pub is_lower_word : List ℕ → Bool
is_lower_word [] = false
is_lower_word (c ∷ cs) = is_between 97 122 c && list_all is_word_byte cs

-- a quote and a backslash stand behind a backslash
abbrev pub escaped : ℕ → List ℕ
escaped c = if eqb c 39 || eqb c 92 then 92 ∷ c ∷ [] else c ∷ []

-- a lower word as it is, and any other name in single quotes
abbrev pub spelled_symbol : List ℕ → List ℕ
spelled_symbol w = if is_lower_word w then w else codes "'" ++ flat_map escaped w ++ codes "'"

abbrev pub name_of : Option Symbol → List ℕ
name_of None = []
name_of (Some s) = s.0

abbrev pub name_in : List Symbol → ℕ → List ℕ
name_in table f = name_of (slice_get table f)

abbrev pub spelled_param : ℕ → List ℕ
spelled_param n = codes "#" ++ decimal n

-- A term over these function symbols: a parameter, a symbol alone, or a symbol with its arguments in parentheses.
abbrev mutual
  pub spelled : List Symbol → PlainTerm → List ℕ
  spelled fs (bound n) = []
  spelled fs (param n) = spelled_param n
  spelled fs (app f us) = spelled_symbol (name_in fs f) ++ spelled_arguments fs us

  pub spelled_arguments : List Symbol → PlainTerms → List ℕ
  spelled_arguments fs no_terms = []
  spelled_arguments fs (terms u us) = codes "(" ++ spelled fs u ++ spelled_rest fs us

  -- what follows an argument
  pub spelled_rest : List Symbol → PlainTerms → List ℕ
  spelled_rest fs no_terms = codes ")"
  spelled_rest fs (terms u us) = codes "," ++ spelled fs u ++ spelled_rest fs us

abbrev pub count : PlainTerms → ℕ
count no_terms = 0
count (terms u us) = suc (count us)

-- how deep a term nests: a variable, a constant and a parameter nest 1 deep
abbrev mutual
  pub depth : PlainTerm → ℕ
  depth (bound n) = 1
  depth (param n) = 1
  depth (app f us) = suc (depth_of_all us)

  pub depth_of_all : PlainTerms → ℕ
  depth_of_all no_terms = 0
  depth_of_all (terms u us) = max (depth u) (depth_of_all us)

abbrev pub HasArity : Option Symbol → ℕ → Type 0
HasArity None n = ⊥
HasArity (Some s) n = s.1 ≡ n

-- A closed term of these function symbols, each with its number of arguments, and of parameters.
abbrev mutual
  pub IsOver : List Symbol → PlainTerm → Type 0
  IsOver fs (bound n) = ⊥
  IsOver fs (param n) = n < 2 ^ 64
  IsOver fs (app f us) = HasArity (slice_get fs f) (count us) × AreOver fs us

  pub AreOver : List Symbol → PlainTerms → Type 0
  AreOver fs no_terms = Unit {0}
  AreOver fs (terms u us) = IsOver fs u × AreOver fs us

-- more behind what was there
pub record IsGrown (old new : List ℕ) : Type 0 where
  pub more : List ℕ
  pub is : new ≡ old ++ more

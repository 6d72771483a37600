-- Kinds of bytes.
use Rattle.std.specs.Prelude.{ℕ, Bool, not, ◌&&◌, ◌||◌, eqb}
pub use Rattle.fol_core.specs.Spelling.{is_between, is_word_byte}

-- tab, line feed, vertical tab, form feed, carriage return and space
abbrev pub is_blank : ℕ → Bool
is_blank c = is_between 9 13 c || eqb c 32

abbrev pub is_lower : ℕ → Bool
is_lower c = is_between 97 122 c

abbrev pub is_upper : ℕ → Bool
is_upper c = is_between 65 90 c

abbrev pub is_digit : ℕ → Bool
is_digit c = is_between 48 57 c

-- a byte that is no line feed
abbrev pub is_in_line : ℕ → Bool
is_in_line c = not (eqb c 10)

-- the quote itself and the backslash, which stand between quotes only behind a backslash
abbrev pub is_escaped : ℕ → ℕ → Bool
is_escaped quote c = eqb c quote || eqb c 92

-- a byte that stands for itself between quotes: any byte from 32 to 126 but the quote and the backslash
abbrev pub is_plain : ℕ → ℕ → Bool
is_plain quote c = is_between 32 126 c && not (is_escaped quote c)

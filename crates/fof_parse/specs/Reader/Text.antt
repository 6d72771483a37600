-- The tokens of a text, as the program holds them.
use Rattle.std.specs.Prelude.{ℕ, ◌<◌, ◌≤◌, List, [], ◌∷◌, length, map, drop}
use Rattle.std.specs.List.{slice_range}
use Rattle.fol_core.specs.Symbol.{IsSymbolName}
use Rattle.fof_lex.specs.Tokens.{IsTextOf}
use Rattle.fof_lex.specs.declared.token.Token.{Token as LexToken}
use Rattle.fof_parse.specs.declared.text.Text.{Text}
use Rattle.fof_parse.specs.Token.{Token, lower, upper, quoted, distinct, dollar, number, marked, other, token_in}

-- the token stands in the bytes
pub record IsIn (bytes : List ℕ) (t : LexToken) : Type 0 where
  pub some : t.start < t.end
  pub within : t.end ≤ length bytes
  pub is_text : IsTextOf t.kind (slice_range bytes t.start t.end)

abbrev pub AreAllIn : List ℕ → List LexToken → Type 0
AreAllIn bytes [] = Unit {0}
AreAllIn bytes (t ∷ ts) = IsIn bytes t × AreAllIn bytes ts

abbrev pub AreIn : Text → Type 0
AreIn text = AreAllIn text.bytes.now text.tokens.now

abbrev pub tokens_of : Text → List Token
tokens_of text = map (token_in text.bytes.now) text.tokens.now

-- the tokens from a place on
abbrev pub from : Text → ℕ → List Token
from text at = drop at (tokens_of text)

-- what may be a symbol's name is one
abbrev pub IsProper : Token → Type 0
IsProper (lower w) = IsSymbolName w
IsProper (quoted w) = IsSymbolName w
IsProper (upper w) = Unit {0}
IsProper (distinct w) = Unit {0}
IsProper (dollar w) = Unit {0}
IsProper (number w) = Unit {0}
IsProper (marked m) = Unit {0}
IsProper other = Unit {0}

abbrev pub tokens_in : List ℕ → List LexToken → List Token
tokens_in bytes tokens = map (token_in bytes) tokens

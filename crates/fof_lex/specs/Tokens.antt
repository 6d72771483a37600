-- The tokens of a text.
use Rattle.std.specs.Prelude.{◌≡◌, ◌≢◌, ℕ, ◌+◌, ◌<◌, ◌≤◌, IsTrue, List, [], ◌∷◌, ◌++◌, length, codes, ◌⊎◌}
use Rattle.std.specs.List.{list_all, slice_range}
use Rattle.fol_core.specs.Spelling.{is_lower_word}
use Rattle.fof_lex.specs.Bytes.{is_blank, is_upper, is_digit, is_word_byte, is_in_line, is_escaped, is_plain}
use Rattle.fof_lex.specs.declared.token.Connective.{Connective}
use Rattle.fof_lex.specs.declared.token.Connective.TheVariants.{Equivalent, NotEquivalent, Implies, ImpliedBy, NotAnd}
use Rattle.fof_lex.specs.declared.token.Connective.TheVariants.{NotOr, NotEqual}
use Rattle.fof_lex.specs.declared.token.Mark.{Mark}
use Rattle.fof_lex.specs.declared.token.Mark.TheVariants.{OpenParenthesis, CloseParenthesis, OpenBracket, CloseBracket}
use Rattle.fof_lex.specs.declared.token.Mark.TheVariants.{OpenBrace, CloseBrace, Comma, Stop, Colon, Semicolon}
use Rattle.fof_lex.specs.declared.token.Mark.TheVariants.{Exclamation, Question, Tilde, Ampersand, Bar, Equals, Less}
use Rattle.fof_lex.specs.declared.token.Mark.TheVariants.{Greater, At, Caret, Plus, Minus, Star, Slash, Backslash, Hash}
use Rattle.fof_lex.specs.declared.token.Kind.{Kind}
use Rattle.fof_lex.specs.declared.token.Kind.TheVariants.{LowerWord, UpperWord, Quoted, DistinctObject, DollarWord}
use Rattle.fof_lex.specs.declared.token.Kind.TheVariants.{Number, Connective as of_connective, Mark as of_mark}
use Rattle.fof_lex.specs.declared.token.Token.{Token}

-- Words

abbrev pub AreWordBytes : List ℕ → Type 0
AreWordBytes cs = IsTrue (list_all is_word_byte cs)

-- a small letter, and then letters, digits and underscores, as a symbol is spelled that needs no quotes
pub data IsLowerWord : List ℕ → Type 0 where
  lower_word : (c : ℕ) (cs : List ℕ) → IsTrue (is_lower_word (c ∷ cs)) → IsLowerWord (c ∷ cs)

-- a capital letter, and then letters, digits and underscores
pub data IsUpperWord : List ℕ → Type 0 where
  upper_word : (c : ℕ) (cs : List ℕ) → IsTrue (is_upper c) → AreWordBytes cs → IsUpperWord (c ∷ cs)

-- `$` or `$$`, and then a lower word
pub data IsDollarWord : List ℕ → Type 0 where
  one_dollar : (w : List ℕ) → IsLowerWord w → IsDollarWord (36 ∷ w)
  two_dollars : (w : List ℕ) → IsLowerWord w → IsDollarWord (36 ∷ 36 ∷ w)

-- Quotes

-- What may stand between two quotes: bytes from 32 to 126, a backslash before each quote and each backslash.
pub data IsBody (quote : ℕ) : List ℕ → Type 0 where
  no_more : IsBody quote []
  itself : (c : ℕ) (body : List ℕ) → IsTrue (is_plain quote c) → IsBody quote body → IsBody quote (c ∷ body)
  escape : (c : ℕ) (body : List ℕ) → IsTrue (is_escaped quote c) → IsBody quote body → IsBody quote (92 ∷ c ∷ body)

-- something in single quotes
pub data IsQuoted : List ℕ → Type 0 where
  quoted : (body : List ℕ) → body ≢ [] → IsBody 39 body → IsQuoted (39 ∷ body ++ 39 ∷ [])

-- anything in double quotes, or nothing
pub data IsDistinctObject : List ℕ → Type 0 where
  distinct_object : (body : List ℕ) → IsBody 34 body → IsDistinctObject (34 ∷ body ++ 34 ∷ [])

-- Numbers

-- one or more digits
pub data AreDigits : List ℕ → Type 0 where
  digits : (d : ℕ) (ds : List ℕ) → IsTrue (is_digit d) → IsTrue (list_all is_digit ds) → AreDigits (d ∷ ds)

-- a plus, a minus, or neither
pub data IsSign : List ℕ → Type 0 where
  no_sign : IsSign []
  plus : IsSign (43 ∷ [])
  minus : IsSign (45 ∷ [])

-- a point with digits, or nothing
pub data IsPoint : List ℕ → Type 0 where
  no_point : IsPoint []
  point : (ds : List ℕ) → AreDigits ds → IsPoint (46 ∷ ds)

-- `e` or `E` with digits, which may have a sign, or nothing
pub data IsExponent : List ℕ → Type 0 where
  no_exponent : IsExponent []
  exponent : (e : ℕ) (sign ds : List ℕ) → (e ≡ 101) ⊎ (e ≡ 69) → IsSign sign → AreDigits ds
      → IsExponent (e ∷ sign ++ ds)

-- what may follow a number's first digits: a denominator, or decimals and an exponent
pub data IsNumberTail : List ℕ → Type 0 where
  denominator : (ds : List ℕ) → AreDigits ds → IsNumberTail (47 ∷ ds)
  decimals : (fraction power : List ℕ) → IsPoint fraction → IsExponent power → IsNumberTail (fraction ++ power)

-- an integer, a rational or a real
pub data IsNumber : List ℕ → Type 0 where
  number : (sign ds tail : List ℕ) → IsSign sign → AreDigits ds → IsNumberTail tail → IsNumber (sign ++ ds ++ tail)

-- Connectives and marks

abbrev pub connective_text : Connective → List ℕ
connective_text Equivalent = codes "<=>"
connective_text NotEquivalent = codes "<~>"
connective_text Implies = codes "=>"
connective_text ImpliedBy = codes "<="
connective_text NotAnd = codes "~&"
connective_text NotOr = codes "~|"
connective_text NotEqual = codes "!="

abbrev pub mark_text : Mark → List ℕ
mark_text OpenParenthesis = codes "("
mark_text CloseParenthesis = codes ")"
mark_text OpenBracket = codes "["
mark_text CloseBracket = codes "]"
mark_text OpenBrace = codes "{"
mark_text CloseBrace = codes "}"
mark_text Comma = codes ","
mark_text Stop = codes "."
mark_text Colon = codes ":"
mark_text Semicolon = codes ";"
mark_text Exclamation = codes "!"
mark_text Question = codes "?"
mark_text Tilde = codes "~"
mark_text Ampersand = codes "&"
mark_text Bar = codes "|"
mark_text Equals = codes "="
mark_text Less = codes "<"
mark_text Greater = codes ">"
mark_text At = codes "@"
mark_text Caret = codes "^"
mark_text Plus = codes "+"
mark_text Minus = codes "-"
mark_text Star = codes "*"
mark_text Slash = codes "/"
mark_text Backslash = codes "\\"
mark_text Hash = codes "#"

-- Tokens

-- The bytes are a text of a token of that kind.
abbrev pub IsTextOf : Kind → List ℕ → Type 0
IsTextOf LowerWord cs = IsLowerWord cs
IsTextOf UpperWord cs = IsUpperWord cs
IsTextOf Quoted cs = IsQuoted cs
IsTextOf DistinctObject cs = IsDistinctObject cs
IsTextOf DollarWord cs = IsDollarWord cs
IsTextOf Number cs = IsNumber cs
IsTextOf (of_connective k) cs = cs ≡ connective_text k
IsTextOf (of_mark m) cs = cs ≡ mark_text m

-- A token begins a text with `front`, where `rest` follows. Where `/*` stands, no token begins.
pub record Begins (kind : Kind) (front rest : List ℕ) : Type 0 where
  pub is_text : IsTextOf kind front
  pub no_comment : (more : List ℕ) → front ++ rest ≡ 47 ∷ 42 ∷ more → ⊥

-- The token `front` is a longest one that begins the text.
pub record IsLongest (kind : Kind) (front rest : List ℕ) : Type 0 where
  pub begins : Begins kind front rest
  pub longest : (other : Kind) (more left : List ℕ) → front ++ rest ≡ more ++ left → Begins other more left
      → length more ≤ length front

-- Blanks and comments

-- a line feed begins the text, or the text is at its end
pub data IsLineEnd : List ℕ → Type 0 where
  at_feed : (more : List ℕ) → IsLineEnd (10 ∷ more)
  at_end : IsLineEnd []

-- A blank or a comment begins a text with `front`, where `rest` follows. A comment goes from `%` up to the end of the
-- line, or from `/*` to the first `*/` behind it.
pub data IsGap : List ℕ → List ℕ → Type 0 where
  blank : (c : ℕ) (rest : List ℕ) → IsTrue (is_blank c) → IsGap (c ∷ []) rest
  line_comment : (body rest : List ℕ) → IsTrue (list_all is_in_line body) → IsLineEnd rest → IsGap (37 ∷ body) rest
  block_comment : (body rest : List ℕ) → ((front back : List ℕ) → body ++ 42 ∷ [] ≡ front ++ 42 ∷ 47 ∷ back → ⊥)
      → IsGap (47 ∷ 42 ∷ body ++ 42 ∷ 47 ∷ []) rest

-- Texts

-- The text, which begins at the offset `at` of the whole, is these tokens, with blanks and comments between them. At
-- each place the longest token is taken.
pub data Lexes : ℕ → List ℕ → List Token → Type 0 where
  ends : (at : ℕ) → Lexes at [] []
  skips : (at : ℕ) (text front rest : List ℕ) (tokens : List Token) → text ≡ front ++ rest → IsGap front rest
      → Lexes (at + length front) rest tokens → Lexes at text tokens
  takes : (at : ℕ) (text front rest : List ℕ) (kind : Kind) (tokens : List Token) → text ≡ front ++ rest
      → IsLongest kind front rest
      → Lexes (at + length front) rest tokens
      → Lexes at text (record { kind = kind; start = at; end = at + length front } ∷ tokens)

-- The text, which begins at the offset `at` of the whole, begins with these tokens, with blanks and comments before and
-- between them, each the longest. Behind them `rest` is left, which begins at the offset `low`.
pub data LexesUpTo : ℕ → List ℕ → List Token → ℕ → List ℕ → Type 0 where
  here : (at : ℕ) (text : List ℕ) → LexesUpTo at text [] at text
  behind_gap : (at : ℕ) (text front left : List ℕ) (tokens : List Token) (low : ℕ) (rest : List ℕ)
      → text ≡ front ++ left → IsGap front left
      → LexesUpTo (at + length front) left tokens low rest → LexesUpTo at text tokens low rest
  behind_token : (at : ℕ) (text front left : List ℕ) (kind : Kind) (tokens : List Token) (low : ℕ) (rest : List ℕ)
      → text ≡ front ++ left
      → IsLongest kind front left → LexesUpTo (at + length front) left tokens low rest
      → LexesUpTo at text (record { kind = kind; start = at; end = at + length front } ∷ tokens) low rest

-- More of the text is there, and no blank, comment or token begins it.
pub record BeginsNothing (text : List ℕ) : Type 0 where
  pub more : text ≢ []
  pub no_gap : (front rest : List ℕ) → text ≡ front ++ rest → IsGap front rest → ⊥
  pub no_token : (kind : Kind) (front rest : List ℕ) → text ≡ front ++ rest → Begins kind front rest → ⊥

-- The text, which begins at the offset `at` of the whole, is tokens with blanks and comments between them up to the
-- offset `bad`, and there nothing begins.
pub data LexFails : ℕ → List ℕ → ℕ → Type 0 where
  fails : (at : ℕ) (text : List ℕ) → BeginsNothing text → LexFails at text at
  after_gap : (at : ℕ) (text front rest : List ℕ) (bad : ℕ) → text ≡ front ++ rest → IsGap front rest
      → LexFails (at + length front) rest bad → LexFails at text bad
  after_token : (at : ℕ) (text front rest : List ℕ) (kind : Kind) (bad : ℕ) → text ≡ front ++ rest
      → IsLongest kind front rest
      → LexFails (at + length front) rest bad → LexFails at text bad

-- The tokens stand in the bytes one behind the other, the first of them at `from` or behind it, and the bytes from a
-- token's start to its end are a text of its kind.
abbrev pub AreIn : List ℕ → ℕ → List Token → Type 0
AreIn bytes from [] = Unit {0}
AreIn bytes from (t ∷ tokens) =
    (from ≤ t.start) × (t.start < t.end) × (t.end ≤ length bytes) × IsTextOf t.kind (slice_range bytes t.start t.end)
    × AreIn bytes t.end tokens

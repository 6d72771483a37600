-- Reading from left to right: what stands in front of a text, and what follows it.
use Rattle.std.specs.Prelude.{ℕ, Bool, true, false, ◌&&◌, ◌||◌, eqb, if◌then◌else◌, List, [], ◌∷◌, Option, Some, None}
use Rattle.fof_lex.specs.Bytes.{is_blank, is_lower, is_upper, is_digit, is_word_byte, is_in_line, is_escaped, is_plain}
use Rattle.fof_lex.specs.declared.token.Connective.TheVariants.{Equivalent, NotEquivalent, Implies, ImpliedBy, NotAnd}
use Rattle.fof_lex.specs.declared.token.Connective.TheVariants.{NotOr, NotEqual}
use Rattle.fof_lex.specs.declared.token.Mark.{Mark}
use Rattle.fof_lex.specs.declared.token.Mark.TheVariants.{OpenParenthesis, CloseParenthesis, OpenBracket, CloseBracket}
use Rattle.fof_lex.specs.declared.token.Mark.TheVariants.{OpenBrace, CloseBrace, Comma, Stop, Colon, Semicolon}
use Rattle.fof_lex.specs.declared.token.Mark.TheVariants.{Exclamation, Question, Tilde, Ampersand, Bar, Equals, Less}
use Rattle.fof_lex.specs.declared.token.Mark.TheVariants.{Greater, At, Caret, Plus, Minus, Star, Slash, Backslash, Hash}
use Rattle.fof_lex.specs.declared.token.Kind.{Kind}
use Rattle.fof_lex.specs.declared.token.Kind.TheVariants.{LowerWord, UpperWord, Quoted, DistinctObject, DollarWord}
use Rattle.fof_lex.specs.declared.token.Kind.TheVariants.{Number, Connective as of_connective, Mark as of_mark}

-- a blank or a comment, or a token, with what follows it; or nothing that can be read
pub data Piece : Type 0 where
  gap : List ℕ → Piece
  token : Kind → List ℕ → Piece
  nothing : Piece

abbrev pub begins_with : (ℕ → Bool) → List ℕ → Bool
begins_with p [] = false
begins_with p (c ∷ cs) = p c

abbrev pub without_first : List ℕ → List ℕ
without_first [] = []
without_first (c ∷ cs) = cs

-- what follows the bytes in front that pass
abbrev pub after : (ℕ → Bool) → List ℕ → List ℕ
after p [] = []
after p (c ∷ cs) = if p c then after p cs else c ∷ cs

-- Comments

-- what follows the first `*/`
abbrev pub after_close : List ℕ → Option (List ℕ)
after_close [] = None
after_close (c ∷ cs) = if eqb c 42 && begins_with (eqb 47) cs then Some (without_first cs) else after_close cs

abbrev pub gap_before : Option (List ℕ) → Piece
gap_before None = nothing
gap_before (Some rest) = gap rest

-- the piece of a `/` and the bytes behind it
unfoldable pub slash_piece : List ℕ → Piece
slash_piece cs =
    if begins_with (eqb 42) cs then gap_before (after_close (without_first cs)) else token (of_mark Slash) cs

-- Quotes

-- what follows the closing quote, where the flag says that a backslash stands before the bytes
abbrev pub after_quote : ℕ → Bool → List ℕ → Option (List ℕ)
after_quote quote escape [] = None
after_quote quote true (c ∷ cs) = if is_escaped quote c then after_quote quote false cs else None
after_quote quote false (c ∷ cs) =
    if eqb c quote then Some cs
    else (if eqb c 92 then after_quote quote true cs
    else (if is_plain quote c then after_quote quote false cs else None))

abbrev pub token_before : Kind → Option (List ℕ) → Piece
token_before kind None = nothing
token_before kind (Some rest) = token kind rest

unfoldable pub quoted_piece : List ℕ → Piece
quoted_piece cs = if begins_with (eqb 39) cs then nothing else token_before Quoted (after_quote 39 false cs)

unfoldable pub distinct_piece : List ℕ → Piece
distinct_piece cs = token_before DistinctObject (after_quote 34 false cs)

-- Dollar words

abbrev pub dollar_word : List ℕ → Piece
dollar_word cs = if begins_with is_lower cs then token DollarWord (after is_word_byte cs) else nothing

unfoldable pub dollar_piece : List ℕ → Piece
dollar_piece cs = if begins_with (eqb 36) cs then dollar_word (without_first cs) else dollar_word cs

-- Numbers

-- what follows the digits in front of `digits`; the text itself where there are none
abbrev pub after_digits_or : List ℕ → List ℕ → List ℕ
after_digits_or text digits = if begins_with is_digit digits then after is_digit digits else text

abbrev pub is_sign : ℕ → Bool
is_sign c = eqb c 43 || eqb c 45

abbrev pub without_sign : List ℕ → List ℕ
without_sign cs = if begins_with is_sign cs then without_first cs else cs

abbrev pub is_exponent : ℕ → Bool
is_exponent c = eqb c 101 || eqb c 69

abbrev pub after_point : List ℕ → List ℕ
after_point cs = if begins_with (eqb 46) cs then after_digits_or cs (without_first cs) else cs

abbrev pub after_exponent : List ℕ → List ℕ
after_exponent cs = if begins_with is_exponent cs then after_digits_or cs (without_sign (without_first cs)) else cs

-- what follows a number, where its sign and its first digits are read
abbrev pub after_tail : List ℕ → List ℕ
after_tail cs =
    if begins_with (eqb 47) cs then after_digits_or cs (without_first cs) else after_exponent (after_point cs)

-- what follows a number, where its sign is read
unfoldable pub after_number : List ℕ → List ℕ
after_number cs = after_tail (after is_digit cs)

-- the piece of a sign and the bytes behind it
unfoldable pub sign_piece : Mark → List ℕ → Piece
sign_piece mark cs = if begins_with is_digit cs then token Number (after_number cs) else token (of_mark mark) cs

-- Connectives and marks

unfoldable pub less_piece : List ℕ → Piece
less_piece cs =
    if begins_with (eqb 61) cs then
    (if begins_with (eqb 62) (without_first cs) then token (of_connective Equivalent) (without_first (without_first cs))
    else token (of_connective ImpliedBy) (without_first cs))
    else (if begins_with (eqb 126) cs && begins_with (eqb 62) (without_first cs) then
    token (of_connective NotEquivalent) (without_first (without_first cs))
    else token (of_mark Less) cs)

unfoldable pub tilde_piece : List ℕ → Piece
tilde_piece cs =
    if begins_with (eqb 38) cs then token (of_connective NotAnd) (without_first cs)
    else (if begins_with (eqb 124) cs then token (of_connective NotOr) (without_first cs) else token (of_mark Tilde) cs)

unfoldable pub equals_piece : List ℕ → Piece
equals_piece cs =
    if begins_with (eqb 62) cs then token (of_connective Implies) (without_first cs) else token (of_mark Equals) cs

unfoldable pub exclamation_piece : List ℕ → Piece
exclamation_piece cs =
    if begins_with (eqb 61) cs then token (of_connective NotEqual) (without_first cs)
    else token (of_mark Exclamation) cs

-- the mark of a byte with which no longer token begins
abbrev pub single_mark : ℕ → Option Mark
single_mark c =
    if eqb c 40 then Some OpenParenthesis else (if eqb c 41 then Some CloseParenthesis
    else (if eqb c 91 then Some OpenBracket else (if eqb c 93 then Some CloseBracket
    else (if eqb c 123 then Some OpenBrace else (if eqb c 125 then Some CloseBrace
    else (if eqb c 44 then Some Comma else (if eqb c 46 then Some Stop
    else (if eqb c 58 then Some Colon else (if eqb c 59 then Some Semicolon
    else (if eqb c 63 then Some Question else (if eqb c 38 then Some Ampersand
    else (if eqb c 124 then Some Bar else (if eqb c 62 then Some Greater
    else (if eqb c 64 then Some At else (if eqb c 94 then Some Caret
    else (if eqb c 42 then Some Star else (if eqb c 92 then Some Backslash
    else (if eqb c 35 then Some Hash else None))))))))))))))))))

abbrev pub mark_before : Option Mark → List ℕ → Piece
mark_before None rest = nothing
mark_before (Some mark) rest = token (of_mark mark) rest

-- the piece of a byte that is no letter, no digit and no blank
unfoldable pub symbol_piece : ℕ → List ℕ → Piece
symbol_piece c cs =
    if eqb c 37 then gap (after is_in_line cs)
    else (if eqb c 47 then slash_piece cs
    else (if eqb c 43 then sign_piece Plus cs
    else (if eqb c 45 then sign_piece Minus cs
    else (if eqb c 39 then quoted_piece cs
    else (if eqb c 34 then distinct_piece cs
    else (if eqb c 36 then dollar_piece cs
    else (if eqb c 60 then less_piece cs
    else (if eqb c 126 then tilde_piece cs
    else (if eqb c 61 then equals_piece cs
    else (if eqb c 33 then exclamation_piece cs
    else mark_before (single_mark c) cs))))))))))

-- the piece in front of a text
unfoldable pub piece_at : List ℕ → Piece
piece_at [] = nothing
piece_at (c ∷ cs) =
    if is_blank c then gap cs
    else (if is_lower c then token LowerWord (after is_word_byte cs)
    else (if is_upper c then token UpperWord (after is_word_byte cs)
    else (if is_digit c then token Number (after_number (c ∷ cs))
    else symbol_piece c cs)))

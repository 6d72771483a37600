-- The tokens of a text, as the grammar tells them apart.
use Rattle.std.specs.Prelude.{ℕ, ◌-◌, Bool, true, false, eqb, if◌then◌else◌, List, [], ◌∷◌, length, Option, Some, None}
use Rattle.std.specs.List.{slice_range}
use Rattle.fof_lex.specs.declared.token.Connective.{Connective}
use Rattle.fof_lex.specs.declared.token.Connective.TheVariants as connectives
use Rattle.fof_lex.specs.declared.token.Mark.{Mark as ByteMark}
use Rattle.fof_lex.specs.declared.token.Mark.TheVariants as marks
use Rattle.fof_lex.specs.declared.token.Kind.{Kind}
use Rattle.fof_lex.specs.declared.token.Kind.TheVariants as kinds
use Rattle.fof_lex.specs.declared.token.Token.{Token as LexToken}
use Rattle.fof_parse.specs.declared.token.Operator.TheVariants.{Implies, ImpliedBy, Equivalent, NotEquivalent, NotAnd}
use Rattle.fof_parse.specs.declared.token.Operator.TheVariants.{NotOr, And, Or}
use Rattle.fof_parse.specs.declared.token.Quantifier.TheVariants as quantifiers
use Rattle.fof_parse.specs.declared.token.Equality.TheVariants.{Equal, Unequal}
use Rattle.fof_parse.specs.declared.token.Bracket.TheVariants.{Round, Square, Curly}
use Rattle.fof_parse.specs.declared.token.Mark.{Mark}
use Rattle.fof_parse.specs.declared.token.Mark.TheVariants.{Open, Close, Comma, Stop, Colon, Not, Quantifier, Binary}
use Rattle.fof_parse.specs.declared.token.Mark.TheVariants.{Equality}

-- A token and its text; of a quoted text what it says, without its quotes and escapes. `other` is a mark that may stand
-- in annotations alone.
pub data Token : Type 0 where
  lower upper quoted distinct dollar number : List ℕ → Token
  marked : Mark → Token
  other : Token

abbrev pub connective_of : Connective → Mark
connective_of connectives.Equivalent = Binary Equivalent
connective_of connectives.NotEquivalent = Binary NotEquivalent
connective_of connectives.Implies = Binary Implies
connective_of connectives.ImpliedBy = Binary ImpliedBy
connective_of connectives.NotAnd = Binary NotAnd
connective_of connectives.NotOr = Binary NotOr
connective_of connectives.NotEqual = Equality Unequal

abbrev pub mark_of : ByteMark → Option Mark
mark_of marks.OpenParenthesis = Some (Open Round)
mark_of marks.CloseParenthesis = Some (Close Round)
mark_of marks.OpenBracket = Some (Open Square)
mark_of marks.CloseBracket = Some (Close Square)
mark_of marks.OpenBrace = Some (Open Curly)
mark_of marks.CloseBrace = Some (Close Curly)
mark_of marks.Comma = Some Comma
mark_of marks.Stop = Some Stop
mark_of marks.Colon = Some Colon
mark_of marks.Tilde = Some Not
mark_of marks.Exclamation = Some (Quantifier quantifiers.All)
mark_of marks.Question = Some (Quantifier quantifiers.Some)
mark_of marks.Ampersand = Some (Binary And)
mark_of marks.Bar = Some (Binary Or)
mark_of marks.Equals = Some (Equality Equal)
mark_of marks.Semicolon = None
mark_of marks.Less = None
mark_of marks.Greater = None
mark_of marks.At = None
mark_of marks.Caret = None
mark_of marks.Plus = None
mark_of marks.Minus = None
mark_of marks.Star = None
mark_of marks.Slash = None
mark_of marks.Backslash = None
mark_of marks.Hash = None

abbrev pub of_mark : Option Mark → Token
of_mark None = other
of_mark (Some m) = marked m

-- what stands between the quotes
abbrev pub between : List ℕ → List ℕ
between text = slice_range text 1 (length text - 1)

-- what escapes say: the byte behind each backslash stands for itself
abbrev pub unescaped_from : Bool → List ℕ → List ℕ
unescaped_from escape [] = []
unescaped_from true (c ∷ cs) = c ∷ unescaped_from false cs
unescaped_from false (c ∷ cs) = if eqb c 92 then unescaped_from true cs else c ∷ unescaped_from false cs

abbrev pub unescaped : List ℕ → List ℕ
unescaped cs = unescaped_from false cs

-- the token of a kind with its text
abbrev pub token_of : Kind → List ℕ → Token
token_of kinds.LowerWord text = lower text
token_of kinds.UpperWord text = upper text
token_of kinds.Quoted text = quoted (unescaped (between text))
token_of kinds.DistinctObject text = distinct text
token_of kinds.DollarWord text = dollar text
token_of kinds.Number text = number text
token_of (kinds.Connective c) text = marked (connective_of c)
token_of (kinds.Mark m) text = of_mark (mark_of m)

abbrev pub token_in : List ℕ → LexToken → Token
token_in bytes t = token_of t.kind (slice_range bytes t.start t.end)

-- a token, and the offset at which it stands
pub record Placed : Type 0 where
  pub offset : ℕ
  pub token : Token

abbrev pub placed : List ℕ → LexToken → Placed
placed bytes t = record { offset = t.start; token = token_in bytes t }

-- The statements of a text as parts of its tokens, and what is known of those before a place.
use Rattle.std.specs.Prelude.{◌≡◌, ℕ, suc, Bool, true, false, if◌then◌else◌, List, [], ◌∷◌, ◌++◌, length, map, Some}
use Rattle.std.specs.Option.{is_some}
use Rattle.fol_core.specs.Syntax.{PlainFormula}
use Rattle.fof_lex.specs.declared.token.Mark.TheVariants.{Stop}
use Rattle.fof_lex.specs.declared.token.Kind.{Kind}
use Rattle.fof_lex.specs.declared.token.Mark.{Mark}
use Rattle.fof_lex.specs.declared.token.Kind.TheVariants.{LowerWord, UpperWord, Quoted, DistinctObject, DollarWord}
use Rattle.fof_lex.specs.declared.token.Kind.TheVariants.{Number, Connective as of_connective, Mark as of_mark}
use Rattle.fof_lex.specs.declared.token.Token.{Token as LexToken}
use Rattle.fof_lex.specs.Tokens.{Lexes, LexesUpTo}
use Rattle.fof_lex.specs.Lexer.{Unread, place}
use Rattle.fof_parse.specs.Token.{Token, Placed, placed}
use Rattle.fof_parse.specs.Grammar.{Statement}
use Rattle.fof_parse.specs.Problem.{PlainProblem, Label, is_conjecture_role, IsProblemOf}
use Rattle.fof_parse.specs.Refusal.{IsGood}
use Rattle.fof_parse.specs.Reader.Adding.{Places, Adds, Leads}

abbrev pub is_stop_mark : Mark → Bool
is_stop_mark Stop = true
is_stop_mark _ = false

abbrev pub is_stop_kind : Kind → Bool
is_stop_kind (of_mark m) = is_stop_mark m
is_stop_kind (of_connective c) = false
is_stop_kind LowerWord = false
is_stop_kind UpperWord = false
is_stop_kind Quoted = false
is_stop_kind DistinctObject = false
is_stop_kind DollarWord = false
is_stop_kind Number = false

-- how many tokens the first statement has
abbrev pub statement_len : List LexToken → ℕ
statement_len [] = 0
statement_len (t ∷ ts) = if is_stop_kind t.kind then 1 else suc (statement_len ts)

-- a formula goes to its place, with its label
pub record Puts (old : PlainProblem) (l : Label) (a : PlainFormula) (new : PlainProblem) : Type 0 where
  pub symbols : new.symbols ≡ old.symbols
  pub labels : new.labels ≡ old.labels ++ l ∷ []
  pub placed : Places (is_conjecture_role (Some l.role)) a old new

-- whether a conjecture is there
abbrev pub has_conjecture : PlainProblem → Bool
has_conjecture problem = is_some problem.conjecture

-- The tokens are a statement without a fault, which is put into the problem.
pub record Takes (old : PlainProblem) (ts : List Token) (new : PlainProblem) : Type 0 where
  pub statement : Statement
  pub good : IsGood (has_conjecture old) ts statement
  pub adds : Adds old statement new

-- what is read of a text up to a place
pub record ReadSoFar (ts rest : List Placed) (problem : PlainProblem) : Type 0 where
  pub done : List Statement
  pub leads : Leads false ts done (has_conjecture problem) rest
  pub meaning : IsProblemOf done problem

-- The tokens are the next statement of what is left: whatever tokens follow them, they are those up to its full stop,
-- or up to the end. None come only at the end.
pub record IsNext (before : Unread) (tokens : List LexToken) (behind : Unread) : Type 0 where
  pub reads : LexesUpTo (place before) before.rest tokens (place behind) behind.rest
  pub first : (more : List LexToken) → Lexes (place behind) behind.rest more
      → statement_len (tokens ++ more) ≡ length tokens
  pub at_end : tokens ≡ [] → Lexes (place behind) behind.rest []

-- A text is read up to a place, and its statements up to there are this problem, whatever tokens follow.
pub record ReadUpTo (bytes : List ℕ) (unread : Unread) (problem : PlainProblem) : Type 0 where
  pub text : unread.text ≡ bytes
  pub done : List LexToken
  pub reads : LexesUpTo 0 bytes done (place unread) unread.rest
  pub so_far : (more : List LexToken) → Lexes (place unread) unread.rest more
      → ReadSoFar (map (placed bytes) (done ++ more)) (map (placed bytes) more) problem

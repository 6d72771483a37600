-- The problem of a text, and refused texts.
use Rattle.std.specs.Prelude.{◌≡◌, ◌≤◌, ℕ, false, List, length, map}
use Rattle.fof_lex.specs.Tokens.{Lexes, LexFails}
use Rattle.fof_lex.specs.declared.token.Token.{Token as LexToken}
use Rattle.fof_parse.specs.declared.read.TheConstants.{MAX_BYTES}
use Rattle.fof_parse.specs.declared.refusal.BadKind.{BadKind}
use Rattle.fof_parse.specs.Token.{placed}
use Rattle.fof_parse.specs.Grammar.{Statement}
use Rattle.fof_parse.specs.Problem.{PlainProblem, IsProblemOf}
use Rattle.fof_parse.specs.Refusal.{AreGood, FirstBad}

abbrev pub most_bytes : ℕ
most_bytes = MAX_BYTES

-- The text is this problem.
pub record IsProblemText (bytes : List ℕ) (problem : PlainProblem) : Type 0 where
  pub within : length bytes ≤ most_bytes
  pub tokens : List LexToken
  pub lexed : Lexes 0 bytes tokens
  pub statements : List Statement
  pub good : AreGood false (map (placed bytes) tokens) statements
  pub meaning : IsProblemOf statements problem

-- The text is this problem, and no other one.
pub record IsTheProblem (bytes : List ℕ) (problem : PlainProblem) : Type 0 where
  pub is_text : IsProblemText bytes problem
  pub only : (other : PlainProblem) → IsProblemText bytes other → other ≡ problem

-- The text is a problem, and one only.
abbrev pub HasProblem : List ℕ → Type 0
HasProblem bytes = (problem : PlainProblem) × IsTheProblem bytes problem

-- The text is statements, none of which has a fault.
pub record IsGoodText (bytes : List ℕ) : Type 0 where
  pub within : length bytes ≤ most_bytes
  pub tokens : List LexToken
  pub lexed : Lexes 0 bytes tokens
  pub statements : List Statement
  pub good : AreGood false (map (placed bytes) tokens) statements

-- The text is no problem's.
abbrev pub IsNoProblem : List ℕ → Type 0
IsNoProblem bytes = (problem : PlainProblem) → IsProblemText bytes problem → ⊥

pub record IsBadText (bytes : List ℕ) (at : ℕ) (k : BadKind) : Type 0 where
  pub within : length bytes ≤ most_bytes
  pub tokens : List LexToken
  pub lexed : Lexes 0 bytes tokens
  pub bad : FirstBad false (map (placed bytes) tokens) at k

pub record IsNoText (bytes : List ℕ) (at : ℕ) : Type 0 where
  pub within : length bytes ≤ most_bytes
  pub fails : LexFails 0 bytes at

-- What a reader of tokens has read of a text, and what is left.
use Rattle.std.specs.Prelude.{◌≡◌, ◌≢◌, ℕ, ◌-◌, List, ◌++◌, length}
use Rattle.fof_lex.specs.Refusal.{IsRefusalAt}
use Rattle.fof_lex.specs.declared.text.LexError.{LexError}
use Rattle.fof_lex.specs.declared.text.LexError.TheVariants.{OutOfMemory}

-- a text, and what is not read of it yet
pub record Unread : Type 0 where
  pub text : List ℕ
  pub rest : List ℕ

-- The bytes stand at the end of the text.
abbrev pub IsEnd : List ℕ → List ℕ → Type 0
IsEnd rest text = (front : List ℕ) × (text ≡ front ++ rest)

-- the offset up to which the text is read
abbrev pub place : Unread → ℕ
place u = length u.text - length u.rest

-- What is left is refused so. Memory is never wanting.
abbrev pub IsRefusalFrom : Unread → LexError → Type 0
IsRefusalFrom u e = (e ≢ OutOfMemory) × IsRefusalAt (place u) u.rest e

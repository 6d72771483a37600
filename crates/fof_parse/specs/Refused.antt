-- Refused texts.
use Rattle.std.specs.Prelude.{◌≢◌, ℕ, ◌<◌, List, length}
use Rattle.fof_lex.specs.declared.text.LexError.{LexError}
use Rattle.fof_lex.specs.declared.text.LexError.TheVariants as lex_errors
use Rattle.fof_parse.specs.declared.read.ReadError.{ReadError}
use Rattle.fof_parse.specs.declared.read.ReadError.TheVariants.{TooLarge, Lex, Bad, OutOfMemory}
use Rattle.fof_parse.specs.TheProblem.{most_bytes, IsBadText, IsNoText}

-- The text is refused so. Of want of memory nothing is said.
abbrev pub Refuses : List ℕ → ReadError → Type 0
Refuses bytes TooLarge = most_bytes < length bytes
Refuses bytes (Lex offset) = IsNoText bytes offset
Refuses bytes (Bad offset kind) = IsBadText bytes offset kind
Refuses bytes OutOfMemory = Unit {0}

-- The text is refused, and not for want of memory.
abbrev pub HasRefusal : List ℕ → Type 0
HasRefusal bytes = (e : ReadError) × (e ≢ OutOfMemory) × Refuses bytes e

-- the refusal of a text without tokens
abbrev pub refusal_of : LexError → ReadError
refusal_of (lex_errors.Bad offset) = Lex offset
refusal_of lex_errors.OutOfMemory = OutOfMemory

-- Refused texts.
use Rattle.std.specs.Prelude.{ℕ, List}
use Rattle.fof_lex.specs.Tokens.{LexFails}
use Rattle.fof_lex.specs.declared.text.LexError.{LexError}
use Rattle.fof_lex.specs.declared.text.LexError.TheVariants.{Bad, OutOfMemory}

-- The bytes, which begin at that offset of a text, are refused so. Of want of memory nothing is said.
abbrev pub IsRefusalAt : ℕ → List ℕ → LexError → Type 0
IsRefusalAt at bytes (Bad offset) = LexFails at bytes offset
IsRefusalAt at bytes OutOfMemory = Unit {0}

abbrev pub IsRefusal : List ℕ → LexError → Type 0
IsRefusal bytes e = IsRefusalAt 0 bytes e

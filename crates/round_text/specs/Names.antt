-- Names of symbols that stand in a line each.
use Rattle.std.specs.Prelude.{ℕ, List}
use Rattle.fol_core.specs.Symbol.{Symbol}
use Rattle.fol_core.specs.Spelling.{name_in}
use Rattle.gs3_text.specs.ProofText.{IsLine}

-- no name holds a line feed
abbrev pub AreInLines : List Symbol → Type 0
AreInLines functions = (f : ℕ) → IsLine (name_in functions f)

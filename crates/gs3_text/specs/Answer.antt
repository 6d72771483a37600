-- What the program's reading stands for.
use Rattle.std.specs.Prelude.{ℕ, List}
use Rattle.fol_core.specs.Symbol.{Symbol}
use Rattle.gs3_rules.specs.Apply.{rules_of}
use Rattle.gs3_rules.specs.Refutes.{ProofTree}
use Rattle.gs3_text.specs.declared.scan.Scan as code
use Rattle.gs3_text.specs.declared.reading.TextError.{TextError}
use Rattle.gs3_text.specs.declared.reading.TextError.TheVariants.{Malformed, OutOfMemory}
use Rattle.gs3_text.specs.ProofText.{ProofText, IsMalformedAt}
use Rattle.gs3_text.specs.Scanning.{Scan}

abbrev pub scan_of : code.Scan → Scan
scan_of s = record { owed = s.owed; rules = rules_of s.steps; numbers = s.lines }

-- Malformed names the first line that cannot go on, and the bytes are no text of any tree.
abbrev pub IsRefused : List Symbol → List ℕ → TextError → Type 0
IsRefused functions bytes (Malformed line) =
    IsMalformedAt functions bytes line × ((tree : ProofTree) → ProofText functions bytes tree → ⊥)
IsRefused functions bytes OutOfMemory = Unit {0}

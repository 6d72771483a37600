-- Reading a proof's text line by line.
use Rattle.std.specs.Prelude.{ℕ, zero, suc, ◌+◌, List, [], ◌∷◌, ◌++◌, Option, Some, None, if◌then◌else◌}
use Rattle.std.specs.Str.{bytes_eq}
use Rattle.fol_core.specs.Symbol.{Symbol}
use Rattle.gs3_rules.specs.Rules.{Rule}
use Rattle.gs3_rules.specs.Refutes.{premises_of}
use Rattle.gs3_text.specs.ProofText.{says, heading}
use Rattle.gs3_text.specs.Reading.{step_of, ◌>>=◌}

-- What the lines so far say: how many premises still need a proof, once the heading is there; the steps; and
-- the numbers of their lines.
pub record Scan : Type 0 where
  pub owed : Option ℕ
  pub rules : List Rule
  pub numbers : List ℕ

abbrev pub start : Scan
start = record { owed = None; rules = []; numbers = [] }

abbrev pub with_step : ℕ → ℕ → Scan → Rule → Scan
with_step number others s rule =
    record { owed = Some (others + premises_of rule); rules = s.rules ++ rule ∷ []; numbers = s.numbers ++ number ∷ [] }

-- a step's line, where that many other premises need a proof
abbrev pub step_scan : List Symbol → ℕ → List ℕ → ℕ → Scan → Option Scan
step_scan functions number line others s = step_of functions line >>= λ rule. Some (with_step number others s rule)

-- a line that says something, where that many premises need a proof
unfoldable pub said_by : List Symbol → ℕ → List ℕ → Option ℕ → Scan → Option Scan
said_by functions number line None s =
    if bytes_eq line heading then Some (record { owed = Some 1; rules = s.rules; numbers = s.numbers }) else None
said_by functions number line (Some zero) s = None
said_by functions number line (Some (suc others)) s = step_scan functions number line others s

-- the line with this number
unfoldable pub next_scan : List Symbol → ℕ → List ℕ → Scan → Option Scan
next_scan functions number line s = if says line then said_by functions number line s.owed s else Some s

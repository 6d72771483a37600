-- What a check of a proof answers, what it prints, and why.
use Rattle.std.specs.Prelude.{◌≡◌, ◌≢◌, ◌⊎◌, ℕ, ◌<◌, ◌≤◌, List, [], ◌∷◌, ◌++◌, length, slice_get}
use Rattle.std.specs.Prelude.{codes, decimal, Option, Some, IfSome}
use Rattle.gl_outside.specs.Outside.{HasRisen, Puts}
use Rattle.fof_parse.specs.Problem.{PlainProblem, Start}
use Rattle.fof_parse.specs.TheProblem.{most_bytes, IsTheProblem, IsNoProblem}
use Rattle.fof_parse.specs.Lines.{IsRefusal}
use Rattle.fol_core.specs.Symbol.{Symbol}
use Rattle.gs3_rules.specs.Rules.{Rule}
use Rattle.gs3_rules.specs.Refutes.{ProofTree, Refutes, FailsAt}
use Rattle.gs3_text.specs.declared.limit.TheConstants.{MAX_PROOF_BYTES}
use Rattle.gs3_text.specs.ProofText.{text_of, ProofText, IsReading, IsMalformedAt, step_lines}
use Rattle.gs3_run.specs.declared.run.Report.{Report}
use Rattle.gs3_run.specs.declared.run.Report.TheVariants.{Usage, TooLarge, Refused, TooLargeProof, ReadFault}
use Rattle.gs3_run.specs.declared.run.Report.TheVariants.{Valid, Invalid}
use Rattle.gs3_run.specs.declared.run.CheckStatus.{CheckStatus}
use Rattle.gs3_run.specs.declared.run.CheckStatus.TheVariants as status

-- the name of the standard input
abbrev pub standard_input : List ℕ
standard_input = codes "-"

-- The words are the name of a problem and the name of a proof: neither is empty, and not both are the standard input.
pub record AreNames (words : List (List ℕ)) (problem proof : List ℕ) : Type 0 where
  pub two : words ≡ problem ∷ proof ∷ []
  pub of_problem : problem ≢ []
  pub of_proof : proof ≢ []
  pub not_both : problem ≡ standard_input → proof ≢ standard_input

abbrev pub AreNoNames : List (List ℕ) → Type 0
AreNoNames words = (problem proof : List ℕ) → AreNames words problem proof → ⊥

abbrev pub HaveNames : List (List ℕ) → Type 0
HaveNames words = (problem proof : List ℕ) × AreNames words problem proof

-- what is printed of a proof that goes wrong or cannot go on at this line
abbrev pub malformed_line : ℕ → List ℕ
malformed_line line = codes "% gs3check Malformed " ++ decimal line

abbrev pub wrong_line : ℕ → List ℕ
wrong_line line = codes "% gs3check Wrong " ++ decimal line

-- all that is printed
abbrev pub output_of : Report → List ℕ
output_of Usage = text_of (codes "% usage: gs3check PROBLEM PROOF" ∷ [])
output_of TooLarge = text_of (codes "% refused TooLarge" ∷ [])
output_of (Refused text) = text.items
output_of TooLargeProof = text_of (codes "% refused TooLarge proof" ∷ [])
output_of ReadFault = text_of (codes "% read fault" ∷ [])
output_of Valid = text_of (codes "% gs3check Valid" ∷ [])
output_of (Invalid text) = text.items

abbrev pub status_of : Report → CheckStatus
status_of Usage = status.Usage
status_of TooLarge = status.Refused
status_of (Refused text) = status.Refused
status_of TooLargeProof = status.Refused
status_of ReadFault = status.ReadFault
status_of Valid = status.Valid
status_of (Invalid text) = status.Invalid

-- the number that the process ends with
abbrev pub exit_of : CheckStatus → ℕ
exit_of status.Valid = 0
exit_of status.Invalid = 1
exit_of status.Usage = 2
exit_of status.Refused = 3
exit_of status.ReadFault = 4
exit_of status.WriteFault = 5
exit_of status.OutOfMemory = 6

-- The bytes are a proof text of a tree that refutes the problem's start list.
pub record IsValid (problem : PlainProblem) (bytes : List ℕ) : Type 0 where
  pub tree : ProofTree
  pub text : ProofText problem.symbols.functions bytes tree
  pub refutes : Refutes (Start problem) tree

-- The bytes are a proof text, but of no tree that refutes the start list, and the first step in preorder whose
-- condition fails stands in this line, the lines counted from 1.
pub record IsWrongAt (problem : PlainProblem) (bytes : List ℕ) (line : ℕ) : Type 0 where
  pub tree : ProofTree
  pub text : ProofText problem.symbols.functions bytes tree
  pub step : ℕ
  pub fails : FailsAt (Start problem) tree step
  pub stands : slice_get (step_lines text.lines) step ≡ Some line
  pub not_valid : IsValid problem bytes → ⊥

-- The bytes are a proof text of no tree, and this is the first line that cannot go on.
pub record IsNoTextAt (problem : PlainProblem) (bytes : List ℕ) (line : ℕ) : Type 0 where
  pub malformed : IsMalformedAt problem.symbols.functions bytes line
  pub no_text : (tree : ProofTree) → ProofText problem.symbols.functions bytes tree → ⊥

-- some bytes are a text of these steps, with each step in the line with its number
abbrev pub WasRead : List Rule → List ℕ → Type 0
WasRead rules numbers = (functions : List Symbol) × (bytes : List ℕ) × IsReading functions bytes rules numbers

-- what is reported of bytes that are no problem's text
abbrev pub RefusesText : List ℕ → Report → Type 0
RefusesText bytes Usage = ⊥
RefusesText bytes TooLarge = most_bytes < length bytes
RefusesText bytes (Refused text) = IsNoProblem bytes × IsRefusal bytes text.items
RefusesText bytes TooLargeProof = ⊥
RefusesText bytes ReadFault = ⊥
RefusesText bytes Valid = ⊥
RefusesText bytes (Invalid text) = ⊥

-- the bytes are no proof of the problem, and this text says why
abbrev pub IsInvalid : PlainProblem → List ℕ → List ℕ → Type 0
IsInvalid problem bytes text =
    ((line : ℕ) × IsNoTextAt problem bytes line × (text ≡ text_of (malformed_line line ∷ [])))
    ⊎ ((line : ℕ) × IsWrongAt problem bytes line × (text ≡ text_of (wrong_line line ∷ [])))

-- what is reported of a problem and of bytes that are to be a proof
abbrev pub Judges : PlainProblem → List ℕ → Report → Type 0
Judges problem bytes Usage = ⊥
Judges problem bytes TooLarge = ⊥
Judges problem bytes (Refused text) = ⊥
Judges problem bytes TooLargeProof = ⊥
Judges problem bytes ReadFault = ⊥
Judges problem bytes Valid = IsValid problem bytes
Judges problem bytes (Invalid text) = IsInvalid problem bytes text.items

-- these are the bytes, where they are told
abbrev pub Tells : Option (List ℕ) → List ℕ → Type 0
Tells told bytes = IfSome told (λ b. bytes ≡ b)

-- the problem that was read
pub record ReadsProblem (told : Option (List ℕ)) (problem : PlainProblem) : Type 0 where
  pub bytes : List ℕ
  pub are : Tells told bytes
  pub within : length bytes ≤ most_bytes
  pub is_the : IsTheProblem bytes problem

-- the bytes of a proof that was read, and what is reported of them
pub record ReadsProof (problem : PlainProblem) (told : Option (List ℕ)) (r : Report) : Type 0 where
  pub bytes : List ℕ
  pub are : Tells told bytes
  pub within : length bytes ≤ MAX_PROOF_BYTES
  pub judged : Judges problem bytes r

-- the bytes of a problem that is refused, and what is printed of them
pub record ReadsNoProblem (told : Option (List ℕ)) (text : List ℕ) : Type 0 where
  pub bytes : List ℕ
  pub are : Tells told bytes
  pub within : length bytes ≤ most_bytes
  pub none : IsNoProblem bytes
  pub refusal : IsRefusal bytes text

-- What is reported of a problem that was read, of the bytes of the proof, where they are told, and of the shelf's
-- faults before and after.
abbrev pub FitsProof : PlainProblem → Option (List ℕ) → ℕ → ℕ → Report → Type 0
FitsProof problem told before after Usage = ⊥
FitsProof problem told before after TooLarge = ⊥
FitsProof problem told before after (Refused text) = ⊥
FitsProof problem told before after TooLargeProof = (after ≡ before) × IfSome told (λ b. MAX_PROOF_BYTES < length b)
FitsProof problem told before after ReadFault = HasRisen before after
FitsProof problem told before after Valid = (after ≡ before) × ReadsProof problem told Valid
FitsProof problem told before after (Invalid text) = (after ≡ before) × ReadsProof problem told (Invalid text)

-- What is reported of the bytes of the problem and of the proof.
abbrev pub FitsBoth : Option (List ℕ) → Option (List ℕ) → ℕ → ℕ → Report → Type 0
FitsBoth told proof before after Usage = ⊥
FitsBoth told proof before after TooLarge = (after ≡ before) × IfSome told (λ b. most_bytes < length b)
FitsBoth told proof before after (Refused text) = (after ≡ before) × ReadsNoProblem told text.items
FitsBoth told proof before after ReadFault = HasRisen before after
FitsBoth told proof before after TooLargeProof =
    (problem : PlainProblem) × ReadsProblem told problem × FitsProof problem proof before after TooLargeProof
FitsBoth told proof before after Valid =
    (problem : PlainProblem) × ReadsProblem told problem × FitsProof problem proof before after Valid
FitsBoth told proof before after (Invalid text) =
    (problem : PlainProblem) × ReadsProblem told problem × FitsProof problem proof before after (Invalid text)

abbrev pub IsUsage : Report → Type 0
IsUsage Usage = Unit {0}
IsUsage TooLarge = ⊥
IsUsage (Refused text) = ⊥
IsUsage TooLargeProof = ⊥
IsUsage ReadFault = ⊥
IsUsage Valid = ⊥
IsUsage (Invalid text) = ⊥

-- What is reported of the words, of what the shelf holds, and of its faults before and after.
abbrev pub Fits : List (List ℕ) → (List ℕ → Option (List ℕ)) → ℕ → ℕ → Report → Type 0
Fits words holds before after r =
    (IsUsage r × AreNoNames words × (after ≡ before))
    ⊎ ((problem proof : List ℕ) × AreNames words problem proof × FitsBoth (holds problem) (holds proof) before after r)

-- The report is printed whole, or the sink failed after some front of it.
abbrev pub Prints : Report → Option (List ℕ) → Option (List ℕ) → ℕ → ℕ → CheckStatus → Type 0
Prints r old new before after = Puts old (output_of r) new before after (status_of r) status.WriteFault

-- A check with these words: its report is as it has to be, and is printed. Want of memory comes only with the names of
-- a problem and a proof; then nothing was written, and no fault came.
abbrev pub Ran : List (List ℕ) → (List ℕ → Option (List ℕ)) → ℕ → ℕ
    → Option (List ℕ) → Option (List ℕ) → ℕ → ℕ → CheckStatus → Type 0
Ran words holds before after old new faults faults' s =
    ((s ≡ status.OutOfMemory) × HaveNames words × (after ≡ before) × (new ≡ old) × (faults' ≡ faults))
    ⊎ ((r : Report) × Fits words holds before after r × Prints r old new faults faults' s)

-- What the translation of a closed tree answers.
use Rattle.std.specs.Prelude.{◌≡◌, ℕ, ◌<◌, ◌≤◌, ⊤, List, Result, Ok, Err, IfOk, OnOk}
use Rattle.std.specs.List.{AllByRecursion}
use Rattle.fof_parse.specs.Problem.{PlainProblem, Start}
use Rattle.fol_core.specs.Symbol.{Symbol}
use Rattle.gs3_rules.specs.Apply.{rules_of}
use Rattle.gs3_rules.specs.Rules.{Rule}
use Rattle.gs3_rules.specs.Refutes.{preorder, RefutedBy}
use Rattle.gs3_rules.specs.declared.step.Step.{Step}
use Rattle.gs3_text.specs.ProofText.{IsSpellableTerm}
use Rattle.translation.specs.Measures.{MeasuredProof, nesting_of, text_length}
use Rattle.deskolem.specs.declared.answer.GsError.{GsError}
use Rattle.deskolem.specs.declared.answer.GsError.TheVariants.{Bytes, Nesting, OutOfMemory}

abbrev pub most_nesting : ℕ
most_nesting = 4096

-- The steps of the translation, where its text has at most that many bytes and its terms nest at most 4,096 deep. Else
-- the answer says that it is too long, or, of one that is not, that it nests too deep. It may be want of memory
-- instead.
pub record Answers (problem : PlainProblem) (limit : ℕ) (found : MeasuredProof)
    (result : Result (List Step) GsError) : Type 0 where
  pub steps : IfOk result (λ steps. rules_of steps ≡ preorder found.tree)
  pub fits : OnOk result ((found.bytes ≤ limit) × (found.nesting ≤ most_nesting))
  pub bytes : result ≡ Err Bytes → limit < found.bytes
  pub nesting : result ≡ Err Nesting → (found.bytes ≤ limit) × (most_nesting < found.nesting)
  -- the steps refute the start list, and have a text
  pub refutes : IfOk result (λ steps. RefutedBy (Start problem) (rules_of steps))
  pub spells : IfOk result (λ steps. AllByRecursion (IsSpellableTerm problem.symbols.functions) (rules_of steps))

-- Why steps of so many bytes that nest so deep are refused.
abbrev pub IsRefused : ℕ → ℕ → ℕ → GsError → Type 0
IsRefused bytes deep limit Bytes = limit < bytes
IsRefused bytes deep limit Nesting = (bytes ≤ limit) × (most_nesting < deep)
IsRefused bytes deep limit OutOfMemory = Unit {0}

-- the steps' text and their terms are within the limits, or they are refused
abbrev pub AreChecked : List Symbol → List Rule → ℕ → Result ⊤ GsError → Type 0
AreChecked fs rules limit (Ok _) = (text_length fs rules ≤ limit) × (nesting_of rules ≤ most_nesting)
AreChecked fs rules limit (Err e) = IsRefused (text_length fs rules) (nesting_of rules) limit e

-- these steps, within the limits, or why they are refused
abbrev pub AreBuilt : List Symbol → List Rule → ℕ → Result (List Step) GsError → Type 0
AreBuilt fs rules limit (Ok steps) = (rules_of steps ≡ rules) × (text_length fs rules ≤ limit)
    × (nesting_of rules ≤ most_nesting)
AreBuilt fs rules limit (Err e) = IsRefused (text_length fs rules) (nesting_of rules) limit e

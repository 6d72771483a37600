-- A shelf with a problem and a proof of it.
use Rattle.std.specs.Prelude.{◌≡◌, ◌⊎◌, ℕ, ◌≤◌, List, Option, Some, length}
use Rattle.gl_outside.specs.Outside.{HasRisen}
use Rattle.fof_parse.specs.Problem.{PlainProblem}
use Rattle.fof_parse.specs.TheProblem.{IsProblemText}
use Rattle.gs3_run.specs.Run.{AreNames, IsValid}
use Rattle.gs3_text.specs.declared.limit.TheConstants.{MAX_PROOF_BYTES}
use Rattle.gs3_run.specs.declared.run.CheckStatus.{CheckStatus}
use Rattle.gs3_run.specs.declared.run.CheckStatus.TheVariants as status

-- The words name two things that the shelf tells: the text of a problem, and a proof text of a tree that refutes its
-- start list.
pub record HoldsProof (words : List (List ℕ)) (holds : List ℕ → Option (List ℕ)) : Type 0 where
  pub problem_name : List ℕ
  pub proof_name : List ℕ
  pub named : AreNames words problem_name proof_name
  pub problem_bytes : List ℕ
  pub problem_told : holds problem_name ≡ Some problem_bytes
  pub problem : PlainProblem
  pub is_text : IsProblemText problem_bytes problem
  pub proof_bytes : List ℕ
  pub proof_told : holds proof_name ≡ Some proof_bytes
  pub within : length proof_bytes ≤ MAX_PROOF_BYTES
  pub is_valid : IsValid problem proof_bytes

-- The check ends as one of a proof: Valid, or memory was wanting, or the shelf or the sink failed.
abbrev pub EndsValid : ℕ → ℕ → ℕ → ℕ → CheckStatus → Type 0
EndsValid before after faults faults' s =
    (s ≡ status.Valid)
    ⊎ (s ≡ status.OutOfMemory)
    ⊎ ((s ≡ status.ReadFault) × HasRisen before after)
    ⊎ ((s ≡ status.WriteFault) × HasRisen faults faults')

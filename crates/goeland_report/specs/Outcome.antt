-- What a run has to tell.
use Rattle.std.specs.Prelude.{ℕ, Bool, List, Option}
use Rattle.fof_parse.specs.declared.refusal.BadKind.{BadKind}
use Rattle.history_text.specs.Lines.{NodeHistory}
use Rattle.tab_tree.specs.declared.words.Engine.{Engine}
use Rattle.goeland_report.specs.declared.cause.Cause.{Cause}
use Rattle.goeland_report.specs.declared.cause.BenchResult.{BenchResult}

-- Whether the problem has a conjecture, the depth of the tableau that closes, what settled the round, its histories
-- where they are asked for, and the text of the proof.
pub record Proof (O : Type 0) : Type 0 where
  pub theorem : Bool
  pub depth : ℕ
  pub engine : Engine
  pub history : Option (List (NodeHistory O))
  pub text : List ℕ

-- Why there is no proof, what settled or ended the last round, and its histories where they are asked for.
pub record GiveUp (O : Type 0) : Type 0 where
  pub cause : Cause
  pub engine : Engine
  pub history : Option (List (NodeHistory O))

-- The outcome of a run whose offers are of this type.
pub data Outcome (O : Type 0) : Type 0 where
  usage too_large read_fault : Outcome O
  -- a text that has no tokens, or is no problem, from the offset on
  no_tokens : ℕ → Outcome O
  no_problem : BadKind → ℕ → Outcome O
  give_up : GiveUp O → Outcome O
  proof : Proof O → Outcome O
  -- the number of the bench's problem
  bench : ℕ → BenchResult → Outcome O

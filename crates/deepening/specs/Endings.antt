-- How a search ends, and why: one record for each end.
use Rattle.std.specs.Prelude.{◌≡◌, ◌≢◌, ◌≤◌, ◌<◌, ℕ, List, Some, None}
use Rattle.std.specs.List.{AllByRecursion}
use Rattle.fof_parse.specs.Problem.{PlainProblem, Start}
use Rattle.gs3_rules.specs.Apply.{rules_of}
use Rattle.gs3_rules.specs.Refutes.{Refutes, preorder}
use Rattle.gs3_rules.specs.declared.step.Step.{Step}
use Rattle.gs3_text.specs.ProofText.{IsSpellableTerm}
use Rattle.rewrite_rules.specs.Rules.{RewriteRule}
use Rattle.round_offers.specs.RoundOffer.{RoundOffer}
use Rattle.tab_tree.specs.declared.words.Engine.TheVariants.{Plain, Agents}
use Rattle.tab_tree.specs.declared.words.OpenAnswer.{OpenAnswer}
use Rattle.open_walk.specs.Walk.{IsOpenAnswer}
use Rattle.nego_node.specs.declared.tasks.Task.{Task}
use Rattle.nego_plain.specs.declared.settling.Verdict.TheVariants.{Open, Spent as Limited}
use Rattle.translation.specs.Measures.{MeasuredProof}
use Rattle.deskolem.specs.Answer.{most_nesting}
use Rattle.deepening.specs.Depths.{LeastUpTo, NoneBefore}
use Rattle.deepening.specs.Kept.{attempts_in}
use Rattle.deepening.specs.Rounds.{IsLastRound, IsClosed}
use Rattle.deepening.specs.declared.order.Way.{Way}
use Rattle.deepening.specs.declared.kept.Kept.{Kept}
use Rattle.deepening.specs.declared.limits.Limits.{Limits}
use Rattle.deepening.specs.declared.endings.Ending.{Ending}
use Rattle.deepening.specs.declared.endings.Ending.TheVariants.{Found, Exhausted, Spent, Long, Deep}

module _ (problem : PlainProblem) (rules : List RewriteRule) (limits : Limits) (way : Way) (kept : Kept) where
  -- The least depth whose tableau some offer closes was found. The translation of its closed tree is within the limits,
  -- and refutes the start list.
  pub record IsFound (found : MeasuredProof) : Type 0 where
    pub least : LeastUpTo problem rules limits.depth (Some kept.depth)
    pub closed : IsClosed problem rules limits way kept kept.depth found
    pub short : found.bytes ≤ limits.proof_bytes
    pub flat : found.nesting ≤ most_nesting
    pub refutes : Refutes (Start problem) found.tree

  -- these are the steps of a proof that was found, and have a text
  pub record HasFound (steps : List Step) : Type 0 where
    pub found : MeasuredProof
    pub is_found : IsFound found
    pub are_steps : rules_of steps ≡ preorder found.tree
    pub spells : AllByRecursion (IsSpellableTerm problem.symbols.functions) (preorder found.tree)

  -- No offer closes a tableau up to the limit. The last round was that of the limit, and its tableau is walked.
  pub record IsExhausted (answer : OpenAnswer) : Type 0 where
    pub none : LeastUpTo problem rules limits.depth None
    pub task : Task RoundOffer
    pub last : IsLastRound problem rules limits way kept limits.depth (Open task)
    pub walked : IsOpenAnswer last.round answer

  -- The round of that depth made as many attempts as are allowed, and the next pick is another one. No offer closes a
  -- tableau before it.
  pub record IsSpent (made : ℕ) : Type 0 where
    pub allowed : limits.tries ≡ Some made
    pub first : 1 ≤ kept.depth
    pub within : kept.depth ≤ limits.depth
    pub none_before : NoneBefore problem rules kept.depth
    pub last : IsLastRound problem rules limits way kept kept.depth Limited
    pub engine : kept.engine ≡ Some Plain
    pub attempts : attempts_in kept.nodes ≡ made

  -- The translation at the least depth is longer than allowed. Its offer is none of the agents.
  pub record IsLong : Type 0 where
    pub found : MeasuredProof
    pub least : LeastUpTo problem rules limits.depth (Some kept.depth)
    pub closed : IsClosed problem rules limits way kept kept.depth found
    pub long : limits.proof_bytes < found.bytes
    pub engine : kept.engine ≢ Some Agents

  -- It is not, and a term in it nests deeper than allowed.
  pub record IsDeep : Type 0 where
    pub found : MeasuredProof
    pub least : LeastUpTo problem rules limits.depth (Some kept.depth)
    pub closed : IsClosed problem rules limits way kept kept.depth found
    pub short : found.bytes ≤ limits.proof_bytes
    pub deep : most_nesting < found.nesting
    pub engine : kept.engine ≢ Some Agents

  -- the search ended so
  abbrev pub EndsSo : Ending → Type 0
  EndsSo (Found steps) = HasFound steps
  EndsSo (Exhausted answer) = IsExhausted answer
  EndsSo (Spent made) = IsSpent made
  EndsSo Long = IsLong
  EndsSo Deep = IsDeep

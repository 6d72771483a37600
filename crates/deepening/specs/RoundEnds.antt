-- What the verdict on a round says of its depth, and how it ends a search.
use Rattle.std.specs.Prelude.{◌≡◌, ◌≢◌, ◌≤◌, ◌<◌, ◌-◌, ◌^◌, ℕ, Option, Some, None, IfSome}
use Rattle.std.specs.Option.{unwrap_or}
use Rattle.std.specs.List.{AllByRecursion}
use Rattle.fof_parse.specs.Problem.{PlainProblem, Start}
use Rattle.fof_parse.specs.ProblemView.{plain_problem}
use Rattle.gs3_rules.specs.Apply.{rules_of}
use Rattle.gs3_rules.specs.Refutes.{Refutes, preorder}
use Rattle.gs3_text.specs.ProofText.{IsSpellableTerm}
use Rattle.unify.specs.Offers.{Offer}
use Rattle.unify.specs.View.{offer_of}
use Rattle.rewrite_rules.specs.RuleView.{rules_in}
use Rattle.tab_tree.specs.RoundValue.{RoundValue}
use Rattle.tab_tree.specs.declared.words.OpenAnswer.{OpenAnswer}
use Rattle.tab_tree.specs.declared.words.Engine.{Engine}
use Rattle.tab_tree.specs.declared.words.Engine.TheVariants.{Agents}
use Rattle.round_offers.specs.RoundOffer.{RoundOffer}
use Rattle.round_offers.specs.RoundTableau.{ClosesRound}
use Rattle.nego_node.specs.Proposed.{Proposed}
use Rattle.nego_node.specs.declared.tasks.Task.{Task}
use Rattle.nego_plain.specs.declared.settling.Verdict.{Verdict}
use Rattle.nego_plain.specs.declared.settling.Verdict.TheVariants as verdict
use Rattle.open_walk.specs.Walk.{IsOpenAnswer}
use Rattle.pool_run.specs.declared.outcome.PoolEnd.{PoolEnd}
use Rattle.pool_run.specs.declared.outcome.PoolEnd.TheVariants as pool
use Rattle.translation.specs.Measures.{MeasuredProof}
use Rattle.deskolem.specs.Answer.{most_nesting}
use Rattle.deepening.specs.Depths.{NoneBefore}
use Rattle.deepening.specs.Rounds.{IsSettledSo, IsTranslationOf, ServesNot}
use Rattle.deepening.specs.declared.agents.Worth.{Worth}
use Rattle.deepening.specs.declared.agents.Worth.TheVariants as worth
use Rattle.deepening.specs.declared.searching.Searched.{Searched}
use Rattle.deepening.specs.declared.settled.SettledRound.{SettledRound}
use Rattle.deepening.specs.declared.order.Way.{Way}
use Rattle.deepening.specs.declared.kept.Kept.{Kept}
use Rattle.deepening.specs.declared.limits.Limits.{Limits}
use Rattle.deepening.specs.declared.endings.Ending.{Ending}
use Rattle.deepening.specs.declared.endings.Ending.TheVariants.{Found, Exhausted, Spent, Long, Deep}
use Rattle.gs3_text.specs.declared.limit.TheConstants.{MAX_PROOF_BYTES}

-- limits that the words of a command can set
pub record AreLimits (limits : Limits) : Type 0 where
  pub depth : 1 ≤ limits.depth
  pub tries : IfSome limits.tries (λ most. most < 2 ^ 64 - 1)
  pub bytes : limits.proof_bytes ≤ MAX_PROOF_BYTES

-- the ending tells of the translation: its steps where it is within the limits, or which of them it is over
abbrev pub EndsWith : PlainProblem → ℕ → MeasuredProof → Ending → Type 0
EndsWith problem limit found (Found steps) =
    (rules_of steps ≡ preorder found.tree) × (found.bytes ≤ limit) × (found.nesting ≤ most_nesting)
    × Refutes (Start problem) found.tree
    × AllByRecursion (IsSpellableTerm problem.symbols.functions) (preorder found.tree)
EndsWith problem limit found (Exhausted answer) = ⊥
EndsWith problem limit found (Spent made) = ⊥
EndsWith problem limit found Long = limit < found.bytes
EndsWith problem limit found Deep = (found.bytes ≤ limit) × (most_nesting < found.nesting)

-- the ending of a round with an offer
abbrev pub EndsClosed : RoundValue → RoundOffer → ℕ → Ending → Type 0
EndsClosed r t limit ending =
    (found : MeasuredProof) × IsTranslationOf r (offer_of t.bindings) found
    × EndsWith (plain_problem r.problem) limit found ending

-- what the verdict says of the offers that close the round's tableau
abbrev pub Settles : RoundValue → Verdict RoundOffer → Type 0
Settles r (verdict.Closed p) = (p.offer.round ≡ r) × ClosesRound r (offer_of p.offer.bindings)
Settles r (verdict.Open task) = (s : Offer) → ClosesRound r s → ⊥
Settles r verdict.Spent = Unit {0}

-- how the verdict on a round ends a search
abbrev pub EndsVerdict : RoundValue → Limits → Verdict RoundOffer → Option Ending → Type 0
EndsVerdict r limits (verdict.Closed p) ending =
    (e : Ending) × (ending ≡ Some e) × EndsClosed r p.offer limits.proof_bytes e
EndsVerdict r limits (verdict.Open task) ending = ending ≡ None
EndsVerdict r limits verdict.Spent ending = ending ≡ Some (Spent (unwrap_or limits.tries 0))

-- what the end of a pool says of the offers that close the round's tableau
abbrev pub SettlesPool : RoundValue → PoolEnd RoundOffer → Type 0
SettlesPool r (pool.Closed p) = Settles r (verdict.Closed p)
SettlesPool r (pool.Open task) = Settles r (verdict.Open task)
SettlesPool r pool.Spent = Unit {0}

-- what the end of a pool is worth: the steps of its offer's proof, that no offer closes the tableau, or nothing
abbrev pub IsWorth : Limits → RoundValue → PoolEnd RoundOffer → Worth → Type 0
IsWorth limits r (pool.Closed p) (worth.Proof steps) = EndsClosed r p.offer limits.proof_bytes (Found steps)
IsWorth limits r (pool.Open task) worth.Open = Unit {0}
IsWorth limits r end worth.Nothing = ServesNot limits r end
IsWorth limits r end worth = ⊥

-- an offer of the agents ends a search only with its proof
abbrev pub IsLeftByAgents : Option Engine → Ending → Type 0
IsLeftByAgents engine (Found steps) = Unit {0}
IsLeftByAgents engine ending = engine ≢ Some Agents

module _ (way : Way) (limits : Limits) (r : RoundValue) (kept : Kept) where
  -- An offer closes the round's tableau, and the ending tells of its translation.
  pub record EndsByOffer (ending : Ending) : Type 0 where
    pub proposal : Proposed RoundOffer
    pub settled : IsSettledSo way limits r kept (verdict.Closed proposal)
    pub ends : EndsClosed r proposal.offer limits.proof_bytes ending
    pub by : IsLeftByAgents kept.engine ending

  -- No offer closes it.
  pub record IsOpenRound : Type 0 where
    pub task : Task RoundOffer
    pub settled : IsSettledSo way limits r kept (verdict.Open task)

  -- The limit of tries was reached.
  pub record EndsByTries (made : ℕ) : Type 0 where
    pub settled : IsSettledSo way limits r kept verdict.Spent
    pub most : made ≡ unwrap_or limits.tries 0

  -- how the round ends a search, which goes on where no offer closes the round's tableau
  abbrev pub EndsRound : Option Ending → Type 0
  EndsRound None = IsOpenRound
  EndsRound (Some (Spent made)) = EndsByTries made
  EndsRound (Some (Exhausted answer)) = ⊥
  EndsRound (Some ending) = EndsByOffer ending

-- the end of a search with its last round, whose tableau is walked where no offer closes it
abbrev pub EndsLast : RoundValue → Option Ending → Ending → Type 0
EndsLast r None ending = (answer : OpenAnswer) × (ending ≡ Exhausted answer) × IsOpenAnswer r answer
EndsLast r (Some e) ending = ending ≡ e

abbrev pub IsEndOf : RoundValue → SettledRound → Searched → Type 0
IsEndOf r last s = EndsLast r last.ending s.ending × (s.kept ≡ last.kept)

-- No offer closes a tableau before the round, whose depth is within the limit.
pub record MayEnd (r : RoundValue) (limits : Limits) : Type 0 where
  pub none_before : NoneBefore (plain_problem r.problem) (rules_in r.rules) r.depth
  pub first : 1 ≤ r.depth
  pub within : r.depth ≤ limits.depth

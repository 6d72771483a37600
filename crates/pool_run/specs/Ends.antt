use Rattle.std.specs.Prelude.{ℕ, true, ◌≡◌, ◌+◌, ◌-◌, ◌^◌, min, Some, Option, List, All, Any, sum_by}
use Rattle.nego_laws.specs.Tree.{Tree, Solves}
use Rattle.nego_node.specs.NodeValue.{NodeValue, IsNode}
use Rattle.nego_node.specs.Order.{AreRising}
use Rattle.nego_node.specs.Moves.{next_move}
use Rattle.nego_node.specs.Board.{first_task}
use Rattle.nego_node.specs.declared.answers.Answer.{Answer}
use Rattle.nego_node.specs.declared.answers.Answer.TheVariants as answer
use Rattle.nego_node.specs.declared.moves.Move.TheVariants.{Try}
use Rattle.nego_plain.specs.PlainOrder.{tried_of}
use Rattle.pool_run.specs.declared.outcome.PoolEnd.{PoolEnd}
use Rattle.pool_run.specs.declared.outcome.PoolEnd.TheVariants as end
use Rattle.nego_plain.specs.declared.settling.Verdict.{Verdict}
use Rattle.nego_plain.specs.declared.settling.Verdict.TheVariants as verdict

module _ {S O : Type 0} where
  -- The node is of the round, and its history is a run of lawful events that leads to its state.
  pub record IsOfRound (tree : O → Tree O) (t : Tree O) (round : ℕ) (n : NodeValue S O) : Type 0 where
    pub same_round : n.state.round ≡ round
    pub node : IsNode tree t n.state.name n.state n.history

  -- nodes of the round, in the rising order of their names
  pub record AreOfRound (tree : O → Tree O) (t : Tree O) (round : ℕ) (nodes : List (NodeValue S O)) : Type 0 where
    pub each : All (IsOfRound tree t round) nodes
    pub rising : AreRising nodes

  -- some node is to try an item
  abbrev pub HasTry : Tree O → List (NodeValue S O) → Type 0
  HasTry t nodes = Any (λ n. next_move t true n.state ≡ Try) nodes

  -- the root is among the nodes, and this is its answer
  abbrev pub RootAnswers : List (NodeValue S O) → Answer O → Type 0
  RootAnswers nodes a = Any (λ n. (n.state.name ≡ 1) × (n.state.answer ≡ Some a)) nodes

-- What the end says of the root's answer, which is one to the round's first task: an offer that solves the root, or
-- that no offer does.
abbrev pub IsAnswerEnd : {O : Type 0} → (O → Tree O) → Tree O → ℕ → Option (Answer O) → PoolEnd O → Type 0
IsAnswerEnd tree t round a (end.Closed p) =
    (a ≡ Some (answer.Proposal p)) × (p.task ≡ first_task t round) × (tree p.offer ≡ t)
    × Solves t p.offer 1
IsAnswerEnd {O} tree t round a (end.Open e) =
    (a ≡ Some (answer.Exhausted e)) × (e ≡ first_task t round)
    × ((s : O) → tree s ≡ t → Solves t s 1 → ⊥)
IsAnswerEnd tree t round a end.Spent = ⊥

-- The end is true. Closed is the root's answer to the round's first task, with an offer that solves the root. Open is
-- its answer too, and no offer solves the root. Spent is that the limit is reached and some node is to try an item.
abbrev pub IsTrueEnd : {S O : Type 0} → (O → Tree O) → Tree O → ℕ → ℕ → ℕ → List (NodeValue S O) → PoolEnd O
    → Type 0
IsTrueEnd tree t round limit tries nodes (end.Closed p) =
    RootAnswers nodes (answer.Proposal p) × (p.task ≡ first_task t round) × (tree p.offer ≡ t)
    × Solves t p.offer 1
IsTrueEnd {S} {O} tree t round limit tries nodes (end.Open e) =
    RootAnswers nodes (answer.Exhausted e) × (e ≡ first_task t round)
    × ((s : O) → tree s ≡ t → Solves t s 1 → ⊥)
IsTrueEnd tree t round limit tries nodes end.Spent = (tries ≡ limit) × HasTry t nodes

-- how the plain engine's verdict ends a pool
abbrev pub end_of : {O : Type 0} → Verdict O → PoolEnd O
end_of (verdict.Closed p) = end.Closed p
end_of (verdict.Open e) = end.Open e
end_of verdict.Spent = end.Spent

-- so many tries, and then those in the histories, up to the last number of 64 bits
abbrev pub tries_with : {S O : Type 0} → ℕ → List (NodeValue S O) → ℕ
tries_with before nodes = min (before + sum_by (λ n. tried_of n.history) nodes) (2 ^ 64 - 1)

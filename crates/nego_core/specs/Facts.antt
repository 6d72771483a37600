use Rattle.std.specs.Prelude.{ℕ, ◌≡◌, ◌≤◌, Some}
use Rattle.nego_laws.specs.Tree.{Tree}
use Rattle.nego_node.specs.Machine.{beginning}
use Rattle.nego_node.specs.Lawful.{IsRun, replay, task_of}
use Rattle.nego_node.specs.Sound.{IsTrueAnswer}
use Rattle.nego_node.specs.Histories.{AllAllowed, times_turned_down}
use Rattle.nego_node.specs.Board.{BoardNode}
use Rattle.nego_node.specs.declared.answers.Answer.{Answer}
use Rattle.nego_node.specs.declared.tasks.Side.{Side}

-- what holds of each node of a board of the round
module _ {O : Type 0} (tree : O → Tree O) (t : Tree O) (round : ℕ) where
  -- its history is a run of lawful events from the beginning, which replayed gives its state
  pub record HasHistory (n : BoardNode O) : Type 0 where
    pub runs : IsRun tree t (beginning round n.state.name) n.history
    pub replays : replay t (beginning round n.state.name) n.history ≡ n.state

  -- what it adopted, and what it answered by agreement, was allowed at that event
  abbrev pub TookAllowed : BoardNode O → Type 0
  TookAllowed n = AllAllowed t (beginning round n.state.name) n.history

  -- a proposal, which is named by its side and generation, was turned down once at the most
  abbrev pub TurnedDownOnce : BoardNode O → Type 0
  TurnedDownOnce n = (side : Side) (generation : ℕ) → times_turned_down side generation n.history ≤ 1

  -- each answer of it is to the task that it holds, which is for this node, and is true
  pub record Answers (n : BoardNode O) (a : Answer O) : Type 0 where
    pub held : n.state.held ≡ Some (task_of a)
    pub node : (task_of a).node ≡ n.state.name
    pub truth : IsTrueAnswer tree t a

  abbrev pub AnswersTruly : BoardNode O → Type 0
  AnswersTruly n = (a : Answer O) → n.state.answer ≡ Some a → Answers n a

use Rattle.std.specs.Prelude.{ℕ, true, ◌≡◌, ◌<◌, ◌≤◌, Some, None, List, [], ◌∷◌}
use Rattle.nego_laws.specs.Tree.{Tree}
use Rattle.nego_node.specs.Machine.{Slot, Half, State, half, part_of, generation_of}
use Rattle.nego_node.specs.NodeValue.{IsNode}
use Rattle.nego_node.specs.Board.{BoardNode, node_named, first_task}
use Rattle.nego_node.specs.declared.tasks.Task.{Task}
use Rattle.nego_node.specs.declared.tasks.Side.{Side}

-- The task that a part holds is no newer than what it is asked, is older where it is asked nothing, and is what it is
-- asked where their generations agree.
pub record IsInStep {O : Type 0} (h : Half O) (part : State O) : Type 0 where
  pub at_most : generation_of part.held ≤ h.generation
  pub less : h.slot ≡ None → generation_of part.held < h.generation
  pub same : (k : Slot O) → h.slot ≡ Some k → generation_of part.held ≡ h.generation → part.held ≡ Some k.task

-- no two nodes have one name
abbrev pub AreDistinct : {O : Type 0} → List (BoardNode O) → Type 0
AreDistinct [] = Unit {0}
AreDistinct (n ∷ ns) = (node_named ns n.state.name ≡ None) × AreDistinct ns

-- a node of a board of the round, that has the name
pub record IsOfBoard {O : Type 0} (tree : O → Tree O) (t : Tree O) (round b : ℕ) (n : BoardNode O) : Type 0 where
  pub positive : 1 ≤ b
  pub of_round : n.state.round ≡ round
  pub node : IsNode tree t b n.state n.history

-- what every pick keeps of a board
pub record IsBoard {O : Type 0} (tree : O → Tree O) (t : Tree O) (round : ℕ) (ns : List (BoardNode O)) : Type 0 where
  pub root : (n : BoardNode O) × (node_named ns 1 ≡ Some n)
  pub distinct : AreDistinct ns
  pub nodes : (b : ℕ) (n : BoardNode O) → node_named ns b ≡ Some n → IsOfBoard tree t round b n
  pub first : (n : BoardNode O) (task : Task O) → node_named ns 1 ≡ Some n → n.state.held ≡ Some task
      → task ≡ first_task t round
  pub parts : (b : ℕ) (side : Side) (n : BoardNode O) → node_named ns b ≡ Some n → n.state.has_split ≡ true
      → (part : BoardNode O) × (node_named ns (part_of b side) ≡ Some part)
  pub parents : (b : ℕ) (side : Side) (part : BoardNode O) → 1 ≤ b → node_named ns (part_of b side) ≡ Some part
      → (n : BoardNode O) × (node_named ns b ≡ Some n) × (n.state.has_split ≡ true)
  pub in_step : (b : ℕ) (side : Side) (n part : BoardNode O) → node_named ns b ≡ Some n
      → node_named ns (part_of b side) ≡ Some part → IsInStep (half n.state side) part.state

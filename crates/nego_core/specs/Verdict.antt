use Rattle.std.specs.Prelude.{ℕ, true, ◌≡◌, ◌↔◌, ◌<◌, length, Option, Some, None, List, [], ◌∷◌}
use Rattle.nego_laws.specs.Tree.{Tree, Solves}
use Rattle.nego_node.specs.Machine.{is_proposal}
use Rattle.nego_node.specs.Board.{BoardNode}
use Rattle.nego_node.specs.declared.tasks.Task.{Task}
use Rattle.nego_node.specs.declared.answers.Answer.{Answer}
use Rattle.nego_core.specs.Picking.{MayPick}
use Rattle.nego_core.specs.declared.picks.Pick.{Pick}

module _ {O : Type 0} where
  -- the answer of the root, which was opened first
  abbrev pub root_answer : List (BoardNode O) → Option (Answer O)
  root_answer [] = None
  root_answer (n ∷ ns) = n.state.answer

  -- an answer of the root is a proposal exactly where some offer solves the root
  abbrev pub IsDecided : (O → Tree O) → Tree O → List (BoardNode O) → Type 0
  IsDecided tree t ns = (a : Answer O) → root_answer ns ≡ Some a
      → (is_proposal (Some a) ≡ true) ↔ ((s : O) × (tree s ≡ t) × Solves t s 1)

  -- the root has received a task and has no answer
  abbrev pub IsOpen : List (BoardNode O) → Type 0
  IsOpen [] = ⊥
  IsOpen (n ∷ ns) = ((task : Task O) × (n.state.held ≡ Some task)) × (n.state.answer ≡ None)

  -- while the root is open, some pick of a node of the board is lawful
  abbrev pub IsNeverStuck : (O → Tree O) → Tree O → ℕ → List (BoardNode O) → Type 0
  IsNeverStuck tree t round ns = IsOpen ns → (p : Pick) × (p.node < length ns) × MayPick tree t round ns p

use Rattle.std.specs.Prelude.{ℕ, false, ◌≡◌, ◌≢◌, ◌+◌, Option, Some, None, List, IsSome, [], ◌∷◌}
use Rattle.nego_laws.specs.Tree.{Tree}
use Rattle.nego_node.specs.Machine.{Slot, State, Trial, half, other, part_of}
use Rattle.nego_node.specs.Moves.{next_move}
use Rattle.nego_node.specs.Board.{BoardNode, node_named, said_at, IsOfAct, Happens}
use Rattle.nego_node.specs.declared.tasks.Side.{Side}
use Rattle.nego_node.specs.declared.tasks.Side.TheVariants.{Left}
use Rattle.nego_node.specs.declared.answers.Answer.{Answer}
use Rattle.nego_node.specs.declared.events.Event.{Event}
use Rattle.nego_node.specs.declared.events.Event.TheVariants.{Tried}
use Rattle.nego_node.specs.declared.moves.Move.{Move}
use Rattle.nego_node.specs.declared.moves.Move.TheVariants.{Wait}
use Rattle.nego_node.specs.declared.acts.Act.{Act}
use Rattle.nego_node.specs.declared.acts.Act.TheVariants.{Receive, Post, Make}

-- the side that a node asks: the left one without a trial, and in a trial the other one than the trial's
abbrev pub asked_side : {O : Type 0} → Option (Trial O) → Side
asked_side None = Left
asked_side (Some trial) = other trial.side

-- without an open move of its own, the node waits for the answer to what it asked of a side
pub record WaitsFor {O : Type 0} (t : Tree O) (s : State O) (side : Side) (k : Slot O) : Type 0 where
  pub holds : IsSome s.held
  pub unanswered : s.answer ≡ None
  pub waits : next_move t false s ≡ Wait
  pub is_side : side ≡ asked_side s.trial
  pub slot : (half s side).slot ≡ Some k
  pub awaited : k.answer ≡ None

-- The pick of the plain order, found from node b: an act at a node. A node without a task takes one, and a node with a
-- move of its own makes it. Where a node waits for a part, the part takes the task of its slot if it does not hold it,
-- the node takes the part's answer if there is one, and else the pick is found from the part.
pub data IsPlainPick {O : Type 0} (t : Tree O) (ns : List (BoardNode O)) : ℕ → ℕ → Act → Type 0 where
  receives : {b : ℕ} (n : BoardNode O) → node_named ns b ≡ Some n → n.state.held ≡ None → IsPlainPick t ns b b Receive
  moves : {b : ℕ} (n : BoardNode O) (step : Move) → node_named ns b ≡ Some n → IsSome n.state.held
      → next_move t false n.state ≡ step → step ≢ Wait → IsPlainPick t ns b b (Make step)
  asks : {b : ℕ} (n c : BoardNode O) (side : Side) (k : Slot O) → node_named ns b ≡ Some n → WaitsFor t n.state side k
      → node_named ns (part_of b side) ≡ Some c → c.state.held ≢ Some k.task
      → IsPlainPick t ns b (part_of b side) Receive
  posts : {b : ℕ} (n c : BoardNode O) (side : Side) (k : Slot O) (a : Answer O) → node_named ns b ≡ Some n
      → WaitsFor t n.state side k → node_named ns (part_of b side) ≡ Some c → c.state.held ≡ Some k.task
      → c.state.answer ≡ Some a → IsPlainPick t ns b b (Post side)
  below : {b d : ℕ} {act : Act} (n c : BoardNode O) (side : Side) (k : Slot O) → node_named ns b ≡ Some n
      → WaitsFor t n.state side k → node_named ns (part_of b side) ≡ Some c → c.state.held ≡ Some k.task
      → c.state.answer ≡ None → IsPlainPick t ns (part_of b side) d act → IsPlainPick t ns b d act

-- the pick of the plain order is one
abbrev pub HasOnePick : {O : Type 0} → Tree O → Type 0
HasOnePick {O} t =
    (ns : List (BoardNode O)) (b c d : ℕ) (act also : Act) → IsPlainPick t ns b c act → IsPlainPick t ns b d also
    → (c ≡ d) × (act ≡ also)

-- one for an attempt
abbrev pub tried_in : {O : Type 0} → Event O → ℕ
tried_in (Tried item outcome) = 1
tried_in _ = 0

-- how many attempts a history has
abbrev pub tried_of : {O : Type 0} → List (Event O) → ℕ
tried_of [] = 0
tried_of (e ∷ es) = tried_in e + tried_of es

-- The picks of the plain order lead from a board without an answer of the root to another board, with so many attempts.
-- Each is found from the root, and the root has no answer before it.
pub data PlainRun {O : Type 0} (tree : O → Tree O) (t : Tree O) (round : ℕ) (from : List (BoardNode O)) : ℕ
    → List (BoardNode O) → Type 0 where
  stays : PlainRun tree t round from 0 from
  goes : {n b : ℕ} {ns ns' : List (BoardNode O)} (act : Act) (e : Event O) → PlainRun tree t round from n ns
      → said_at ns 1 ≡ None → IsPlainPick t ns 1 b act → IsOfAct act e → Happens tree t round ns b e ns'
      → PlainRun tree t round from (n + tried_in e) ns'

use Rattle.std.specs.Prelude.{ℕ, false, ◌≡◌, ◌≢◌, Some, None, IsSome}
use Rattle.nego_laws.specs.Tree.{Tree, left_of, right_of}
use Rattle.nego_node.specs.Machine.{Slot}
use Rattle.nego_node.specs.Moves.{next_move, IsOf}
use Rattle.nego_node.specs.Lawful.{Lawful, MaySplit, MayReceive, MayPost}
use Rattle.nego_node.specs.Board.{BoardNode, opened, with_event}
use Rattle.nego_plain.specs.PlainOrder.{WaitsFor}
use Rattle.nego_node.specs.declared.tasks.Side.TheVariants.{Left, Right}
use Rattle.nego_node.specs.declared.answers.Answer.{Answer}
use Rattle.nego_node.specs.declared.events.Event.{Event}
use Rattle.nego_node.specs.declared.events.Event.TheVariants as event
use Rattle.nego_node.specs.declared.moves.Move.{Move}
use Rattle.nego_node.specs.declared.moves.Move.TheVariants.{Wait, Split}

-- A node with those below it, which are there once it has split.
pub data Family (O : Type 0) : Type 0 where
  alone : BoardNode O → Family O
  with_parts : BoardNode O → Family O → Family O → Family O

abbrev pub top : {O : Type 0} → Family O → BoardNode O
top (alone n) = n
top (with_parts n l r) = n

abbrev pub with_top : {O : Type 0} → Family O → BoardNode O → Family O
with_top (alone n) m = alone m
with_top (with_parts n l r) m = with_parts m l r

-- One event of the plain order at or below the top of a family: a move of the top, a task that a part takes, an answer
-- that the top takes from a part, or one below a part that has the task and no answer.
pub data Steps {O : Type 0} (tree : O → Tree O) (t : Tree O) (round : ℕ) : Family O → Event O → Family O → Type 0 where
  moves : (f : Family O) (step : Move) (e : Event O) → IsSome (top f).state.held
      → next_move t false (top f).state ≡ step → step ≢ Wait → step ≢ Split → IsOf step e
      → Lawful tree t (top f).state e → Steps tree t round f e (with_top f (with_event t e (top f)))
  splits : (n : BoardNode O) → IsSome n.state.held → next_move t false n.state ≡ Split → MaySplit t n.state
      → Steps tree t round (alone n) event.Split
      (with_parts (with_event t event.Split n) (alone (opened round (left_of n.state.name)))
      (alone (opened round (right_of n.state.name))))
  takes_left : (n : BoardNode O) (l r : Family O) (k : Slot O) → WaitsFor t n.state Left k
      → (top l).state.held ≢ Some k.task → MayReceive (top l).state k.task
      → Steps tree t round (with_parts n l r) (event.Received k.task)
      (with_parts n (with_top l (with_event t (event.Received k.task) (top l))) r)
  takes_right : (n : BoardNode O) (l r : Family O) (k : Slot O) → WaitsFor t n.state Right k
      → (top r).state.held ≢ Some k.task → MayReceive (top r).state k.task
      → Steps tree t round (with_parts n l r) (event.Received k.task)
      (with_parts n l (with_top r (with_event t (event.Received k.task) (top r))))
  posts_left : (n : BoardNode O) (l r : Family O) (k : Slot O) (a : Answer O) → WaitsFor t n.state Left k
      → (top l).state.held ≡ Some k.task → (top l).state.answer ≡ Some a → MayPost n.state Left a
      → Steps tree t round (with_parts n l r) (event.Posted Left a)
      (with_parts (with_event t (event.Posted Left a) n) l r)
  posts_right : (n : BoardNode O) (l r : Family O) (k : Slot O) (a : Answer O) → WaitsFor t n.state Right k
      → (top r).state.held ≡ Some k.task → (top r).state.answer ≡ Some a → MayPost n.state Right a
      → Steps tree t round (with_parts n l r) (event.Posted Right a)
      (with_parts (with_event t (event.Posted Right a) n) l r)
  below_left : (n : BoardNode O) (l r l' : Family O) (k : Slot O) (e : Event O) → WaitsFor t n.state Left k
      → (top l).state.held ≡ Some k.task → (top l).state.answer ≡ None → Steps tree t round l e l'
      → Steps tree t round (with_parts n l r) e (with_parts n l' r)
  below_right : (n : BoardNode O) (l r r' : Family O) (k : Slot O) (e : Event O) → WaitsFor t n.state Right k
      → (top r).state.held ≡ Some k.task → (top r).state.answer ≡ None → Steps tree t round r e r'
      → Steps tree t round (with_parts n l r) e (with_parts n l r')

use Rattle.std.specs.Prelude.{
  ℕ,
  suc,
  Bool,
  true,
  false,
  ◌≡◌,
  ◌≢◌,
  ◌+◌,
  ◌-◌,
  ◌^◌,
  ◌≤◌,
  min,
  Option,
  Some,
  None,
  IsSome,
  nat_le,
  nat_eq,
  if◌then◌else◌,
}
use Rattle.nego_laws.specs.Tree.{Tree}
use Rattle.nego_node.specs.Machine.{Slot, State, half}
use Rattle.nego_node.specs.Moves.{next_move, IsOf}
use Rattle.nego_node.specs.Lawful.{Lawful}
use Rattle.nego_node.specs.Sound.{Belongs}
use Rattle.nego_node.specs.Board.{BoardNode, with_event}
use Rattle.nego_node.specs.declared.tasks.Side.{Side}
use Rattle.nego_node.specs.declared.tasks.Side.TheVariants.{Left, Right}
use Rattle.nego_node.specs.declared.events.Event.{Event}
use Rattle.nego_node.specs.declared.moves.Move.{Move}
use Rattle.nego_node.specs.declared.moves.Move.TheVariants.{Try, Wait, Split}
use Rattle.nego_plain.specs.Width.{Sites, IsSites}
use Rattle.nego_plain.specs.PlainOrder.{WaitsFor, tried_in}
use Rattle.nego_plain.specs.Family.{Family, with_parts, top, Steps}
use Rattle.nego_plain.specs.Fits.{IsLinked, IsFamily}
use Rattle.nego_plain.specs.Rest.{IsBounded}
use Rattle.nego_plain.specs.declared.tries.Tries.{Tries}

-- a family of the plain order over some sites, with no more left than fresh tasks give it
pub record IsInPlain {O : Type 0} (tree : O → Tree O) (t : Tree O) (f : Family O) : Type 0 where
  pub round : ℕ
  pub site : ℕ
  pub sites : Sites
  pub are_sites : IsSites t site sites
  pub family : IsFamily tree t round site sites f
  pub bounded : IsBounded t sites f

-- the node holds a task without an answer
abbrev pub IsSeeking : {O : Type 0} → State O → Type 0
IsSeeking s = IsSome s.held × (s.answer ≡ None)

-- the limit is reached
abbrev pub has_reached : Option ℕ → ℕ → Bool
has_reached None made = false
has_reached (Some limit) made = nat_le limit made

abbrev pub is_spent : Tries → Bool
is_spent tries = has_reached tries.limit tries.made

-- with so many more, up to the last value
abbrev pub count_after : ℕ → ℕ → ℕ
count_after made more = if nat_eq more 0 then made else min (made + more) (2 ^ 64 - 1)

-- The next pick of the plain order in the family is Try.
pub data NextIsTry {O : Type 0} (t : Tree O) : Family O → Type 0 where
  here : (f : Family O) → IsSeeking (top f).state → next_move t false (top f).state ≡ Try → NextIsTry t f
  left_below : (n : BoardNode O) (l r : Family O) (k : Slot O) → WaitsFor t n.state Left k
      → (top l).state.held ≡ Some k.task → (top l).state.answer ≡ None → NextIsTry t l → NextIsTry t (with_parts n l r)
  right_below : (n : BoardNode O) (l r : Family O) (k : Slot O) → WaitsFor t n.state Right k
      → (top r).state.held ≡ Some k.task → (top r).state.answer ≡ None → NextIsTry t r → NextIsTry t (with_parts n l r)

-- one event was done, and counted where it is an attempt, for which the limit must not be reached
pub record DidStep {O : Type 0} (tree : O → Tree O) (t : Tree O) (round : ℕ) (f f' : Family O)
    (tries tries' : Tries) : Type 0 where
  pub event : Event O
  pub steps : Steps tree t round f event f'
  pub same_limit : tries'.limit ≡ tries.limit
  pub made : tries'.made ≡ count_after tries.made (tried_in event)
  pub allowed : tried_in event ≡ 1 → is_spent tries ≡ false

-- nothing was done, since the next pick is Try and the limit is reached
pub record IsLimited {O : Type 0} (t : Tree O) (f f' : Family O) (tries tries' : Tries) : Type 0 where
  pub next : NextIsTry t f
  pub same : f' ≡ f
  pub same_tries : tries' ≡ tries
  pub reached : is_spent tries ≡ true

-- So many events of the plain order were done in the family, one after the other while its top had no answer.
pub data Plays {O : Type 0} (tree : O → Tree O) (t : Tree O) (round : ℕ) (f : Family O) (tries : Tries) : ℕ → Family O
    → Tries → Type 0 where
  stays : Plays tree t round f tries 0 f tries
  goes : {n : ℕ} {f' : Family O} {tries' : Tries} (g : Family O) (mid : Tries) → Plays tree t round f tries n g mid
      → (top g).state.answer ≡ None → DidStep tree t round g f' mid tries'
      → Plays tree t round f tries (suc n) f' tries'

-- the top has no answer, the next pick is Try, and the limit is reached
pub record IsStopped {O : Type 0} (t : Tree O) (f : Family O) (tries : Tries) : Type 0 where
  pub unanswered : (top f).state.answer ≡ None
  pub next : NextIsTry t f
  pub reached : is_spent tries ≡ true

-- At least one event was done, or it stopped at an attempt before which the limit is reached.
pub record DidPlay {O : Type 0} (tree : O → Tree O) (t : Tree O) (round : ℕ) (moved : Bool) (f f' : Family O)
    (tries tries' : Tries) : Type 0 where
  pub events : ℕ
  pub plays : Plays tree t round f tries events f' tries'
  pub some : moved ≡ true → 1 ≤ events
  pub stopped : moved ≡ false → IsStopped t f' tries'

-- The plain order was followed until the top has an answer, or to an attempt before which the limit is reached.
pub record DidWork {O : Type 0} (tree : O → Tree O) (t : Tree O) (round : ℕ) (ended : Bool) (f f' : Family O)
    (tries tries' : Tries) : Type 0 where
  pub events : ℕ
  pub plays : Plays tree t round f tries events f' tries'
  pub answered : ended ≡ true → IsSome (top f').state.answer
  pub stopped : ended ≡ false → IsStopped t f' tries'

-- a node waits for the part
pub record AwaitsPart {O : Type 0} (tree : O → Tree O) (t : Tree O) (s : State O) (side : Side)
    (c : Family O) : Type 0 where
  pub slot : Slot O
  pub waits : WaitsFor t s side slot
  pub linked : IsLinked (half s side) (top c).state
  pub generation : slot.task.generation ≡ (half s side).generation
  pub node : slot.task.node ≡ (top c).state.name
  pub of_round : slot.task.round ≡ (top c).state.round
  pub same_round : (top c).state.round ≡ s.round
  pub belongs : Belongs tree t slot.task
  pub plain : IsInPlain tree t c

-- a node, its part of one side and the other part
abbrev pub join : {O : Type 0} → Side → BoardNode O → Family O → Family O → Family O
join Left n c other = with_parts n c other
join Right n c other = with_parts n other c

-- the same as seen from a part, whatever the other part is
abbrev pub DidPartPlay : {O : Type 0} → (O → Tree O) → Tree O → ℕ → Side → Bool → BoardNode O → BoardNode O → Family O
    → Family O → Tries → Tries → Type 0
DidPartPlay {O} tree t round side moved n n' c c' tries tries' =
    (other : Family O) → DidPlay tree t round moved (join side n c other) (join side n' c' other) tries tries'

-- a node made a move of its own, which is counted where it is an attempt
pub record DidMove {O : Type 0} (tree : O → Tree O) (t : Tree O) (n n' : BoardNode O)
    (tries tries' : Tries) : Type 0 where
  pub step : Move
  pub event : Event O
  pub next : next_move t false n.state ≡ step
  pub not_wait : step ≢ Wait
  pub not_split : step ≢ Split
  pub is_of : IsOf step event
  pub lawful : Lawful tree t n.state event
  pub node : n' ≡ with_event t event n
  pub same_limit : tries'.limit ≡ tries.limit
  pub made : tries'.made ≡ count_after tries.made (tried_in event)
  pub allowed : tried_in event ≡ 1 → is_spent tries ≡ false

-- nothing was done at a node, since its next move is Try and the limit is reached
pub record IsMoveLimited {O : Type 0} (t : Tree O) (n n' : BoardNode O) (tries tries' : Tries) : Type 0 where
  pub next : next_move t false n.state ≡ Try
  pub same : n' ≡ n
  pub same_tries : tries' ≡ tries
  pub reached : is_spent tries ≡ true

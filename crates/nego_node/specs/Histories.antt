use Rattle.std.specs.Prelude.{ℕ, Bool, true, false, ◌≡◌, ◌+◌, ◌&&◌, Some, List, [], ◌∷◌, nat_eq}
use Rattle.nego_laws.specs.Tree.{Tree}
use Rattle.nego_node.specs.Truth.{entails_some}
use Rattle.nego_node.specs.Machine.{State, half, after}
use Rattle.nego_node.specs.Decisions.{is_same}
use Rattle.nego_node.specs.declared.tasks.Task.{Task}
use Rattle.nego_node.specs.declared.tasks.Side.{Side}
use Rattle.nego_node.specs.declared.events.Event.{Event}
use Rattle.nego_node.specs.declared.events.Event.TheVariants.{Adopted, Agreed, Forbidden, Refused}

-- the offer of a side entails nothing that is banned or forbidden to the side
pub record IsAllowed {O : Type 0} (t : Tree O) (s : State O) (side : Side) (offer : O) : Type 0 where
  pub task : Task O
  pub held : s.held ≡ Some task
  pub no_ban : entails_some t offer task.ban ≡ false
  pub not_forbidden : entails_some t offer (half s side).forbidden ≡ false

-- what is put to the other part, or is answered with its agreement, is allowed in that state
abbrev pub TakesAllowed : {O : Type 0} → Tree O → State O → Event O → Type 0
TakesAllowed t s (Adopted side generation offer) = IsAllowed t s side offer
TakesAllowed t s (Agreed side generation offer) = IsAllowed t s side offer
TakesAllowed t s _ = Unit {0}

-- and so at each event of a history, in the state to which the events before it lead
abbrev pub AllAllowed : {O : Type 0} → Tree O → State O → List (Event O) → Type 0
AllAllowed t s [] = Unit {0}
AllAllowed t s (e ∷ es) = TakesAllowed t s e × AllAllowed t (after t s e) es

abbrev pub one_if : Bool → ℕ
one_if true = 1
one_if false = 0

-- whether an event turns down the proposal of a side that is named by its generation, as 1 or 0
abbrev pub turns_down : {O : Type 0} → Side → ℕ → Event O → ℕ
turns_down side g (Forbidden x generation offer) = one_if (is_same x side && nat_eq generation g)
turns_down side g (Refused x generation) = one_if (is_same x side && nat_eq generation g)
turns_down side g _ = 0

-- how often it was turned down
abbrev pub times_turned_down : {O : Type 0} → Side → ℕ → List (Event O) → ℕ
times_turned_down side g [] = 0
times_turned_down side g (e ∷ es) = turns_down side g e + times_turned_down side g es

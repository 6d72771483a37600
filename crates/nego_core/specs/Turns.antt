use Rattle.std.specs.Prelude.{Bool, true, false, ◌≡◌, List, [], ◌∷◌, ◌++◌}
use Rattle.nego_laws.specs.Tree.{Tree}
use Rattle.nego_node.specs.Machine.{State, after}
use Rattle.nego_node.specs.Lawful.{Lawful}
use Rattle.nego_node.specs.declared.events.Event.{Event}

-- a node had one lawful event with a property, and nothing else
pub record Had {O : Type 0} (tree : O → Tree O) (t : Tree O) (P : Event O → Type 0) (s s' : State O)
    (h h' : List (Event O)) : Type 0 where
  pub event : Event O
  pub is_of : P event
  pub lawful : Lawful tree t s event
  pub state : s' ≡ after t s event
  pub history : h' ≡ h ++ event ∷ []

-- it had one, or it may not, and is as it was
abbrev pub Turn : {O : Type 0} → (O → Tree O) → Tree O → (Event O → Type 0) → Type 0 → Bool → State O → State O
    → List (Event O) → List (Event O) → Type 0
Turn tree t P May true s s' h h' = Had tree t P s s' h h'
Turn tree t P May false s s' h h' = (May → ⊥) × (s' ≡ s) × (h' ≡ h)

use Rattle.std.specs.Prelude.{ℕ, ◌<◌, ◌≡◌, Option, Some, None, List, [], ◌∷◌, ◌++◌, All}
use Rattle.nego_node.specs.Machine.{Slot, pick}
use Rattle.nego_node.specs.declared.tasks.Task.{Task}
use Rattle.nego_node.specs.declared.tasks.Side.{Side}
use Rattle.nego_node.specs.declared.events.Event.{Event}
use Rattle.nego_node.specs.declared.events.Event.TheVariants.{Asked}

-- the tasks that are asked of a side, in their order
abbrev pub asked_by : {O : Type 0} → Side → Event O → List (Task O)
asked_by side (Asked x task) = pick side (pick x (task ∷ []) []) (pick x [] (task ∷ []))
asked_by side _ = []

abbrev pub asked_of : {O : Type 0} → Side → List (Event O) → List (Task O)
asked_of side [] = []
asked_of side (e ∷ h) = asked_by side e ++ asked_of side h

-- The task in a slot was the last that was asked of the side, and all others are of lesser generations. Where the slot
-- is empty, all that was asked of the side is of lesser generations than the side's.
abbrev pub AskedInOrder : {O : Type 0} → Option (Slot O) → ℕ → List (Task O) → Type 0
AskedInOrder None generation tasks = All (λ task. task.generation < generation) tasks
AskedInOrder {O} (Some k) generation tasks = (earlier : List (Task O)) × (tasks ≡ earlier ++ k.task ∷ [])
    × All (λ task. task.generation < k.task.generation) earlier

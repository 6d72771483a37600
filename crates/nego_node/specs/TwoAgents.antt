use Rattle.std.specs.Prelude.{ℕ, Bool, true, false, List, [], ◌∷◌, Some, ◌≡◌, nat_eq, if◌then◌else◌}
use Rattle.nego_laws.specs.Tree.{Tree}
use Rattle.nego_node.specs.Machine.{beginning}
use Rattle.nego_node.specs.Lawful.{replay, IsRun}
use Rattle.nego_node.specs.declared.tasks.Task.{Task}
use Rattle.nego_node.specs.declared.tasks.Side.TheVariants.{Left, Right}
use Rattle.nego_node.specs.declared.answers.Answer.{Answer}
use Rattle.nego_node.specs.declared.answers.Answer.TheVariants as answer
use Rattle.nego_node.specs.declared.events.Outcome.TheVariants as outcome
use Rattle.nego_node.specs.declared.events.Event.{Event}
use Rattle.nego_node.specs.declared.events.Event.TheVariants.{
  Received,
  Tried,
  Split,
  Asked,
  Posted,
  Adopted,
  Agreed,
  Forbidden,
  Exhausted,
}

-- Two agents and one variable, which the left part binds to a or to b, and the right part to b alone.
pub data Binding : Type 0 where
  unbound : Binding
  to_a : Binding
  to_b : Binding

abbrev pub entails : Binding → Binding → Bool
entails x unbound = true
entails to_a to_a = true
entails to_b to_b = true
entails _ _ = false

abbrev pub same : Binding → Binding → Bool
same unbound unbound = true
same to_a to_a = true
same to_b to_b = true
same _ _ = false

abbrev pub closes : ℕ → ℕ → Binding → Bool
closes b i x = if nat_eq b 2 then (if nat_eq i 0 then entails x to_a else entails x to_b) else entails x to_b

abbrev pub two_agents : Tree Binding
two_agents =
    record {
      entails = entails;
      same = same;
      free = unbound;
      items = λ b. if nat_eq b 2 then 2 else if nat_eq b 3 then 1 else 0;
      closes = closes;
      parted = λ b. nat_eq b 1;
      height = λ b. if nat_eq b 1 then 1 else 0;
    }

abbrev pub tree : Binding → Tree Binding
tree x = two_agents

abbrev pub task : ℕ → ℕ → Binding → List Binding → Task Binding
task node generation given ban = record { round = 1; node = node; generation = generation; given = given; ban = ban }

abbrev pub proposal : Task Binding → Binding → Answer Binding
proposal asked x = answer.Proposal (record { task = asked; offer = x })

-- the root: the left part's first offer is forbidden, and its second one agreed to
abbrev pub root_history : List (Event Binding)
root_history =
    Received (task 1 1 unbound []) ∷ Split
    ∷ Asked Left (task 2 1 unbound []) ∷ Posted Left (proposal (task 2 1 unbound []) to_a) ∷ Adopted Left 1 to_a
    ∷ Asked Right (task 3 1 to_a []) ∷ Posted Right (answer.Exhausted (task 3 1 to_a [])) ∷ Forbidden Left 1 to_a
    ∷ Asked Left (task 2 2 unbound (to_a ∷ [])) ∷ Posted Left (proposal (task 2 2 unbound (to_a ∷ [])) to_b)
    ∷ Adopted Left 2 to_b
    ∷ Asked Right (task 3 2 to_b []) ∷ Posted Right (proposal (task 3 2 to_b []) to_b) ∷ Agreed Right 2 to_b ∷ []

abbrev pub left_history : List (Event Binding)
left_history =
    Received (task 2 1 unbound []) ∷ Tried 0 (outcome.Offer to_a)
    ∷ Received (task 2 2 unbound (to_a ∷ [])) ∷ Tried 1 (outcome.Offer to_b) ∷ []

abbrev pub right_history : List (Event Binding)
right_history =
    Received (task 3 1 to_a []) ∷ Tried 0 outcome.None ∷ Exhausted
    ∷ Received (task 3 2 to_b []) ∷ Tried 0 (outcome.Offer to_b) ∷ []

-- at the node of that name each event is lawful, and the last state has the answer
abbrev pub Leads : ℕ → List (Event Binding) → Answer Binding → Type 0
Leads name history said =
    IsRun tree two_agents (beginning 1 name) history
    × ((replay two_agents (beginning 1 name) history).answer ≡ Some said)

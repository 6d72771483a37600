-- The lines of histories, over a spelling of offers.
use Rattle.std.specs.Prelude.{ℕ, List, ◌++◌, map, codes, decimal}
use Rattle.std.specs.List.{flat_map}
use Rattle.nego_node.specs.declared.events.Event.{Event}
use Rattle.history_text.specs.Words.{event_words}
use Rattle.history_text.specs.declared.node_line.NodeLine.{NodeLine}

-- a node's name, and what happened there
pub record NodeHistory (O : Type 0) : Type 0 where
  pub name : ℕ
  pub events : List (Event O)

abbrev pub history_of : {O : Type 0} → List (NodeLine O) → List (NodeHistory O)
history_of nodes = map (λ n. record { name = n.name; events = n.events.now }) nodes

module _ {O : Type 0} (text : O → List ℕ) where
  -- the line of an event at the node of that name
  abbrev pub event_line : ℕ → Event O → List ℕ
  event_line name e = codes "% node " ++ decimal name ++ codes " " ++ event_words text e

  abbrev pub node_lines : ℕ → List (Event O) → List (List ℕ)
  node_lines name events = map (event_line name) events

  -- the lines of the nodes, one node after the other
  abbrev pub history_lines : List (NodeHistory O) → List (List ℕ)
  history_lines nodes = flat_map (λ n. node_lines n.name n.events) nodes

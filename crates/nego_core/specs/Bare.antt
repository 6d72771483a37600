use Rattle.std.specs.Prelude.{List, map}
use Rattle.nego_node.specs.NodeValue.{NodeValue}
use Rattle.nego_node.specs.Board.{BoardNode}

-- a node without its site
abbrev pub bare_node : {S O : Type 0} → NodeValue S O → BoardNode O
bare_node v = record { state = v.state; history = v.history }

abbrev pub bare : {S O : Type 0} → List (NodeValue S O) → List (BoardNode O)
bare nodes = map bare_node nodes

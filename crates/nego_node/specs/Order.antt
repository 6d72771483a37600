use Rattle.std.specs.Prelude.{ℕ, ◌≡◌, ◌<◌, Some, List, slice_get}
use Rattle.nego_node.specs.NodeValue.{NodeValue}

-- nodes in the rising order of their names, each of a name of its own
abbrev pub AreRising : {S O : Type 0} → List (NodeValue S O) → Type 0
AreRising {S} {O} nodes =
    (i j : ℕ) (m n : NodeValue S O) → i < j → slice_get nodes i ≡ Some m → slice_get nodes j ≡ Some n
    → m.state.name < n.state.name

use Rattle.std.specs.Prelude.{◌≡◌, Some, List, All, slice_get}
use Rattle.nego_node.specs.NodeValue.{NodeValue}
use Rattle.nego_node.specs.Order.{AreRising}

-- a node, and behind it others of its round, in the rising order of their names
pub record AreStatesFrom {S O : Type 0} (first : NodeValue S O) (nodes : List (NodeValue S O)) : Type 0 where
  pub head : slice_get nodes 0 ≡ Some first
  pub rising : AreRising nodes
  pub same_round : All (λ n. n.state.round ≡ first.state.round) nodes

use Rattle.std.specs.Prelude.{ℕ, List}
use Rattle.nego_node.specs.NodeValue.{NodeValue}

-- What contracts see of a board: its nodes in the order of opening, and how many picks were not lawful.
pub record BoardValue (S O : Type 0) : Type 0 where
  pub nodes : List (NodeValue S O)
  pub unlawful : ℕ

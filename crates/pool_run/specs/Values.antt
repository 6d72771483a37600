use Rattle.std.specs.Prelude.{ℕ, List}
use Rattle.nego_node.specs.NodeValue.{NodeValue}
use Rattle.pool_run.specs.declared.outcome.PoolEnd.{PoolEnd}

-- what contracts see of a pool's run: how it ended, the nodes, and how many items were tried
pub record RunValue (S O : Type 0) : Type 0 where
  pub end : PoolEnd O
  pub nodes : List (NodeValue S O)
  pub tries : ℕ

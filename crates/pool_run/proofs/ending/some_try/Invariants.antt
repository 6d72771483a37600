use Rattle.std.proofs.Common.{◌≡◌, true, All, take}
use Rattle.nego_node.specs.Moves.{next_move}
use Rattle.nego_node.specs.declared.moves.Move.TheVariants.{Try}
use Rattle.pool_run.proofs.ending.some_try.Given as goal

abbrev pub invariant-loop-node : goal.invariant-loop-node
invariant-loop-node g l = All (λ n. next_move (g.F.Field.tree l.field) true n.state ≡ Try → ⊥) (take l.node-index l.nodes)

use Rattle.std.proofs.Common.{All, take}
use Rattle.nego_node.specs.NodeValue.{IsNode}
use Rattle.pool_run.proofs.ending.histories.Given as goal

abbrev pub invariant-loop-node : goal.invariant-loop-node
invariant-loop-node g l =
    All (λ n. IsNode g.F.Offer.Offer.tree (g.F.Field.around n.site) (g.F.Field.named n.site) n.state n.history) (take l.node-index l.nodes)

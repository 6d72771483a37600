use Rattle.std.proofs.Common.{subst}
use Rattle.nego_node.specs.NodeValue.{NodeValue, IsNode}
use Rattle.nego_node.proofs.node.NodeState.history.Goals as goal

pub returns-clause-node : goal.returns-clause-node
returns-clause-node g c =
    subst (λ (v : NodeValue _ _). IsNode g.F.Offer.Offer.tree (g.F.Field.around v.site) (g.F.Field.named v.site) v.state v.history) c.self.view_is c.self.invariant.node

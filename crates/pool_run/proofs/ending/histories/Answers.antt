use Rattle.std.proofs.Common.{rules, ◌≡◌, ◌<◌, ◌≤◌, length, slice_index_or}
use Rattle.nego_node.specs.NodeValue.{IsNode}
use Rattle.pool_run.proofs.Lists.{all-further, all-whole}
use Rattle.pool_run.proofs.ending.histories.Goals as goal

pub loop-node-preserved : goal.loop-node-preserved
loop-node-preserved g c =
    let within : c.loop-node.node-index < length c.args.nodes.now = search rules in
    let is : c.node-item.result ≡ slice_index_or c.args.nodes.now c.loop-node.node-index c.node-item.result = search rules in
    all-further (λ n. IsNode g.F.Offer.Offer.tree (g.F.Field.around n.site) (g.F.Field.named n.site) n.state n.history)
    c.args.nodes.now c.loop-node.node-index c.node-item.result within is c.loop-node.invariant c.history-history.ensures.node

pub returns : goal.returns
returns g c =
    let end : length c.args.nodes.now ≤ c.loop-node.node-index = search rules in
    all-whole (λ n. IsNode g.F.Offer.Offer.tree (g.F.Field.around n.site) (g.F.Field.named n.site) n.state n.history)
    c.args.nodes.now c.loop-node.node-index end c.loop-node.invariant

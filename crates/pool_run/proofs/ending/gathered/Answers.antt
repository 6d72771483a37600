use Rattle.std.proofs.Common.{All, List, subst}
use Rattle.nego_node.specs.NodeValue.{NodeValue, IsNode}
use Rattle.pool_run.proofs.Gathered.{are-of-round}
use Rattle.pool_run.proofs.ending.gathered.Goals as goal

pub returns-clause-nodes : goal.returns-clause-nodes
returns-clause-nodes g c =
    are-of-round g.F.Offer.Offer.tree (g.F.Field.tree c.args._field.now) g.F.Field.around g.F.Field.named g.K.Key.tree c.requires.key
    c.args.root c.in_ok-nodes.nodes c.in_ok-nodes.ensures.states c.in_ok-nodes.ensures.tree
    (subst (λ (nodes : List (NodeValue _ _)). All (λ n. IsNode g.F.Offer.Offer.tree (g.F.Field.around n.site) (g.F.Field.named n.site) n.state n.history) nodes)
    c.as_slice.ensures c.histories.ensures)

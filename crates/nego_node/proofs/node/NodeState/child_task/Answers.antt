use Rattle.std.proofs.Common.{subst}
use Rattle.nego_node.specs.NodeValue.{NodeValue}
use Rattle.nego_node.specs.Sound.{Belongs}
use Rattle.nego_node.proofs.Conditions.{asked-mine}
use Rattle.nego_node.proofs.Steps.{asked-here}
use Rattle.nego_node.proofs.node.NodeState.child_task.Goals as goal

pub returns-in-Some-clause-belongs : goal.returns-in-Some-clause-belongs
returns-in-Some-clause-belongs g c =
    let mine = asked-mine _ _ _ c.args.side c.in-Some.asking.task c.self.invariant.node.keeps (asked-here c.self.inside c.args.side c.part.result.now c.in-Some.asking c.part.ensures c.in-Some.is) in
    subst (λ (v : NodeValue _ _). Belongs g.F.Offer.Offer.tree (g.F.Field.around v.site) c.in-Some.asking.task) c.self.view_is mine

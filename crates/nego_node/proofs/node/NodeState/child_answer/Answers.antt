use Rattle.std.proofs.Common.{◌∙◌, ap, sym, subst}
use Rattle.nego_node.specs.NodeValue.{NodeValue}
use Rattle.nego_node.specs.Machine.{half, answered_in}
use Rattle.nego_node.specs.Sound.{IsTrueAnswer}
use Rattle.nego_node.proofs.Conditions.{child-true}
use Rattle.nego_node.proofs.node.NodeState.child_answer.Goals as goal

pub returns-in-Some-clause-truth : goal.returns-in-Some-clause-truth
returns-in-Some-clause-truth g c =
    let posted = sym c.in-Some.ensures in
    let seen = ap (λ (v : NodeValue _ _). answered_in (half v.state c.args.side).slot) c.self.view_is ∙ posted in
    subst (λ (v : NodeValue _ _). IsTrueAnswer g.F.Offer.Offer.tree (g.F.Field.around v.site) c.in-Some.answer.now) c.self.view_is
    (child-true _ _ _ c.args.side c.in-Some.answer.now c.self.invariant.node.keeps seen)

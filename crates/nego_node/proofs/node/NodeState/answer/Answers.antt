use Rattle.std.proofs.Common.{◌≡◌, subst, Some}
use Rattle.nego_node.specs.NodeValue.{NodeValue}
use Rattle.nego_node.specs.Lawful.{task_of}
use Rattle.nego_node.specs.Sound.{Belongs, IsTrueAnswer}
use Rattle.nego_node.proofs.Conditions.{answer-held, answer-true, true-belongs}
use Rattle.nego_node.proofs.node.NodeState.answer.Goals as goal

pub returns-in-Some-clause-held : goal.returns-in-Some-clause-held
returns-in-Some-clause-held g c =
    subst (λ (v : NodeValue _ _). v.state.held ≡ Some (task_of c.in-Some.answer)) c.self.view_is
    (answer-held _ _ _ c.in-Some.answer c.self.invariant.node.keeps c.in-Some.is)

pub returns-in-Some-clause-truth : goal.returns-in-Some-clause-truth
returns-in-Some-clause-truth g c =
    subst (λ (v : NodeValue _ _). IsTrueAnswer g.F.Offer.Offer.tree (g.F.Field.around v.site) c.in-Some.answer) c.self.view_is
    (answer-true _ _ _ c.in-Some.answer c.self.invariant.node.keeps c.in-Some.is)

pub returns-in-Some-clause-belongs : goal.returns-in-Some-clause-belongs
returns-in-Some-clause-belongs g c =
    subst (λ (v : NodeValue _ _). Belongs g.F.Offer.Offer.tree (g.F.Field.around v.site) (task_of c.in-Some.answer)) c.self.view_is
    (true-belongs _ _ c.in-Some.answer (answer-true _ _ _ c.in-Some.answer c.self.invariant.node.keeps c.in-Some.is))

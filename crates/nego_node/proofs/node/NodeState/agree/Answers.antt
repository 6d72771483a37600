use Rattle.std.proofs.Common.{◌∙◌, ap, refl}
use Rattle.nego_node.specs.NodeValue.{NodeValue}
use Rattle.nego_node.specs.Machine.{after}
use Rattle.nego_node.specs.declared.events.Event.TheVariants.{Agreed}
use Rattle.nego_node.proofs.OneEvent.{agreed-state, agreed-kept}
use Rattle.nego_node.specs.Proposed.{Proposed}
use Rattle.nego_node.specs.declared.answers.Answer.TheVariants as answer
use Rattle.nego_node.proofs.Steps.{agrees}
use Rattle.nego_node.proofs.Conditions.{laws_around}
use Rattle.nego_node.proofs.node.NodeState.agree.Goals as goal

pub new-requires-after_bounds : goal.new-requires-after_bounds
new-requires-after_bounds g c κs within =
    let v = c.self.view_is in
    let lawful = rw (← v) at c.requires.lawful in
    let held = rw (← v) at c.requires.held in
    let tied = rw (← v) at c.requires.tree in
    rw c.requires.same (agrees _ _ (laws_around _ tied (g.met.F.Field.laws c.args._field.now)) _ c.args.task c.self.invariant.node.keeps held c.args.side _ c.args.offer lawful)

pub invariant_of-self : goal.invariant_of-self
invariant_of-self g c =
    let v = c.self.view_is in
    let lawful = rw (← v) at c.requires.lawful in
    let held = rw (← v) at c.requires.held in
    let tied = rw (← v) at c.requires.tree in
    let named = rw (← v) at c.side_generation-generation.ensures in
    agreed-kept _ _ _ c.self.inside c.put.new.self c.self.invariant c.args.side c.side_generation-generation.result c.args.task c.args.offer _
    (ap (λ (p : Proposed _). answer.Proposal p) (c.new.ensures ∙ rw c.requires.same refl)) held c.put.ensures.items (laws_around _ tied (g.met.F.Field.laws c.args._field.now)) (rw named lawful)

pub returns-clause-state : goal.returns-clause-state
returns-clause-state g c =
    let held = rw (← c.self.view_is) at c.requires.held in
    agreed-state _ _ _ c.self.inside c.put.new.self c.self.invariant c.args.side c.side_generation-generation.result c.args.task c.args.offer _
    (ap (λ (p : Proposed _). answer.Proposal p) (c.new.ensures ∙ rw c.requires.same refl)) held c.put.ensures.items
    ∙ ap (λ (v : NodeValue _ _). after (g.F.Field.around v.site) v.state (Agreed c.args.side c.side_generation-generation.result c.args.offer)) c.self.view_is

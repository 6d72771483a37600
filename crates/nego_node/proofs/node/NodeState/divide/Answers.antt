use Rattle.std.proofs.Common.{◌∙◌, ap}
use Rattle.nego_node.specs.NodeValue.{NodeValue}
use Rattle.nego_node.specs.Machine.{after}
use Rattle.nego_node.specs.declared.events.Event.TheVariants.{Split}
use Rattle.nego_node.proofs.OneEvent.{divided-state, divided-kept}
use Rattle.nego_node.proofs.Conditions.{laws_around}
use Rattle.nego_node.proofs.node.NodeState.divide.Goals as goal

pub invariant_of-self : goal.invariant_of-self
invariant_of-self g c =
    let v = c.self.view_is in
    let lawful = rw (← v) at c.requires.lawful in
    let tied = rw (← v) at c.requires.tree in
    divided-kept _ _ _ c.self.inside c.put.new.self c.self.invariant c.put.ensures.items (laws_around _ tied (g.met.F.Field.laws c.args._field.now)) lawful

pub returns-clause-state : goal.returns-clause-state
returns-clause-state g c =
    divided-state _ _ _ c.self.inside c.put.new.self c.self.invariant c.put.ensures.items
    ∙ ap (λ (v : NodeValue _ _). after (g.F.Field.around v.site) v.state Split) c.self.view_is

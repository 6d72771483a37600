use Rattle.std.proofs.Common.{◌∙◌, ap}
use Rattle.nego_node.specs.NodeValue.{NodeValue}
use Rattle.nego_node.specs.Machine.{after}
use Rattle.nego_node.specs.declared.events.Event.TheVariants.{Asked}
use Rattle.nego_node.proofs.OneEvent.{asked-state, asked-kept}
use Rattle.nego_node.proofs.Steps.{asking-same}
use Rattle.nego_node.proofs.Conditions.{laws_around}
use Rattle.nego_node.proofs.node.NodeState.ask.Goals as goal

pub invariant_of-self : goal.invariant_of-self
invariant_of-self g c =
    let v = c.self.view_is in
    let lawful = rw (← v) at c.requires.lawful in
    let tied = rw (← v) at c.requires.tree in
    let asked = rw (← v) at c.held_generation-asked.ensures in
    asked-kept _ _ _ c.self.inside c.put.new.self c.self.invariant c.args.side c.fill.new.self c.args.task _ (asking-same c.self.inside c.args.task c.args.same c.held_generation-asked.result c.is_some.result c.requires.same asked c.is_some.ensures) c.fill.ensures c.put.ensures.items (laws_around _ tied (g.met.F.Field.laws c.args._field.now)) lawful

pub returns-clause-state : goal.returns-clause-state
returns-clause-state g c =
    let v = c.self.view_is in
    let asked = rw (← v) at c.held_generation-asked.ensures in
    asked-state _ _ _ c.self.inside c.put.new.self c.self.invariant c.args.side c.fill.new.self c.args.task _ (asking-same c.self.inside c.args.task c.args.same c.held_generation-asked.result c.is_some.result c.requires.same asked c.is_some.ensures) c.fill.ensures c.put.ensures.items
    ∙ ap (λ (v : NodeValue _ _). after (g.F.Field.around v.site) v.state (Asked c.args.side c.args.task)) c.self.view_is

use Rattle.std.proofs.Common.{◌∙◌, ap}
use Rattle.nego_node.specs.NodeValue.{NodeValue}
use Rattle.nego_node.specs.Machine.{after}
use Rattle.nego_node.specs.declared.events.Event.TheVariants.{Forbidden}
use Rattle.nego_node.proofs.OneEvent.{forbidden-state, forbidden-kept}
use Rattle.nego_node.proofs.Conditions.{laws_around}
use Rattle.nego_node.proofs.node.NodeState.forbid.Goals as goal

pub invariant_of-self-2 : goal.invariant_of-self-2
invariant_of-self-2 g c =
    let v = c.self.view_is in
    let lawful = rw (← v) at c.requires.lawful in
    let tied = rw (← v) at c.requires.tree in
    let named = rw (← v) at c.side_generation-generation.ensures in
    forbidden-kept _ _ _ c.self.inside c.put.new.self c.self.invariant c.args.side c.forbid.new.self c.side_generation-generation.result c.args.offer c.args.same c.requires.same c.in_ok-forbid.ensures.ok c.put.ensures.items (laws_around _ tied (g.met.F.Field.laws c.args._field.now)) (rw named lawful)

pub returns-clause-state : goal.returns-clause-state
returns-clause-state g c =
    forbidden-state _ _ _ c.self.inside c.put.new.self c.self.invariant c.args.side c.forbid.new.self c.side_generation-generation.result c.args.offer c.args.same c.requires.same c.in_ok-forbid.ensures.ok c.put.ensures.items
    ∙ ap (λ (v : NodeValue _ _). after (g.F.Field.around v.site) v.state (Forbidden c.args.side c.side_generation-generation.result c.args.offer)) c.self.view_is

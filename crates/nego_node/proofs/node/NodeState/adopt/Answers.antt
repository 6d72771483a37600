use Rattle.std.proofs.Common.{◌∙◌, ap, sym}
use Rattle.nego_node.specs.NodeValue.{NodeValue}
use Rattle.nego_node.specs.Machine.{after}
use Rattle.nego_node.specs.declared.events.Event.TheVariants.{Adopted}
use Rattle.nego_node.proofs.OneEvent.{adopted-state, adopted-kept}
use Rattle.nego_node.proofs.Conditions.{laws_around}
use Rattle.nego_node.proofs.node.NodeState.adopt.Goals as goal

pub invariant_of-self : goal.invariant_of-self
invariant_of-self g c =
    let v = c.self.view_is in
    let lawful = rw (← v) at c.requires.lawful in
    let stays = rw (← v) at c.requires.stays in
    let tied = rw (← v) at c.requires.tree in
    let named = rw (← v) at c.side_generation-generation.ensures in
    adopted-kept _ _ _ c.self.inside c.put.new.self c.self.invariant c.args.side c.empty_other_unless.new.self c.side_generation-generation.result c.args.offer c.args.same c.args.stays c.requires.same (sym stays) c.empty_other_unless.ensures c.put.ensures.items (laws_around _ tied (g.met.F.Field.laws c.args._field.now)) (rw named lawful)

pub returns-clause-state : goal.returns-clause-state
returns-clause-state g c =
    let stays = rw (← c.self.view_is) at c.requires.stays in
    adopted-state _ _ _ c.self.inside c.put.new.self c.self.invariant c.args.side c.empty_other_unless.new.self c.side_generation-generation.result c.args.offer c.args.same c.args.stays c.requires.same (sym stays) c.empty_other_unless.ensures c.put.ensures.items
    ∙ ap (λ (v : NodeValue _ _). after (g.F.Field.around v.site) v.state (Adopted c.args.side c.side_generation-generation.result c.args.offer)) c.self.view_is

use Rattle.std.proofs.Common.{◌∙◌, ap}
use Rattle.nego_node.specs.NodeValue.{NodeValue}
use Rattle.nego_node.specs.Machine.{after}
use Rattle.nego_node.specs.declared.events.Event.TheVariants.{Posted}
use Rattle.nego_node.proofs.OneEvent.{posted-state, posted-kept}
use Rattle.nego_node.proofs.Conditions.{laws_around}
use Rattle.nego_node.proofs.node.NodeState.keep.Goals as goal

pub invariant_of-self : goal.invariant_of-self
invariant_of-self g c =
    let v = c.self.view_is in
    let lawful = rw (← v) at c.requires.lawful in
    let truth = rw (← v) at c.requires.truth in
    let tied = rw (← v) at c.requires.tree in
    posted-kept _ _ _ c.self.inside c.put.new.self c.self.invariant c.args.side c.mark.new.self c.args.answer c.len-place.result c.len-place.ensures.length c.mark.ensures c.put.ensures.items (laws_around _ tied (g.met.F.Field.laws c.args._field.now)) lawful truth

pub returns-clause-state : goal.returns-clause-state
returns-clause-state g c =
    posted-state _ _ _ c.self.inside c.put.new.self c.self.invariant c.args.side c.mark.new.self c.args.answer c.len-place.result c.len-place.ensures.length c.mark.ensures c.put.ensures.items
    ∙ ap (λ (v : NodeValue _ _). after (g.F.Field.around v.site) v.state (Posted c.args.side c.args.answer)) c.self.view_is

use Rattle.std.proofs.Common.{◌∙◌, sym}
use Rattle.nego_node.proofs.Moving.{refuse-at}
use Rattle.nego_node.proofs.node.NodeState.do_refuse.Goals as goal

pub refuse-requires-clause-lawful : goal.refuse-requires-clause-lawful
refuse-requires-clause-lawful g c κs within =
    let may = c.requires.lawful in
    refuse-at (g.F.Field.around c.args.self.now.site) _ c.in-Some.side _ may.0 may.1 (sym c.trial_side.ensures ∙ c.in-Some.is) c.other-side.ensures may.2

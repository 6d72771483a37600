use Rattle.std.proofs.Common.{◌∙◌, ap, sym, Some}
use Rattle.nego_node.proofs.Moving.{agree-at}
use Rattle.nego_node.proofs.node.NodeState.do_agree.Goals as goal

pub agree-requires-clause-lawful : goal.agree-requires-clause-lawful
agree-requires-clause-lawful g c κs within =
    let may = c.requires.lawful in
    agree-at _ _ c.in-Some.side _ may.0 may.1 may.2 _ (sym c.trial_side.ensures ∙ c.in-Some.is) c.other-side.ensures
    (sym c.in-Some-proposed.ensures.offer ∙ ap Some (sym c.in_ok-offer-in-Some-proposed.ensures)) may.3

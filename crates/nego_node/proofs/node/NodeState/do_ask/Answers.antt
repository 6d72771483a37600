use Rattle.std.proofs.Common.{◌∙◌, ap, sym, Some, refl}
use Rattle.nego_node.specs.declared.events.Event.TheVariants.{Asked}
use Rattle.nego_node.proofs.Moving.{ask-at}
use Rattle.nego_node.proofs.node.NodeState.do_ask.Goals as goal

pub returns-clause-did : goal.returns-clause-did
returns-clause-did g c =
    let may = c.requires.lawful in
    record {
      event = Asked c.args.side c.in_ok-task.task;
      is_of = (c.in_ok-task.task, refl);
      lawful = ask-at _ _ c.args.side c.in_ok-task.task c.get.result.now may.0 (c.in_ok-held.ensures ∙ ap Some (sym c.get.ensures)) (c.in_ok-task.ensures ∙ c.in_ok-task_for.ensures) may.1;
      state = c.ask.ensures.state;
      history = c.ask.ensures.history;
    }

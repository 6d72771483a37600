use Rattle.std.proofs.Common.{◌∙◌, ap, Some}
use Rattle.nego_node.proofs.Conditions.{may-post}
use Rattle.nego_node.proofs.node.NodeState.post.Goals as goal

pub keep-requires-clause-lawful : goal.keep-requires-clause-lawful
keep-requires-clause-lawful g c κs within =
    let asked = (c.is_asked.ensures).0 c.if-not-is_asked.false in
    may-post _ _ _ (asked ∙ ap Some (c.get-brought.ensures ∙ c.task.ensures.task)) c.if-has_answer.ensures

pub returns-clause-lawful : goal.returns-clause-lawful
returns-clause-lawful g c =
    let asked = (c.is_asked.ensures).0 c.if-not-is_asked.false in
    may-post _ _ _ (asked ∙ ap Some (c.get-brought.ensures ∙ c.task.ensures.task)) c.if-has_answer.ensures

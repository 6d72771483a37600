use Rattle.nego_plain.proofs.messages.next_step.Goals as goal

pub returns-clause-lawful : goal.returns-clause-lawful
returns-clause-lawful g c = λ differs. rw (← c.requires.tree) (c.next_move.ensures.lawful differs)

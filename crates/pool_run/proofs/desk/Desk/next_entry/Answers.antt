use Rattle.pool_run.proofs.Fairs.{pops, takes}
use Rattle.pool_run.proofs.desk.Desk.next_entry.Goals as goal

pub pop_as-requires-clause-fifo : goal.pop_as-requires-clause-fifo
pop_as-requires-clause-fifo g c = λ _. takes _ _

pub pop_as-requires-clause-lifo : goal.pop_as-requires-clause-lifo
pop_as-requires-clause-lifo g c = λ _. pops _ _

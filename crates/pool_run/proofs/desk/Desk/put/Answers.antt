use Rattle.pool_run.proofs.Fairs.{puts}
use Rattle.pool_run.proofs.desk.Desk.put.Goals as goal

pub push_as-requires-clause-pushes : goal.push_as-requires-clause-pushes
push_as-requires-clause-pushes g c = puts _ _ _

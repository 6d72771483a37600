use Rattle.pool_run.proofs.Fairs.{takes}
use Rattle.pool_run.proofs.desk.Thief.steal.Goals as goal

pub steal_as-requires-clause-takes : goal.steal_as-requires-clause-takes
steal_as-requires-clause-takes g c = takes _ _

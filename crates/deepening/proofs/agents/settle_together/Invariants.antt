use Rattle.std.proofs.Common.{Some}
use Rattle.deepening.proofs.agents.settle_together.Given as goal

abbrev pub ghosts-pool_of : goal.ghosts-pool_of
ghosts-pool_of g a = record { round = Some a.field.now.round }

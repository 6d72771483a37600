use Rattle.std.proofs.Common.{Some}
use Rattle.pool_run.proofs.tests.a_limit_of_one_is_spent.Given as goal

abbrev pub ghosts-settled : goal.ghosts-settled
ghosts-settled g a = record { sets = Some a.field.now.tree }

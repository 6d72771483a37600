use Rattle.pool_run.proofs.Fairs.{admits}
use Rattle.pool_run.proofs.desk.Thief.of.Goals as goal

pub pass-pass-requires : goal.pass-pass-requires
pass-pass-requires g c = admits

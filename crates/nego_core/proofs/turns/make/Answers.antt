use Rattle.std.proofs.Common.{rules}
use Rattle.nego_core.proofs.Turning.{try-lawful}
use Rattle.nego_core.proofs.turns.make.Goals as goal

pub tried-requires-clause-lawful : goal.tried-requires-clause-lawful
tried-requires-clause-lawful g c κs within = try-lawful _ _ c.args.step (search rules) (search rules)

use Rattle.translation.proofs.Sound.{is_sound}
use Rattle.translation.proofs.law.refutes.Goals as goal

pub returns : goal.returns
returns c = is_sound

use Rattle.translation.proofs.Sound.{is_textual}
use Rattle.translation.proofs.law.spells.Goals as goal

pub returns : goal.returns
returns c = is_textual

use Rattle.translation.proofs.OneTree.{have_translations}
use Rattle.translation.proofs.law.one_translation.Goals as goal

pub returns : goal.returns
returns c = have_translations

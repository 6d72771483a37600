use Rattle.gs3_text.proofs.Texts.{one_tree}
use Rattle.gs3_text.proofs.law.one_tree.Goals as goal

pub returns : goal.returns
returns c = λ functions bytes s t symbols. one_tree functions symbols bytes s t

use Rattle.std.proofs.Common.{arith}
use Rattle.goeland_words.proofs.Schedules.{not_split}
use Rattle.goeland_words.proofs.values.at_comma.Goals as goal

pub returns-clause-none : goal.returns-clause-none
returns-clause-none c = not_split _ c.args.text.now c.split_once.result (c.split_once.ensures.byte (omega arith) (λ w o finds. finds))

use Rattle.std.proofs.Common.{arith}
use Rattle.fof_parse.proofs.Means.{no_truth}
use Rattle.fof_parse.proofs.atom.truth.Goals as goal

pub returns-then-len-gt0 : goal.returns-then-len-gt0
returns-then-len-gt0 c = no_truth c.args.word.now c.args.arguments.now (omega (arith, c.if-len-gt0.true, c.len.ensures))

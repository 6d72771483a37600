use Rattle.std.proofs.Common.{arith}
use Rattle.fof_parse.proofs.Raws.{raws_count}
use Rattle.fof_parse.proofs.build.arity.Goals as goal

pub returns-in-Ok : goal.returns-in-Ok
returns-in-Ok c = omega (arith, c.in-Ok.ensures, c.len.ensures, raws_count c.args.terms.now)

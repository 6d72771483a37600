use Rattle.std.proofs.Common.{◌-◌, arith}
use Rattle.std.proofs.lemmas.Grind.{common_steps}
use Rattle.gl_outside.proofs.memory.MemorySinkSink.put.Goals as goal

pub returns-clause-err : goal.returns-clause-err
returns-clause-err c = (c.self.inside.room - c.len.result, omega arith, grind (arith, common_steps))

use Rattle.std.proofs.Common.{arith}
use Rattle.free_terms.proofs.Matched.{one_unused}
use Rattle.free_terms.proofs.matching.none_given.Goals as goal

pub loop-i-preserved : goal.loop-i-preserved
loop-i-preserved c = one_unused c.loop-i.out c.push.new.self c.loop-i._i _ c.loop-i.invariant c.in_ok-push.ensures.ok (omega arith)

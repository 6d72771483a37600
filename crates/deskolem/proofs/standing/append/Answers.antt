use Rattle.std.proofs.Common.{rules}
use Rattle.deskolem.proofs.Runs.{run_next}
use Rattle.deskolem.proofs.standing.append.Goals as goal

pub loop-i-preserved : goal.loop-i-preserved
loop-i-preserved c = (
  run_next c.args.walk.now.places.items c.args.walk.now.len c.loop-i.i c.loop-i.walk.places.items c.stand.new.walk.places.items c.loop-i.invariant.0 c.in_ok-stand.ensures.places,
  search rules,
  search rules,
  search rules,
)

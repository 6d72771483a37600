use Rattle.nego_core.proofs.Scheduling.{at-first, next-one, at-last}
use Rattle.nego_core.proofs.schedule.scheduled_picks.Goals as goal

pub loop-turn-init : goal.loop-turn-init
loop-turn-init c = at-first c.args.seed c.args.turns _ _ c.new-picks.ensures c.new-generator.ensures

pub loop-turn-preserved : goal.loop-turn-preserved
loop-turn-preserved c =
    next-one _ c.loop-turn.picks _ c.next_pick.result c.loop-turn.generator _ c.args.turns c.loop-turn._turn c.loop-turn-test.true c.in_ok-push.ensures.ok c.next_pick.ensures c.loop-turn.invariant

pub returns : goal.returns
returns c = at-last _ c.loop-turn.picks c.loop-turn.generator c.args.turns c.loop-turn._turn c.loop-turn-test.false c.loop-turn.invariant

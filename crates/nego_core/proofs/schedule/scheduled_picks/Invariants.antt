use Rattle.std.proofs.Common.{◌≡◌, ◌++◌, ◌-◌}
use Rattle.nego_core.specs.Schedule.{picks_from, scheduled}
use Rattle.nego_core.proofs.schedule.scheduled_picks.Given as goal

abbrev pub invariant-loop-turn : goal.invariant-loop-turn
invariant-loop-turn l = l.picks ++ picks_from l.generator (l.fn.turns - l._turn) ≡ scheduled l.fn.seed l.fn.turns

use Rattle.open_walk.proofs.Waiting.{Goes}
use Rattle.open_walk.proofs.walking.report_open.Given as goal

abbrev pub invariant-loop-visits : goal.invariant-loop-visits
invariant-loop-visits l = Goes l.round l.waiting l._visits

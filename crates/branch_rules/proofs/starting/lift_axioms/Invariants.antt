use Rattle.branch_rules.proofs.Lifting.{AreLifted}
use Rattle.branch_rules.proofs.starting.lift_axioms.Given as goal

abbrev pub invariant-loop-i : goal.invariant-loop-i
invariant-loop-i l = AreLifted l.axioms l.i l.out

use Rattle.rewrite_rules.proofs.Marks.{Kept}
use Rattle.rewrite_rules.proofs.making.rules_of_axioms.Given as goal

abbrev pub invariant-loop-i : goal.invariant-loop-i
invariant-loop-i l = Kept l.axioms l.i l.items l.marks

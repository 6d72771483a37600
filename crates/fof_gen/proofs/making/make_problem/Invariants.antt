use Rattle.std.proofs.Common.{◌≡◌}
use Rattle.fof_gen.proofs.Lines.{begun}
use Rattle.fof_gen.proofs.making.make_problem.Given as goal

abbrev pub invariant-loop-i : goal.invariant-loop-i
invariant-loop-i l = l.out.items ≡ begun l.i

use Rattle.std.proofs.Common.{◌≡◌, false}
use Rattle.branch_rules.specs.BranchView.{branch_in, born_in, IsAgenda}
use Rattle.branch_rules.proofs.queue.join.Given as goal

abbrev pub invariant-loop-i : goal.invariant-loop-i
invariant-loop-i l = record {
  agenda : IsAgenda (branch_in l.lists) l.agenda (born_in l.lists) l.turns.items;
  at : l.agenda.universal ≡ l.i;
  depth : l.agenda.depth ≡ l.initial.agenda.depth;
  growing : l.turns.sealed ≡ false;
}

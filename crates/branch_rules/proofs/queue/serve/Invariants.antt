use Rattle.std.proofs.Common.{◌≡◌}
use Rattle.branch_rules.specs.BranchView.{branch_in, born_in, IsAgenda}
use Rattle.branch_rules.proofs.queue.serve.Given as goal

abbrev pub invariant-loop-n : goal.invariant-loop-n
invariant-loop-n l = record {
  agenda : IsAgenda (branch_in l.lists) l.agenda (born_in l.lists) l.turns.items;
  at : l.agenda.turn ≡ l.n;
  depth : l.agenda.depth ≡ l.depth;
  universal : l.agenda.universal ≡ l.initial.agenda.universal;
}

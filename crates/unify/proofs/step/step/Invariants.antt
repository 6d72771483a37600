use Rattle.unify.specs.Memo.{Remembers}
use Rattle.unify.specs.View.{offer_of}
use Rattle.unify.specs.Work.{load, pairs_of, Reduces}
use Rattle.unify.proofs.step.step.Given as goal

abbrev pub invariant-loop-pair : goal.invariant-loop-pair
invariant-loop-pair l = record {
  reduces : Reduces (offer_of l.s) (pairs_of l.initial.work.items) (pairs_of l.work.items);
  memo : Remembers (offer_of l.s) (pairs_of l.work.items) l.memo;
}

abbrev pub decreases-loop-pair : goal.decreases-loop-pair
decreases-loop-pair l = load (offer_of l.s) (pairs_of l.work.items)

use Rattle.std.proofs.Common.{◌≤◌}
use Rattle.free_terms.specs.View.{terms_of}
use Rattle.unify.specs.Memo.{Remembers}
use Rattle.unify.specs.Nesting.{nesting_of, most_nested}
use Rattle.unify.specs.View.{offer_of}
use Rattle.unify.specs.Work.{pairs_of, zipped}
use Rattle.unify.proofs.Partial.{IsPartial, unbound}
use Rattle.unify.proofs.unification.unify.Given as goal

abbrev pub invariant-loop-s : goal.invariant-loop-s
invariant-loop-s l = record {
  partial : IsPartial (offer_of l.given) (zipped (terms_of l.a) (terms_of l.b)) (offer_of l.s) (pairs_of l.work.items);
  memo : Remembers (offer_of l.s) (pairs_of l.work.items) l.memo;
  nested : nesting_of (offer_of l.s) ≤ most_nested;
}

abbrev pub decreases-loop-s : goal.decreases-loop-s
decreases-loop-s l = unbound (offer_of l.given) (zipped (terms_of l.a) (terms_of l.b)) (offer_of l.s)

use Rattle.std.proofs.Common.{◌↔◌, suc, ◌+◌, ◌*◌, drop}
use denote.Param.Weighed.{most}
use Rattle.free_terms.specs.View.{name_of, terms_of}
use Rattle.free_terms.specs.declared.term.FTerm.{size-FTerm}
use Rattle.unify.specs.Occurs.{AllSettledInSome, StandsInNone}
use Rattle.unify.specs.Offers.{OccursInSome, resolved_all}
use Rattle.unify.specs.View.{offer_of}
use Rattle.unify.specs.Weight.{weight}
use Rattle.unify.proofs.follow.+occurs.Given as goal

-- the bindings that may still be followed count most, and then the size of the term
abbrev pub decreases-occurs_in : goal.decreases-occurs_in
decreases-occurs_in l = l.m * (2 * suc (weight l.s.now)) + (2 * size-FTerm l.t.now + 1)

abbrev pub decreases-occurs_in_value : goal.decreases-occurs_in_value
decreases-occurs_in_value l = l.m * (2 * suc (weight l.s.now))

abbrev pub decreases-occurs_in_some : goal.decreases-occurs_in_some
decreases-occurs_in_some l = l.m * (2 * suc (weight l.s.now)) + (2 * most size-FTerm l.us.now + 2)

abbrev pub invariant-occurs_in_some-loop-u : goal.invariant-occurs_in_some-loop-u
invariant-occurs_in_some-loop-u l = record {
  settled : AllSettledInSome l.m (offer_of l.s) (terms_of (drop l.u-index l.u-items));
  done : StandsInNone (offer_of l.s) (name_of l.x) l.done;
  found :
      OccursInSome (name_of l.x) (resolved_all (offer_of l.s) (terms_of (drop l.u-index l.u-items)))
      ↔ OccursInSome (name_of l.x) (resolved_all (offer_of l.s) (terms_of l.u-items));
}

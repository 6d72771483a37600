use Rattle.std.proofs.Common.{suc, ◌+◌, ◌*◌, drop}
use denote.Param.Weighed.{most}
use Rattle.free_terms.specs.View.{terms_of}
use Rattle.free_terms.specs.declared.term.FTerm.{size-FTerm}
use Rattle.unify.specs.Measure.{AreMeasured}
use Rattle.unify.specs.Occurs.{AllSettledInSome}
use Rattle.unify.specs.View.{offer_of}
use Rattle.unify.specs.Weight.{weight}
use Rattle.unify.proofs.Extents.{MakesUp}
use Rattle.unify.proofs.measuring.+measure.Given as goal

-- the bindings that may still be followed count most, and then the size of the term
abbrev pub decreases-measure_term : goal.decreases-measure_term
decreases-measure_term l = l.m * (2 * suc (weight l.s.now)) + (2 * size-FTerm l.t.now + 1)

abbrev pub decreases-measure_value : goal.decreases-measure_value
decreases-measure_value l = l.m * (2 * suc (weight l.s.now))

abbrev pub decreases-measure_arguments : goal.decreases-measure_arguments
decreases-measure_arguments l = l.m * (2 * suc (weight l.s.now)) + (2 * most size-FTerm l.us.now + 2)

abbrev pub invariant-measure_arguments-loop-u : goal.invariant-measure_arguments-loop-u
invariant-measure_arguments-loop-u l = record {
  settled : AllSettledInSome l.m (offer_of l.s) (terms_of (drop l.u-index l.u-items));
  done : AreMeasured (offer_of l.s) l.lengths l.most l.done;
  extent : MakesUp (offer_of l.s) l.lengths l.most l.all (terms_of (drop l.u-index l.u-items)) (terms_of l.u-items);
}

use Rattle.std.proofs.Common.{◌≡◌, suc, ◌+◌, ◌*◌, take, map}
use denote.Param.Weighed.{most}
use Rattle.unify.specs.Offers.{substitute, value_within}
use Rattle.free_terms.specs.View.{term_of}
use Rattle.unify.specs.View.{offer_of}
use Rattle.unify.specs.Weight.{weight}
use Rattle.free_terms.specs.declared.term.FTerm.{size-FTerm}
use Rattle.unify.proofs.applying.+resolve.Given as goal

-- the bindings that may still be followed count most, and then the size of the term
abbrev pub decreases-resolved_within : goal.decreases-resolved_within
decreases-resolved_within l = l.m * (2 * suc (weight l.s.now)) + (2 * size-FTerm l.term.now + 1)

abbrev pub decreases-metavar_within : goal.decreases-metavar_within
decreases-metavar_within l = l.m * (2 * suc (weight l.s.now))

abbrev pub decreases-all_within : goal.decreases-all_within
decreases-all_within l = l.m * (2 * suc (weight l.s.now)) + (2 * most size-FTerm l.us.now + 2)

abbrev pub invariant-all_within-loop-u : goal.invariant-all_within-loop-u
invariant-all_within-loop-u l =
    map term_of l.out ≡ map (λ u. substitute (value_within l.m (offer_of l.s)) (term_of u)) (take l.u-index l.u-items)

use Rattle.std.proofs.Common.{◌≡◌, suc, ◌*◌, take, map}
use Rattle.fol_core.specs.View.{term_of}
use Rattle.free_terms.specs.View as free
use Rattle.unify.specs.Offers.{resolved, resolved_all}
use Rattle.unify.specs.View.{offer_of}
use Rattle.unify.specs.Work.{size, size_all}
use Rattle.translation.specs.Translation.{term_under}
use Rattle.deskolem.specs.Numbers.{AreValues}
use Rattle.deskolem.specs.View.{names_of}
use Rattle.deskolem.proofs.value.+grounded.Given as goal

-- the size of the term with all bindings applied
abbrev pub decreases-grounded : goal.decreases-grounded
decreases-grounded l = suc (3 * size (resolved (offer_of l.s.now) (free.term_of l.t.now)))

abbrev pub decreases-value : goal.decreases-value
decreases-value l = 3 * size (resolved (offer_of l.s.now) (free.term_of l.t.now))

abbrev pub decreases-all_grounded : goal.decreases-all_grounded
decreases-all_grounded l = suc (suc (3 * size_all (resolved_all (offer_of l.s.now) (free.terms_of l.us.now))))

abbrev pub invariant-all_grounded-loop-u : goal.invariant-all_grounded-loop-u
invariant-all_grounded-loop-u l =
    (map term_of l.out ≡ map (λ u. term_under (offer_of l.s) (names_of l.names) (free.term_of u)) (take l.u-index l.u-items))
    × AreValues (offer_of l.s) (names_of l.names) l.done

use Rattle.free_terms.specs.View.{term_of}
use Rattle.unify.specs.View.{offer_of}
use Rattle.unify.proofs.Heads.{Followed}
use Rattle.unify.proofs.follow.head.Given as goal

abbrev pub invariant-loop-at : goal.invariant-loop-at
invariant-loop-at l = Followed (offer_of l.s) (term_of l.t) (term_of l.at) l.left

abbrev pub decreases-loop-at : goal.decreases-loop-at
decreases-loop-at l = l.left

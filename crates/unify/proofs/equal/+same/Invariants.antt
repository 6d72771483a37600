use Rattle.std.proofs.Common.{◌≡◌, ◌≤◌, ◌↔◌, ◌+◌, ◌*◌, drop}
use Rattle.free_terms.specs.View.{term_of, terms_of}
use Rattle.unify.specs.Offers.{resolved, resolved_all}
use Rattle.unify.specs.View.{offer_of}
use Rattle.unify.specs.Work.{size, size_all}
use Rattle.unify.proofs.equal.+same.Given as goal

-- how large the first side is with the bindings applied
abbrev pub decreases-makes_one : goal.decreases-makes_one
decreases-makes_one l = 2 * size (resolved (offer_of l.s.now) (term_of l.a.now))

abbrev pub decreases-makes_all_one : goal.decreases-makes_all_one
decreases-makes_all_one l = 2 * size_all (resolved_all (offer_of l.s.now) (terms_of l.us.now)) + 1

abbrev pub invariant-makes_all_one-loop-i : goal.invariant-makes_all_one-loop-i
invariant-makes_all_one-loop-i l = record {
  less : size_all (resolved_all (offer_of l.s) (terms_of (drop l.i l.us))) ≤ size_all (resolved_all (offer_of l.s) (terms_of l.us));
  same :
      (resolved_all (offer_of l.s) (terms_of (drop l.i l.us)) ≡ resolved_all (offer_of l.s) (terms_of (drop l.i l.vs)))
      ↔ (resolved_all (offer_of l.s) (terms_of l.us) ≡ resolved_all (offer_of l.s) (terms_of l.vs));
}

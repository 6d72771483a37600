use Rattle.std.proofs.Common.{◌≤◌, sym, subst}
use Rattle.free_terms.specs.View.{term_of}
use Rattle.unify.specs.Nesting.{nesting_of, most_nested}
use Rattle.unify.specs.Offers.{IsOffer}
use Rattle.unify.specs.View.{offer_of}
use Rattle.unify.proofs.Depths.{if_resolved}
use Rattle.unify.proofs.applying.resolve.Goals as goal

pub returns-clause-nested : goal.returns-clause-nested
returns-clause-nested c =
    if_resolved c.resolved_within.result c.bindings-s.result.now (term_of c.args.t.now) c.len.result
    (subst (λ s. IsOffer (offer_of s)) (sym c.bindings-s.ensures.list) c.bindings-s.ensures.offer)
    (subst (λ s. nesting_of (offer_of s) ≤ most_nested) (sym c.bindings-s.ensures.list) c.bindings-s.ensures.nested)
    c.len.ensures c.resolved_within.ensures

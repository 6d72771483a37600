use Rattle.std.proofs.Common.{sym, ◌∙◌, subst}
use Rattle.std.proofs.lemmas.List.{length-map}
use Rattle.free_terms.specs.View.{term_of}
use Rattle.unify.specs.Occurs.{AllSettled}
use Rattle.unify.specs.Offers.{IsOffer}
use Rattle.unify.specs.View.{binding_of, offer_of}
use Rattle.unify.proofs.Occurs.{start_settled}
use Rattle.unify.proofs.measuring.measure.Goals as goal

pub measure_term-requires-clause-settled : goal.measure_term-requires-clause-settled
measure_term-requires-clause-settled c =
    subst (λ m. AllSettled m (offer_of c.bindings-s.result.now) (term_of c.args.t.now)) (length-map c.bindings-s.result.now binding_of ∙ sym c.len.ensures)
    (start_settled (offer_of c.bindings-s.result.now) (term_of c.args.t.now) (subst (λ s. IsOffer (offer_of s)) (sym c.bindings-s.ensures.list) c.bindings-s.ensures.offer))

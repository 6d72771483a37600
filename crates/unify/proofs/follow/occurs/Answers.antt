use Rattle.std.proofs.Common.{sym, ◌∙◌, subst}
use Rattle.std.proofs.lemmas.List.{length-map}
use Rattle.free_terms.specs.View.{term_of}
use Rattle.unify.specs.Occurs.{AllSettled}
use Rattle.unify.specs.View.{binding_of, offer_of}
use Rattle.unify.proofs.Occurs.{start_settled}
use Rattle.unify.proofs.follow.occurs.Goals as goal

pub occurs_in-requires-clause-settled : goal.occurs_in-requires-clause-settled
occurs_in-requires-clause-settled c =
    subst (λ m. AllSettled m (offer_of c.args.s.now) (term_of c.args.t.now)) (length-map c.args.s.now binding_of ∙ sym c.len.ensures)
    (start_settled (offer_of c.args.s.now) (term_of c.args.t.now) c.requires)

use Rattle.std.proofs.Common.{◌≡◌, IfOk, arith, ap, sym, ◌∙◌, subst}
use Rattle.std.proofs.lemmas.Grind.{common_steps}
use Rattle.free_terms.specs.Free as free
use Rattle.free_terms.specs.View.{term_of, name_of}
use Rattle.unify.specs.View.{offer_of}
use Rattle.free_terms.proofs.Trees.{term_of_meta}
use Rattle.unify.proofs.Resolved.{followed, substitute_all_of, unbound, shared_is}
use Rattle.unify.proofs.applying.+resolve.Goals as goal

pub all_within-returns : goal.all_within-returns
all_within-returns t c =
    shared_is c.shared.result _ _ c.shared.ensures (ap free.terms_of_list (grind (arith, common_steps)) ∙ sym (substitute_all_of _ c.args.us.now))

pub metavar_within-returns-in-Some : goal.metavar_within-returns-in-Some
metavar_within-returns-in-Some t c =
    let P : free.FreeTerm → Type 0 = λ z. IfOk c.resolved_within.result (λ r. term_of r ≡ z) in
    subst P (sym (followed c.args.m (offer_of c.args.s.now) (name_of c.args.x.now) (term_of c.in-Some.v.now) (omega arith) (sym c.in-Some.ensures.value)))
    c.resolved_within.ensures

pub metavar_within-returns-in-None : goal.metavar_within-returns-in-None
metavar_within-returns-in-None t c =
    term_of_meta c.args.x.now ∙ sym (unbound c.args.m (offer_of c.args.s.now) (name_of c.args.x.now) (sym c.in-None.ensures.value))

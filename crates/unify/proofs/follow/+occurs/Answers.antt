use Rattle.std.proofs.Common.{sym, ◌∙◌, arith}
use Rattle.std.proofs.lemmas.Bool.{false≢true}
use Rattle.free_terms.specs.View.{name_of, term_of}
use Rattle.free_terms.specs.declared.term.FTerm.{size-FTerm}
use Rattle.unify.specs.View.{offer_of}
use Rattle.unify.specs.Weight.{weight}
use Rattle.unify.proofs.Occurs.{done_with, found_in_value, settled_more, settled_next, follows_less}
use Rattle.unify.proofs.follow.+occurs.Goals as goal

pub occurs_in_value-returns-then-is_noted-clause-found : goal.occurs_in_value-returns-then-is_noted-clause-found
occurs_in_value-returns-then-is_noted-clause-found t c = (
  λ e. absurd (false≢true e),
  λ o. absurd (c.requires.done c.args.y.now (sym c.is_noted.ensures ∙ c.if-is_noted.true) o),
)

pub occurs_in_value-occurs_in-requires : goal.occurs_in_value-occurs_in-requires
occurs_in_value-occurs_in-requires t c = (
  omega (
    arith,
    follows_less c.args.m (size-FTerm c.in-Some.v.now) (weight c.args.s.now)
        (settled_more (offer_of c.args.s.now) (name_of c.args.y.now) (term_of c.in-Some.v.now) c.args.m c.requires.settled (sym c.in-Some.ensures.value))
        c.in-Some.ensures.bounded,
    c.decreases,
  ),
  (c.requires.offer, (settled_next (offer_of c.args.s.now) (name_of c.args.y.now) (term_of c.in-Some.v.now) c.args.m c.requires.settled (sym c.in-Some.ensures.value), c.requires.done)),
)

pub occurs_in_value-returns-in_ok-note-in-Some-clause-found : goal.occurs_in_value-returns-in_ok-note-in-Some-clause-found
occurs_in_value-returns-in_ok-note-in-Some-clause-found t c =
    found_in_value (offer_of c.args.s.now) (name_of c.args.x.now) (name_of c.args.y.now) (term_of c.in-Some.v.now) c.in_ok-found-in-Some.found
    c.requires.offer (sym c.in-Some.ensures.value) c.in_ok-found-in-Some.ensures.found

pub occurs_in_value-returns-in_ok-note-in-Some-clause-done : goal.occurs_in_value-returns-in_ok-note-in-Some-clause-done
occurs_in_value-returns-in_ok-note-in-Some-clause-done t c =
    let told = found_in_value (offer_of c.args.s.now) (name_of c.args.x.now) (name_of c.args.y.now) (term_of c.in-Some.v.now) c.in_ok-found-in-Some.found
    c.requires.offer (sym c.in-Some.ensures.value) c.in_ok-found-in-Some.ensures.found in
    done_with (offer_of c.args.s.now) (name_of c.args.x.now) c.occurs_in.new.done c.note.new.done c.args.y.now c.in_ok-found-in-Some.ensures.done
    (λ o. false≢true (sym c.if-not-found.true ∙ told.1 o)) c.in_ok-note-in-Some.ensures

pub occurs_in_value-returns-else-not-found-clause-found : goal.occurs_in_value-returns-else-not-found-clause-found
occurs_in_value-returns-else-not-found-clause-found t c =
    found_in_value (offer_of c.args.s.now) (name_of c.args.x.now) (name_of c.args.y.now) (term_of c.in-Some.v.now) c.in_ok-found-in-Some.found
    c.requires.offer (sym c.in-Some.ensures.value) c.in_ok-found-in-Some.ensures.found

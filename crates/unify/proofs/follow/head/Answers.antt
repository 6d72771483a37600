use Rattle.std.proofs.Common.{◌<◌, ap, sym, ◌∙◌, subst, arith}
use Rattle.std.proofs.lemmas.List.{length-map}
use Rattle.free_terms.specs.View.{name_of, term_of}
use Rattle.free_terms.proofs.Trees.{term_of_meta}
use Rattle.unify.specs.View.{binding_of, offer_of}
use Rattle.unify.proofs.Heads.{Followed, followed_start, followed_more, followed_next}
use Rattle.unify.proofs.follow.head.Goals as goal

pub loop-at-init : goal.loop-at-init
loop-at-init c =
    subst (Followed (offer_of c.args.s.now) (term_of c.args.t.now) (term_of c.args.t.now)) (length-map c.args.s.now binding_of ∙ sym c.len-left.ensures)
    (followed_start (offer_of c.args.s.now) (term_of c.args.t.now) c.requires)

pub overflow_sub-left : goal.overflow_sub-left
overflow_sub-left c =
    let f = subst (λ z. Followed (offer_of c.args.s.now) (term_of c.args.t.now) z c.loop-at.left) (ap term_of c.in-Meta.is ∙ term_of_meta c.in-Meta.x) c.loop-at.invariant in
    followed_more _ _ (name_of c.in-Meta.x) _ c.loop-at.left f (sym c.in-Some.ensures.value)

pub loop-at-smaller : goal.loop-at-smaller
loop-at-smaller c =
    let f = subst (λ z. Followed (offer_of c.args.s.now) (term_of c.args.t.now) z c.loop-at.left) (ap term_of c.in-Meta.is ∙ term_of_meta c.in-Meta.x) c.loop-at.invariant in
    let some : 0 < c.loop-at.left = followed_more _ _ (name_of c.in-Meta.x) _ c.loop-at.left f (sym c.in-Some.ensures.value) in
    omega (arith, some)

pub loop-at-preserved : goal.loop-at-preserved
loop-at-preserved c =
    let f = subst (λ z. Followed (offer_of c.args.s.now) (term_of c.args.t.now) z c.loop-at.left) (ap term_of c.in-Meta.is ∙ term_of_meta c.in-Meta.x) c.loop-at.invariant in
    followed_next _ _ (name_of c.in-Meta.x) _ c.loop-at.left c.requires f (sym c.in-Some.ensures.value)

use Rattle.free_terms.specs.View.{name_of, term_of, terms_of}
use Rattle.lit_index.specs.Apart.{Clash, AreApart, variable, skolem_symbol, function_symbol}
use Rattle.std.proofs.Common.{◌≡◌, ◌<◌, ◌+◌, List, length, drop, inl, inr, refl, ap, sym, subst, ◌∙◌, arith}
use Rattle.std.proofs.lemmas.Bool.{false≢true}
use Rattle.free_terms.specs.declared.term.FTerm.{FTerm}
use Rattle.unify.proofs.Injective.{name_is}
use Rattle.lit_index.proofs.Clashes.{bound_has, meta_has, skolem_has, app_has, skolem_arguments, app_arguments, differ, open_left, open_right, same_symbol, variables, name_differs, step_apart}
use Rattle.lit_index.proofs.positions.+clash.Goals as goal

pub clash-returns-in-Bound-b : goal.clash-returns-in-Bound-b
clash-returns-in-Bound-b t c =
    variables (term_of c.args.a.now) (term_of c.args.b.now) c.in-Bound.i c.in-Bound-b.j (bound_has c.args.a.now c.in-Bound.i c.in-Bound.is)
    (bound_has c.args.b.now c.in-Bound-b.j c.in-Bound-b.is)

pub clash-returns-in-Meta : goal.clash-returns-in-Meta
clash-returns-in-Meta t c = open_left (term_of c.args.a.now) (term_of c.args.b.now) (meta_has c.args.a.now c.in-Meta.field-0 c.in-Meta.is)

pub clash-returns-in-Meta-b : goal.clash-returns-in-Meta-b
clash-returns-in-Meta-b t c = open_right (term_of c.args.a.now) (term_of c.args.b.now) (meta_has c.args.b.now c.in-Meta-b.field-0 c.in-Meta-b.is)

pub clash-returns-in-Skolem-b : goal.clash-returns-in-Skolem-b
clash-returns-in-Skolem-b t c =
    differ (term_of c.args.a.now) (term_of c.args.b.now) (variable c.in-Bound.i) (skolem_symbol (name_of c.in-Skolem-b.field-0))
    (bound_has c.args.a.now c.in-Bound.i c.in-Bound.is) (skolem_has c.args.b.now c.in-Skolem-b.field-0 c.in-Skolem-b.field-1 c.in-Skolem-b.is) (λ e. cc)

pub clash-returns-in-App-b : goal.clash-returns-in-App-b
clash-returns-in-App-b t c =
    differ (term_of c.args.a.now) (term_of c.args.b.now) (variable c.in-Bound.i) (function_symbol c.in-App-b.field-0)
    (bound_has c.args.a.now c.in-Bound.i c.in-Bound.is) (app_has c.args.b.now c.in-App-b.field-0 c.in-App-b.field-1 c.in-App-b.is) (λ e. cc)

pub clash-returns-in-Bound-b-2 : goal.clash-returns-in-Bound-b-2
clash-returns-in-Bound-b-2 t c =
    differ (term_of c.args.a.now) (term_of c.args.b.now) (skolem_symbol (name_of c.in-Skolem.x)) (variable c.in-Bound-b-2.field-0)
    (skolem_has c.args.a.now c.in-Skolem.x c.in-Skolem.us c.in-Skolem.is) (bound_has c.args.b.now c.in-Bound-b-2.field-0 c.in-Bound-b-2.is) (λ e. cc)

pub clash-returns-in-Meta-b-2 : goal.clash-returns-in-Meta-b-2
clash-returns-in-Meta-b-2 t c = open_right (term_of c.args.a.now) (term_of c.args.b.now) (meta_has c.args.b.now c.in-Meta-b-2.field-0 c.in-Meta-b-2.is)

pub clash-returns-then-eq : goal.clash-returns-then-eq
clash-returns-then-eq t c =
    same_symbol (term_of c.args.a.now) (term_of c.args.b.now) (skolem_symbol (name_of c.in-Skolem.x)) (skolem_symbol (name_of c.in-Skolem-b-2.y))
    (terms_of c.in-Skolem.us) (terms_of c.in-Skolem-b-2.vs) c.some_clash.result
    (skolem_has c.args.a.now c.in-Skolem.x c.in-Skolem.us c.in-Skolem.is) (skolem_has c.args.b.now c.in-Skolem-b-2.y c.in-Skolem-b-2.vs c.in-Skolem-b-2.is)
    (ap (λ x. skolem_symbol (name_of x)) (name_is c.in-Skolem.x c.in-Skolem-b-2.y (sym c.eq.ensures ∙ c.if-eq.true)))
    (skolem_arguments c.args.a.now c.in-Skolem.x c.in-Skolem.us c.in-Skolem.is) (skolem_arguments c.args.b.now c.in-Skolem-b-2.y c.in-Skolem-b-2.vs c.in-Skolem-b-2.is)
    c.some_clash.ensures

pub clash-returns-else-eq : goal.clash-returns-else-eq
clash-returns-else-eq t c =
    differ (term_of c.args.a.now) (term_of c.args.b.now) (skolem_symbol (name_of c.in-Skolem.x)) (skolem_symbol (name_of c.in-Skolem-b-2.y))
    (skolem_has c.args.a.now c.in-Skolem.x c.in-Skolem.us c.in-Skolem.is) (skolem_has c.args.b.now c.in-Skolem-b-2.y c.in-Skolem-b-2.vs c.in-Skolem-b-2.is)
    (name_differs c.in-Skolem.x c.in-Skolem-b-2.y (sym c.eq.ensures ∙ c.if-eq.false))

pub clash-returns-in-App-b-2 : goal.clash-returns-in-App-b-2
clash-returns-in-App-b-2 t c =
    differ (term_of c.args.a.now) (term_of c.args.b.now) (skolem_symbol (name_of c.in-Skolem.x)) (function_symbol c.in-App-b-2.field-0)
    (skolem_has c.args.a.now c.in-Skolem.x c.in-Skolem.us c.in-Skolem.is) (app_has c.args.b.now c.in-App-b-2.field-0 c.in-App-b-2.field-1 c.in-App-b-2.is) (λ e. cc)

pub clash-returns-in-Bound-b-3 : goal.clash-returns-in-Bound-b-3
clash-returns-in-Bound-b-3 t c =
    differ (term_of c.args.a.now) (term_of c.args.b.now) (function_symbol c.in-App.f) (variable c.in-Bound-b-3.field-0)
    (app_has c.args.a.now c.in-App.f c.in-App.us c.in-App.is) (bound_has c.args.b.now c.in-Bound-b-3.field-0 c.in-Bound-b-3.is) (λ e. cc)

pub clash-returns-in-Meta-b-3 : goal.clash-returns-in-Meta-b-3
clash-returns-in-Meta-b-3 t c = open_right (term_of c.args.a.now) (term_of c.args.b.now) (meta_has c.args.b.now c.in-Meta-b-3.field-0 c.in-Meta-b-3.is)

pub clash-returns-in-Skolem-b-3 : goal.clash-returns-in-Skolem-b-3
clash-returns-in-Skolem-b-3 t c =
    differ (term_of c.args.a.now) (term_of c.args.b.now) (function_symbol c.in-App.f) (skolem_symbol (name_of c.in-Skolem-b-3.field-0))
    (app_has c.args.a.now c.in-App.f c.in-App.us c.in-App.is) (skolem_has c.args.b.now c.in-Skolem-b-3.field-0 c.in-Skolem-b-3.field-1 c.in-Skolem-b-3.is) (λ e. cc)

pub clash-returns-then-f-g : goal.clash-returns-then-f-g
clash-returns-then-f-g t c =
    same_symbol (term_of c.args.a.now) (term_of c.args.b.now) (function_symbol c.in-App.f) (function_symbol c.in-App-b-3.g)
    (terms_of c.in-App.us) (terms_of c.in-App-b-3.vs) c.some_clash-then-f-g.result
    (app_has c.args.a.now c.in-App.f c.in-App.us c.in-App.is) (app_has c.args.b.now c.in-App-b-3.g c.in-App-b-3.vs c.in-App-b-3.is) (ap function_symbol c.if-f-g.true)
    (app_arguments c.args.a.now c.in-App.f c.in-App.us c.in-App.is) (app_arguments c.args.b.now c.in-App-b-3.g c.in-App-b-3.vs c.in-App-b-3.is)
    c.some_clash-then-f-g.ensures

pub clash-returns-else-f-g : goal.clash-returns-else-f-g
clash-returns-else-f-g t c =
    differ (term_of c.args.a.now) (term_of c.args.b.now) (function_symbol c.in-App.f) (function_symbol c.in-App-b-3.g)
    (app_has c.args.a.now c.in-App.f c.in-App.us c.in-App.is) (app_has c.args.b.now c.in-App-b-3.g c.in-App-b-3.vs c.in-App-b-3.is) (λ e. c.if-f-g.false (let q : c.in-App.f ≡ c.in-App-b-3.g = cc (e) in q))

pub some_clash-returns-then-clash : goal.some_clash-returns-then-clash
some_clash-returns-then-clash t c =
    let us = c.as_slice-us.result.now in
    let vs = c.as_slice-vs.result.now in
    let in_us : c.loop-i.i < length us = omega (arith, c.loop-i-test.true, c.min-i-end.ensures) in
    let in_vs : c.loop-i.i < length vs = omega (arith, c.loop-i-test.true, c.min-i-end.ensures) in
    let found : AreApart (terms_of us) (terms_of vs) =
    c.loop-i.invariant.0 ((step_apart us vs c.loop-i.i c.index-us-i.result c.index-vs-i.result c.index-us-i.is c.index-vs-i.is in_us in_vs).1 (inl (c.clash.ensures.0 c.if-clash.true))) in (
      λ _. subst (λ (ws : List FTerm). AreApart (terms_of ws) (terms_of c.args.vs.now)) (c.as_slice-us.ensures ∙ c.get.ensures)
          (subst (λ (ws : List FTerm). AreApart (terms_of us) (terms_of ws)) (c.as_slice-vs.ensures ∙ c.get-2.ensures) found),
      λ _. refl,
    )

pub some_clash-loop-i-preserved : goal.some_clash-loop-i-preserved
some_clash-loop-i-preserved t c =
    let us = c.as_slice-us.result.now in
    let vs = c.as_slice-vs.result.now in
    let in_us : c.loop-i.i < length us = omega (arith, c.loop-i-test.true, c.min-i-end.ensures) in
    let in_vs : c.loop-i.i < length vs = omega (arith, c.loop-i-test.true, c.min-i-end.ensures) in
    let step = step_apart us vs c.loop-i.i c.index-us-i.result c.index-vs-i.result c.index-us-i.is c.index-vs-i.is in_us in_vs in
    let none : Clash (term_of c.index-us-i.result) (term_of c.index-vs-i.result) → ⊥ = λ clash. false≢true (sym c.if-clash.false ∙ c.clash.ensures.1 clash) in (
      λ later. c.loop-i.invariant.0 (step.1 (inr later)),
      λ all. elim (step.0 (c.loop-i.invariant.1 all)) as (λ _. AreApart (terms_of (drop (c.loop-i.i + 1) us)) (terms_of (drop (c.loop-i.i + 1) vs))) [ inl clash ↦ absurd (none clash) | inr later ↦ later ],
    )

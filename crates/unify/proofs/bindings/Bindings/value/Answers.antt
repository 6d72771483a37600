use Rattle.std.proofs.Common.{rules, ◌≡◌, Some, None, slice_get, ap, sym, ◌∙◌}
use Rattle.unify.proofs.Index.{found, not_found, no_gap}
use Rattle.unify.proofs.bindings.Bindings.value.Goals as goal

pub returns-in-Some-at-clause-value : goal.returns-in-Some-at-clause-value
returns-in-Some-at-clause-value c =
    let at : slice_get c.self.inside.list.items c.in-Some.place.now ≡ Some c.in-Some-at.b.now = ap (λ l. slice_get l c.in-Some.place.now) c.self.view_is ∙ search rules in
    rw (← c.self.view_is)
    (found c.self.inside.list.items c.self.inside.places c.args.name c.in-Some.place.now c.in-Some-at.b.now c.self.invariant.0 (sym c.in-Some.ensures.value) at).0

pub returns-in-Some-at-clause-bounded : goal.returns-in-Some-at-clause-bounded
returns-in-Some-at-clause-bounded c =
    let at : slice_get c.self.inside.list.items c.in-Some.place.now ≡ Some c.in-Some-at.b.now = ap (λ l. slice_get l c.in-Some.place.now) c.self.view_is ∙ search rules in
    rw (← c.self.view_is)
    (found c.self.inside.list.items c.self.inside.places c.args.name c.in-Some.place.now c.in-Some-at.b.now c.self.invariant.0 (sym c.in-Some.ensures.value) at).1

pub returns-in-None-at-clause-value : goal.returns-in-None-at-clause-value
returns-in-None-at-clause-value c =
    let at : slice_get c.self.inside.list.items c.in-Some.place.now ≡ None = ap (λ l. slice_get l c.in-Some.place.now) c.self.view_is ∙ search rules in
    absurd (no_gap c.self.inside.list.items c.self.inside.places c.args.name c.in-Some.place.now c.self.invariant.0 (sym c.in-Some.ensures.value) at)

pub returns-in-None-clause-value : goal.returns-in-None-clause-value
returns-in-None-clause-value c =
    rw (← c.self.view_is) (not_found c.self.inside.list.items c.self.inside.places c.args.name c.self.invariant.0 (sym c.in-None.ensures.value))

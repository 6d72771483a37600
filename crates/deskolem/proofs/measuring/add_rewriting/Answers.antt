use Rattle.std.proofs.Common.{refl, subst}
use Rattle.std.specs.Prelude.{Err}
use Rattle.rewrite_expand.specs.Expansion.{gamma_steps, last_of}
use Rattle.unify.specs.View.{offer_of}
use Rattle.deskolem.specs.Sums.{Adds, closed_fills, split_of}
use Rattle.deskolem.proofs.Openings.{opening_is}
use Rattle.deskolem.proofs.Texts.{both_added, first_refused}
use Rattle.deskolem.proofs.measuring.add_rewriting.Goals as goal

pub returns-in-Err-clause-sum : goal.returns-in-Err-clause-sum
returns-in-Err-clause-sum c fs ys are =
    let s = offer_of c.args.offer.now in
    let w = c.args.rewriting.now in
    let us = closed_fills s ys w.rewritten.fills in
    let place = last_of w.axiom w.len us in
    subst (λ steps. Adds fs c.args.so_far steps c.args.limit (Err c.in-Err.e)) (opening_is s ys w place refl)
    (first_refused fs c.args.so_far (gamma_steps w.axiom w.len us) (split_of place w) c.args.limit c.in-Err.e
    (c.in-Err.ensures.sum fs ys are))

pub returns-clause-sum : goal.returns-clause-sum
returns-clause-sum c fs ys are =
    let s = offer_of c.args.offer.now in
    let w = c.args.rewriting.now in
    let us = closed_fills s ys w.rewritten.fills in
    let o = c.in-Ok.opened in
    subst (λ steps. Adds fs c.args.so_far steps c.args.limit c.add_split.result) (opening_is s ys w o.place (c.in-Ok.ensures.place ys))
    (both_added fs c.args.so_far o.count (gamma_steps w.axiom w.len us) (split_of o.place w) c.args.limit c.add_split.result
    (c.in-Ok.ensures.sum fs ys are) (c.add_split.ensures.sum fs))

use Rattle.std.proofs.Common.{◌≡◌, ℕ, ◌+◌, ◌*◌, ◌<◌, ◌^◌, Some, length, arith, refl, ap, sym, ◌∙◌, subst}
use Rattle.std.proofs.Math.Facts.{Fits-of_lt}
use Rattle.branch_rules.specs.BranchView.{branch_in, value_with, IsReady}
use Rattle.branch_rules.specs.Halves.{IsSide}
use Rattle.branch_rules.specs.declared.step.Done.TheVariants.{Left, Right}
use Rattle.branch_rules.proofs.Halved.{splitting_at, ready_within, names_fit, left_is_side, right_is_side}
use Rattle.branch_rules.proofs.sides.halves.Goals as goal

pub overflow_mul-segment : goal.overflow_mul-segment
overflow_mul-segment c =
    let was = c.branch.inside in
    let ready : was.ready ≡ Some c.args.place = ap (λ v. v.ready) c.branch.view_is ∙ c.requires in
    let fits : 2 * was.lists.counts.segment + 1 < 2 ^ 128 = names_fit was.lists c.args.place c.branch.invariant.reads (splitting_at was.lists was.turns was.ready c.args.place ready c.branch.invariant.ready).ready in
    let less : 2 * was.lists.counts.segment < 2 ^ 128 = omega (arith, fits) in Fits-of_lt less

pub overflow_add-segment : goal.overflow_add-segment
overflow_add-segment c =
    let was = c.branch.inside in
    let ready : was.ready ≡ Some c.args.place = ap (λ v. v.ready) c.branch.view_is ∙ c.requires in
    Fits-of_lt (names_fit was.lists c.args.place c.branch.invariant.reads (splitting_at was.lists was.turns was.ready c.args.place ready c.branch.invariant.ready).ready)

pub side-requires : goal.side-requires
side-requires c =
    let was = c.branch.inside in
    let ready : was.ready ≡ Some c.args.place = ap (λ v. v.ready) c.branch.view_is ∙ c.requires in
    subst (λ v. IsSide v (Left c.args.place) c.entry_at-entry.result.now.level c.in_ok-parts.parts (2 * was.lists.counts.segment)) c.branch.view_is
    (left_is_side was.lists was.ready c.args.place c.entry_at-entry.result.now c.in_ok-parts.parts c.branch.invariant.reads ready c.entry_at-entry.ensures c.in_ok-parts.ensures)

pub side-requires-2 : goal.side-requires-2
side-requires-2 c =
    let was = c.branch.inside in
    let ready : was.ready ≡ Some c.args.place = ap (λ v. v.ready) c.branch.view_is ∙ c.requires in
    subst (λ v. IsSide v (Right c.args.place) c.entry_at-entry.result.now.level c.in_ok-parts-2.parts (2 * was.lists.counts.segment + 1)) c.branch.view_is
    (right_is_side was.lists was.ready c.args.place c.entry_at-entry.result.now c.in_ok-parts-2.parts c.branch.invariant.reads ready c.entry_at-entry.ensures c.in_ok-parts-2.ensures)

pub entry_at-entry-requires-clause-within : goal.entry_at-entry-requires-clause-within
entry_at-entry-requires-clause-within c =
    let was = c.branch.inside in
    let ready : was.ready ≡ Some c.args.place = ap (λ v. v.ready) c.branch.view_is ∙ c.requires in
    ready_within was.lists c.args.place c.branch.invariant.reads (splitting_at was.lists was.turns was.ready c.args.place ready c.branch.invariant.ready).ready

use Rattle.std.proofs.Common.{◌≡◌, ℕ, None, Some, refl, ap, sym, ◌∙◌, subst}
use Rattle.branch_rules.specs.BranchView.{value_with, branch_in, born_in, IsAgenda, IsSplitting}
use Rattle.branch_rules.specs.Taken.{past_disjunctive}
use Rattle.branch_rules.specs.ListsGrown.{place_of}
use Rattle.branch_rules.specs.Halves.{IsSide}
use Rattle.branch_rules.proofs.Halved.{splitting_at, side_left}
use Rattle.branch_rules.proofs.sides.side.Goals as goal

pub invariant_of-result : goal.invariant_of-result
invariant_of-result c =
    let was = c.branch.inside in
    let here : IsSide (value_with was.lists was.ready) c.args.done c.args.level c.args.parts c.args.segment = subst (λ v. IsSide v c.args.done c.args.level c.args.parts c.args.segment) (sym c.branch.view_is) c.requires in
    let splits : IsSplitting was.lists was.turns (place_of c.args.done) = splitting_at was.lists was.turns was.ready (place_of c.args.done) here.ready c.branch.invariant.ready in
    let left = side_left was.lists c.in_ok-lists.lists c.grow.new.lists was.agenda was.turns.items c.in_ok-turns.turns.items c.grow.new.turns.items c.args.done c.args.level c.args.parts c.args.segment was.ready
    c.branch.invariant.reads c.branch.invariant.agenda splits.ready here c.in_ok-lists.ensures.same
    c.in_ok-turns.ensures.items c.in_ok-grow.ensures.ok (c.in_ok-grow.ensures.counts ∙ c.side_counts-counts.ensures) in
    let agenda : c.side_agenda-agenda.result ≡ past_disjunctive was.agenda (place_of c.args.done) = c.side_agenda-agenda.ensures ∙ ap (past_disjunctive was.agenda) c.place_in.ensures in
    record { reads = left.0; agenda = subst (λ g. IsAgenda (branch_in c.grow.new.lists) g (born_in c.grow.new.lists) c.grow.new.turns.items) (sym agenda) left.1; ready = tt }

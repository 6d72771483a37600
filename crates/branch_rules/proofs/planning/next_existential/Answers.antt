use Rattle.std.proofs.Common.{◌≡◌, ℕ, length, arith, ap, sym, ◌∙◌, subst, None, Some}
use Rattle.branch_rules.specs.BranchView.{branch_in, born_in}
use Rattle.branch_rules.specs.Plans.{FirstFree}
use Rattle.branch_rules.proofs.Chosen.{length_is}
use Rattle.branch_rules.proofs.Planned.{existential_plan, none_existential, existential_front}
use Rattle.branch_rules.specs.declared.kinds.Kind.TheVariants.{Existential}
use Rattle.branch_rules.proofs.Joined.{kind_untaken}
use Rattle.branch_rules.proofs.Cursors.{existential_found_to, existential_all_to}
use Rattle.branch_rules.proofs.planning.next_existential.Goals as goal

pub returns-in_err-work-in-Some-clause-agenda : goal.returns-in_err-work-in-Some-clause-agenda
returns-in_err-work-in-Some-clause-agenda c =
    existential_found_to (branch_in c.args.lists.now) c.args.agenda.now (born_in c.args.lists.now) c.args.turns.now.items c.in-Some.place c.in-Some.ensures c.requires.agenda

pub returns-in_ok-work-in-Some-clause-agenda : goal.returns-in_ok-work-in-Some-clause-agenda
returns-in_ok-work-in-Some-clause-agenda c =
    existential_found_to (branch_in c.args.lists.now) c.args.agenda.now (born_in c.args.lists.now) c.args.turns.now.items c.in-Some.place c.in-Some.ensures c.requires.agenda

pub returns-in_ok-work-in-Some-clause-means : goal.returns-in_ok-work-in-Some-clause-means
returns-in_ok-work-in-Some-clause-means c =
    existential_plan (branch_in c.args.lists.now) c.args.depth c.args.agenda.now.existential c.in-Some.place c.in_ok-work-in-Some.work c.where_room.result c.requires.none
    (λ i. c.requires.agenda.searched.existential_over i c.args.depth) c.in-Some.ensures c.in_ok-work-in-Some.ensures c.where_room.ensures

pub returns-in-None-clause-agenda : goal.returns-in-None-clause-agenda
returns-in-None-clause-agenda c =
    let b = branch_in c.args.lists.now in
    existential_all_to b c.args.agenda.now (born_in c.args.lists.now) c.args.turns.now.items c.len-agenda.result c.in-None.ensures (c.len-agenda.ensures.value ∙ length_is b c.args.lists.now c.requires.reads) c.requires.agenda

pub returns-in-None-clause-means : goal.returns-in-None-clause-means
returns-in-None-clause-means c =
    none_existential (branch_in c.args.lists.now) c.args.depth c.args.agenda.now.existential (λ i. c.requires.agenda.searched.existential_over i c.args.depth) c.in-None.ensures

pub find-requires-clause-untaken : goal.find-requires-clause-untaken
find-requires-clause-untaken c = kind_untaken (branch_in c.args.lists.now) c.args.agenda.now c.args.turns.now.items Existential c.requires.agenda.fresh

pub returns-in_ok-work-in-Some-clause-front : goal.returns-in_ok-work-in-Some-clause-front
returns-in_ok-work-in-Some-clause-front c =
    existential_front (branch_in c.args.lists.now) (record c.args.agenda.now { existential = c.in-Some.place }) c.args.turns.now.items c.in-Some.place c.in_ok-work-in-Some.work c.where_room.result
    c.in_ok-work-in-Some.ensures c.where_room.ensures

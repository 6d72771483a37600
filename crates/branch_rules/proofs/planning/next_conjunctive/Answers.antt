use Rattle.std.proofs.Common.{◌≡◌, ℕ, length, arith, ap, sym, ◌∙◌, subst, None, Some}
use Rattle.branch_rules.specs.BranchView.{branch_in, born_in}
use Rattle.branch_rules.specs.Plans.{FirstConjunctive}
use Rattle.branch_rules.proofs.Chosen.{length_is}
use Rattle.branch_rules.proofs.Planned.{conjunctive_plan, none_conjunctive, conjunctive_front}
use Rattle.branch_rules.proofs.Joined.{first_untaken}
use Rattle.branch_rules.proofs.Cursors.{before_depth, conjunctive_found_to, conjunctive_all_to}
use Rattle.branch_rules.proofs.planning.next_conjunctive.Goals as goal

pub returns-in-Some-clause-agenda : goal.returns-in-Some-clause-agenda
returns-in-Some-clause-agenda c =
    let b = branch_in c.args.lists.now in
    conjunctive_found_to b c.args.agenda.now (born_in c.args.lists.now) c.args.turns.now.items c.args.depth c.in-Some.work c.requires.depth
    (subst (FirstConjunctive b c.args.depth c.args.agenda.now.conjunctive) c.in-Some.is c.in_ok-work.ensures) c.requires.agenda

pub returns-in-Some-clause-means : goal.returns-in-Some-clause-means
returns-in-Some-clause-means c =
    let b = branch_in c.args.lists.now in
    conjunctive_plan b c.args.depth c.args.agenda.now.conjunctive c.in-Some.work c.where_room.result
    (before_depth b c.args.agenda.now (born_in c.args.lists.now) c.args.turns.now.items c.args.depth c.requires.depth c.requires.agenda.searched)
    (subst (FirstConjunctive b c.args.depth c.args.agenda.now.conjunctive) c.in-Some.is c.in_ok-work.ensures) c.where_room.ensures

pub returns-in-None-clause-agenda : goal.returns-in-None-clause-agenda
returns-in-None-clause-agenda c =
    let b = branch_in c.args.lists.now in
    conjunctive_all_to b c.args.agenda.now (born_in c.args.lists.now) c.args.turns.now.items c.args.depth c.len-agenda.result c.requires.depth
    (subst (FirstConjunctive b c.args.depth c.args.agenda.now.conjunctive) c.in-None.is c.in_ok-work.ensures) (c.len-agenda.ensures.value ∙ length_is b c.args.lists.now c.requires.reads) c.requires.agenda

pub returns-in-None-clause-means : goal.returns-in-None-clause-means
returns-in-None-clause-means c =
    let b = branch_in c.args.lists.now in
    none_conjunctive b c.args.depth c.args.agenda.now.conjunctive
    (before_depth b c.args.agenda.now (born_in c.args.lists.now) c.args.turns.now.items c.args.depth c.requires.depth c.requires.agenda.searched)
    (subst (FirstConjunctive b c.args.depth c.args.agenda.now.conjunctive) c.in-None.is c.in_ok-work.ensures)

pub find_conjunctive-requires-clause-untaken : goal.find_conjunctive-requires-clause-untaken
find_conjunctive-requires-clause-untaken c = first_untaken (branch_in c.args.lists.now) c.args.agenda.now c.args.turns.now.items c.requires.agenda.fresh

pub returns-in-Some-clause-front : goal.returns-in-Some-clause-front
returns-in-Some-clause-front c =
    let b = branch_in c.args.lists.now in
    let f = subst (FirstConjunctive b c.args.depth c.args.agenda.now.conjunctive) c.in-Some.is c.in_ok-work.ensures in
    conjunctive_front b (record c.args.agenda.now { conjunctive = c.in-Some.work.place }) c.args.turns.now.items f.2 c.in-Some.work c.where_room.result f.4 c.where_room.ensures

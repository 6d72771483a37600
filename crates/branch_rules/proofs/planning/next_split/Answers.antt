use Rattle.std.proofs.Common.{◌≡◌, ℕ, length, arith, ap, sym, ◌∙◌, subst, None, Some}
use Rattle.branch_rules.specs.BranchView.{branch_in, born_in}
use Rattle.std.proofs.Common.{◌<◌, ◌≤◌, ◌+◌}
use Rattle.std.proofs.lemmas.Bool.{false≢true}
use Rattle.branch_rules.specs.Branch.{entries, splits_done}
use Rattle.branch_rules.specs.Next.{most_entries, most_splits}
use Rattle.branch_rules.specs.BranchValue.{entry_of}
use Rattle.branch_rules.proofs.Chosen.{length_is, free_within}
use Rattle.branch_rules.proofs.Joined.{kind_untaken}
use Rattle.branch_rules.proofs.Planned.{split_comes_next, full_split, none_disjunctive}
use Rattle.branch_rules.proofs.Cursors.{disjunctive_found_to, disjunctive_all_to}
use Rattle.branch_rules.specs.declared.kinds.Kind.TheVariants.{Disjunctive}
use Rattle.branch_rules.proofs.planning.next_split.Goals as goal

pub returns-then-has_room-clause-agenda : goal.returns-then-has_room-clause-agenda
returns-then-has_room-clause-agenda c =
    disjunctive_found_to (branch_in c.args.lists.now) c.args.agenda.now (born_in c.args.lists.now) c.args.turns.now.items c.in-Some.place c.in-Some.ensures c.requires.agenda

pub returns-else-has_room-clause-agenda : goal.returns-else-has_room-clause-agenda
returns-else-has_room-clause-agenda c =
    disjunctive_found_to (branch_in c.args.lists.now) c.args.agenda.now (born_in c.args.lists.now) c.args.turns.now.items c.in-Some.place c.in-Some.ensures c.requires.agenda

pub returns-then-has_room-clause-means : goal.returns-then-has_room-clause-means
returns-then-has_room-clause-means c =
    let b = branch_in c.args.lists.now in
    let few : splits_done b < most_splits = omega (arith, c.requires.reads.splits_are) in
    split_comes_next b c.args.depth c.args.agenda.now.disjunctive c.in-Some.place (entry_of c.entry_at-entry.result.now) c.requires.none c.requires.neither few
    (λ i. c.requires.agenda.searched.disjunctive_over i c.args.depth) c.in-Some.ensures
    c.entry_at-entry.ensures
    (subst (λ n. length (entries b) + n ≤ most_entries) c.side_length.ensures (c.has_room.ensures.0 c.if-has_room.true))

pub returns-else-has_room-clause-means : goal.returns-else-has_room-clause-means
returns-else-has_room-clause-means c =
    let b = branch_in c.args.lists.now in
    let few : splits_done b < most_splits = omega (arith, c.requires.reads.splits_are) in
    full_split b c.args.depth c.args.agenda.now.disjunctive c.in-Some.place (entry_of c.entry_at-entry.result.now) c.requires.none c.requires.neither few
    (λ i. c.requires.agenda.searched.disjunctive_over i c.args.depth) c.in-Some.ensures
    c.entry_at-entry.ensures
    (λ fits. false≢true (sym c.if-has_room.false ∙ c.has_room.ensures.1 (subst (λ n. length (entries b) + n ≤ most_entries) (sym c.side_length.ensures) fits)))

pub returns-in-None-clause-agenda : goal.returns-in-None-clause-agenda
returns-in-None-clause-agenda c =
    let b = branch_in c.args.lists.now in
    disjunctive_all_to b c.args.agenda.now (born_in c.args.lists.now) c.args.turns.now.items c.len-agenda.result c.in-None.ensures (c.len-agenda.ensures.value ∙ length_is b c.args.lists.now c.requires.reads) c.requires.agenda

pub returns-in-None-clause-means : goal.returns-in-None-clause-means
returns-in-None-clause-means c =
    none_disjunctive (branch_in c.args.lists.now) c.args.depth c.args.agenda.now.disjunctive (λ i. c.requires.agenda.searched.disjunctive_over i c.args.depth) c.in-None.ensures

pub find-requires-clause-untaken : goal.find-requires-clause-untaken
find-requires-clause-untaken c = kind_untaken (branch_in c.args.lists.now) c.args.agenda.now c.args.turns.now.items Disjunctive c.requires.agenda.fresh

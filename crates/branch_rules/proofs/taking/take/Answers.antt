use Rattle.std.proofs.Common.{◌≡◌, ℕ, length, refl, ap, sym, ◌∙◌, subst}
use Rattle.branch_rules.specs.BranchValue.{done_as}
use Rattle.branch_rules.specs.BranchView.{branch_in, born_in, IsAgenda}
use Rattle.branch_rules.specs.declared.step.Done.TheVariants.{Step}
use Rattle.branch_rules.proofs.Taken.{step_left, many_left}
use Rattle.branch_rules.proofs.taking.take.Goals as goal

pub returns-clause-reads : goal.returns-clause-reads
returns-clause-reads c =
    let w = c.args.work in let means = c.requires.next in
    (step_left c.args.lists.now c.grow.new.lists c.args.agenda.now c.args.turns.now.items c.grow.new.turns.items w.place w.kind w.level w.parts c.in_ok-uses.uses means.1 c.requires.reads
    c.requires.agenda means.0 means.2 means.3.makes means.3.level c.requires.front c.in_ok-uses.ensures c.in_ok-grow.ensures.ok (c.in_ok-grow.ensures.counts ∙ c.counts_after-counts.ensures)).0

pub returns-clause-agenda : goal.returns-clause-agenda
returns-clause-agenda c =
    let w = c.args.work in let means = c.requires.next in
    subst (λ g. IsAgenda (branch_in c.grow.new.lists) g (born_in c.grow.new.lists) c.grow.new.turns.items) (sym c.in_ok-later.ensures)
    (step_left c.args.lists.now c.grow.new.lists c.args.agenda.now c.args.turns.now.items c.grow.new.turns.items w.place w.kind w.level w.parts c.in_ok-uses.uses means.1 c.requires.reads
    c.requires.agenda means.0 means.2 means.3.makes means.3.level c.requires.front c.in_ok-uses.ensures c.in_ok-grow.ensures.ok (c.in_ok-grow.ensures.counts ∙ c.counts_after-counts.ensures)).1

pub returns-clause-ok : goal.returns-clause-ok
returns-clause-ok c =
    let w = c.args.work in let means = c.requires.next in
    let left = step_left c.args.lists.now c.grow.new.lists c.args.agenda.now c.args.turns.now.items c.grow.new.turns.items w.place w.kind w.level w.parts c.in_ok-uses.uses means.1 c.requires.reads
    c.requires.agenda means.0 means.2 means.3.makes means.3.level c.requires.front c.in_ok-uses.ensures c.in_ok-grow.ensures.ok (c.in_ok-grow.ensures.counts ∙ c.counts_after-counts.ensures) in record {
      step = ap (done_as w.place) c.in_ok-kind.ensures;
      branch = left.2;
      rules = c.in_ok-grow.ensures.ok.rules;
      many = many_left c.args.lists.now c.grow.new.lists c.args.turns.now.items c.grow.new.turns.items (Step w.place w.kind) w.level w.parts c.in_ok-uses.uses c.in_ok-appended.appended c.requires.reads left.0 c.in_ok-grow.ensures.ok
          (c.in_ok-appended.ensures.value ∙ c.len.ensures);
    }

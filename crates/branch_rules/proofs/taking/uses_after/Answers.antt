use Rattle.branch_rules.specs.BranchView.{branch_in}
use Rattle.branch_rules.proofs.Taken.{front_uses}
use Rattle.branch_rules.proofs.taking.uses_after.Goals as goal

pub returns-in-Some : goal.returns-in-Some
returns-in-Some c =
    front_uses (branch_in c.args.lists.now) c.args.agenda.now c.args.turns.now.items c.args.kind.now c.args.place c.in-Some.uses c.in-Instance.field-0 c.item_at-turn.result.now c.in-Instance.is
    c.item_at-turn.ensures c.in-Some.ensures.1 c.requires

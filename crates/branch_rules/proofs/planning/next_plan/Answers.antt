use Rattle.branch_rules.specs.BranchView.{branch_in, born_in}
use Rattle.branch_rules.proofs.planning.next_plan.Goals as goal

pub next_conjunctive-requires-clause-agenda : goal.next_conjunctive-requires-clause-agenda
next_conjunctive-requires-clause-agenda c =
    c.looked.ensures.kept (branch_in c.args.lists.now) (born_in c.args.lists.now) c.args.turns.now.items c.requires.agenda

use Rattle.std.proofs.Common.{◌≡◌, ◌∙◌, ap, sym}
use Rattle.branch_rules.specs.BranchView.{branch_in, born_in}
use Rattle.branch_rules.proofs.Planned.{universal_plan, nothing_left, universal_front}
use Rattle.branch_rules.proofs.planning.next_universal.Goals as goal

pub returns-in-None-clause-means : goal.returns-in-None-clause-means
returns-in-None-clause-means c =
    nothing_left (branch_in c.args.lists.now) c.args.agenda.now (born_in c.args.lists.now) c.args.turns.now.items c.args.depth c.serve.new.agenda.turn c.requires.agenda.searched c.requires.joined
    c.requires.none c.requires.neither c.requires.nor c.in-None.ensures.serves

pub returns-in_ok-work-in-Some-clause-means : goal.returns-in_ok-work-in-Some-clause-means
returns-in_ok-work-in-Some-clause-means c =
    universal_plan (branch_in c.args.lists.now) c.args.agenda.now (born_in c.args.lists.now) c.args.turns.now.items c.args.depth c.serve.new.agenda.turn c.in-Some.turn c.in_ok-work-in-Some.work c.where_room.result
    c.requires.agenda.searched c.requires.joined c.requires.none c.requires.neither c.requires.nor c.in-Some.ensures.serves c.in_ok-work-in-Some.ensures c.where_room.ensures

pub returns-in_ok-work-in-Some-clause-front : goal.returns-in_ok-work-in-Some-clause-front
returns-in_ok-work-in-Some-clause-front c =
    universal_front (branch_in c.args.lists.now) c.serve.new.agenda c.args.turns.now.items c.args.depth c.in-Some.turn c.in_ok-work-in-Some.work c.where_room.result
    (c.in-Some.ensures.kept ∙ c.requires.joined) c.in-Some.ensures.serves c.in_ok-work-in-Some.ensures c.where_room.ensures

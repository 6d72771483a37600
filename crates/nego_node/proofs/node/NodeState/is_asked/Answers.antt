use Rattle.std.proofs.Common.{sym, subst}
use Rattle.nego_laws.specs.Tree.{Tree}
use Rattle.nego_node.specs.Sound.{Belongs}
use Rattle.nego_node.specs.declared.tasks.Task.{Task}
use Rattle.nego_node.proofs.node.NodeState.is_asked.Goals as goal

pub same_task-requires-clause-a : goal.same_task-requires-clause-a
same_task-requires-clause-a g c κs within =
    subst (λ (x : Tree _). Belongs g.F.Offer.Offer.tree x c.get.result.now) c.requires.tree
    (subst (λ (y : Task _). Belongs g.F.Offer.Offer.tree (g.F.Field.around c.args.self.now.site) y) (sym c.get.ensures) c.in-Some.ensures.belongs)

use Rattle.std.proofs.Common.{sym, subst}
use Rattle.nego_node.specs.Machine.{State}
use Rattle.nego_node.specs.Moves.{MayMove}
use Rattle.nego_node.proofs.node.NodeState.advance.Goals as goal

pub do_move-requires-clause-lawful : goal.do_move-requires-clause-lawful
do_move-requires-clause-lawful g c κs within =
    subst (λ (x : _). MayMove (g.F.Field.around x) c.reserve.new.self.state c.args.step) (sym c.reserve.ensures.site)
    (subst (λ (x : State _). MayMove (g.F.Field.around c.args.self.now.site) x c.args.step) (sym c.reserve.ensures.state) c.requires.lawful)

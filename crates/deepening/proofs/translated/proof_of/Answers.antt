use Rattle.unify.specs.View.{offer_of}
use Rattle.tab_tree.specs.ClosingView.{closed_tree_of}
use Rattle.deepening.proofs.ClosedRounds.{ends_found}
use Rattle.deepening.proofs.translated.proof_of.Goals as goal

pub returns-in-Ok : goal.returns-in-Ok
returns-in-Ok c =
    ends_found c.args.round.now (offer_of c.args.s.now) (closed_tree_of c.args.tree.now) c.args.limit c.in-Ok.tree c.requires.closed
    (rw c.in-Ok.is at c.to_gs3.ensures)

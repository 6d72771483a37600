use Rattle.deepening.proofs.Verdicts.{plain-settles}
use Rattle.deepening.proofs.alone.plainly.Goals as goal

pub settled_round-requires-clause-settles : goal.settled_round-requires-clause-settles
settled_round-requires-clause-settles c =
    rw c.get.ensures
    (plain-settles c.args.limits.tries c.args.field.now.round c.in_ok-settled.settled.nodes c.in_ok-settled.settled.verdict
    c.in_ok-settled.ensures)

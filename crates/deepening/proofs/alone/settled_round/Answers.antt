use Rattle.deepening.proofs.Decided.{ends-by-verdict, some-engine}
use Rattle.deepening.proofs.alone.settled_round.Goals as goal

pub returns : goal.returns
returns c = λ way settled.
    rw c.depth.ensures
    (ends-by-verdict way c.args.limits c.args.round.now _ c.args.settled.verdict c.in_ok-ending.ending
    (some-engine c.args.engine c.requires.of_one) settled c.in_ok-ending.ensures)

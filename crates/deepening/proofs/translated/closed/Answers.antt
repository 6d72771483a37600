use Rattle.std.proofs.lemmas.Result.{IfOk-weaker}
use Rattle.deepening.proofs.ClosedRounds.{closed_round, some_tree, ends_closed}
use Rattle.deepening.proofs.translated.closed.Goals as goal

pub unreachable-requires : goal.unreachable-requires
unreachable-requires c =
    some_tree c.args.round.now c.args.offer.now c.requires.closes
    (rw c.in-None.is at (rw c.bindings.ensures.bindings at c.in_ok-closed_tree.ensures))

pub proof_of-requires-clause-closed : goal.proof_of-requires-clause-closed
proof_of-requires-clause-closed c =
    let answer = rw c.in-Some.is at (rw c.bindings.ensures.bindings at c.in_ok-closed_tree.ensures) in
    let closed = closed_round c.args.round.now c.args.offer.now c.in-Some.tree c.rules.ensures.of_problem c.requires.of_round c.bindings.ensures.of_round answer in
    rw c.bindings-in-Some.ensures.bindings (rw c.get.ensures closed)

pub returns : goal.returns
returns c =
    let answer = rw c.in-Some.is at (rw c.bindings.ensures.bindings at c.in_ok-closed_tree.ensures) in
    IfOk-weaker c.proof_of.result _ _
    (λ ending h.
    ends_closed c.args.round.now c.args.offer.now c.in-Some.tree c.args.limit c.bindings-in-Some.result.now c.get.result.now ending
    c.bindings-in-Some.ensures.bindings c.get.ensures answer h) c.proof_of.ensures

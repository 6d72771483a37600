use Rattle.std.proofs.Common.{refl}
use Rattle.std.proofs.lemmas.Result.{IfOk-weaker}
use Rattle.deepening.specs.declared.order.Order.TheVariants.{Plain, Scheduled}
use Rattle.deepening.specs.declared.order.Way.TheVariants.{Alone}
use Rattle.deepening.proofs.Decided.{by-board}
use Rattle.deepening.proofs.Verdicts.{board-settles}
use Rattle.deepening.proofs.alone.settle_alone.Goals as goal

pub returns-in-Plain : goal.returns-in-Plain
returns-in-Plain c =
    rw c.in-Plain.is
    (IfOk-weaker c.plainly.result _ _ (λ s h. rw c.in_ok-copy.ensures at (h (Alone Plain) refl)) c.plainly.ensures)

pub returns-in-None : goal.returns-in-None
returns-in-None c =
    let undecided = rw c.in-None.is at c.in_ok-by_board-in-Scheduled.ensures in
    rw c.in-Scheduled.is
    (IfOk-weaker c.plainly-in-None.result _ _
    (λ s h. rw c.in_ok-copy.ensures at (h (Alone (Scheduled c.in-Scheduled.seed c.in-Scheduled.turns)) (refl, undecided)))
    c.plainly-in-None.ensures)

pub settled_round-requires-clause-settles : goal.settled_round-requires-clause-settles
settled_round-requires-clause-settles c =
    rw c.get.ensures
    (board-settles c.in-Scheduled.seed c.in-Scheduled.turns c.in_ok-copy.field-0 c.in-Some.settled.nodes c.in-Some.settled.verdict
    (rw c.in-Some.is at c.in_ok-by_board-in-Scheduled.ensures))

pub returns : goal.returns
returns c =
    let seed = c.in-Scheduled.seed in
    let turns = c.in-Scheduled.turns in
    let settled = c.in-Some.settled in
    let so =
    by-board seed turns c.args.limits c.in_ok-copy.field-0 settled.nodes settled.verdict
    (rw c.in-Some.is at c.in_ok-by_board-in-Scheduled.ensures) in
    rw c.in-Scheduled.is
    (IfOk-weaker c.settled_round.result _ _
    (λ s h. rw c.in_ok-copy.ensures at (rw c.get.ensures at (h (Alone (Scheduled seed turns)) (rw c.get.ensures so))))
    c.settled_round.ensures)

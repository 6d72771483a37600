use denote.Param.Send.{sendable}
use Rattle.std.proofs.Crossing.{crosses}
use Rattle.round_offers.proofs.Threads.{offer_send, offer_sync}
use Rattle.tab_field.proofs.Threads.{place_send}
use Rattle.std.proofs.lemmas.Result.{IfOk-weaker}
use Rattle.deepening.specs.declared.order.Way.TheVariants.{Agents}
use Rattle.deepening.proofs.Decided.{ends-with-proof, ends-open-too, left-to-plain}
use Rattle.deepening.proofs.Verdicts.{pool-settles}
use Rattle.deepening.proofs.agents.settle_together.Goals as goal

pub end-requires-send-F-Offer : goal.end-requires-send-F-Offer
end-requires-send-F-Offer g c κs = search (offer_send, sendable, crosses) depth 40 fits 20000

pub end-requires-send-F-Site : goal.end-requires-send-F-Site
end-requires-send-F-Site g c κs = search (place_send, sendable, crosses) depth 40 fits 20000

pub end-requires-sync-F-Offer : goal.end-requires-sync-F-Offer
end-requires-sync-F-Offer g c κs = search (offer_sync, sendable, crosses) depth 40 fits 20000

pub worth_of-requires-clause-settles : goal.worth_of-requires-clause-settles
worth_of-requires-clause-settles g c =
    rw c.get.ensures
    (rw c.end.ensures
    (rw c.in_ok-copy.ensures at (pool-settles c.unwrap_or-most.result c.in_ok-copy.field-0 c.in_ok-run.run' c.in_ok-run.ensures)))

pub returns-in-Proof : goal.returns-in-Proof
returns-in-Proof g c =
    let is = rw c.unwrap_or-most.ensures at (rw c.in_ok-copy.ensures at c.in_ok-run.ensures) in
    let is_worth = rw c.in-Proof.is at (rw c.end.ensures at (rw c.get.ensures at c.in_ok-steps.ensures)) in
    rw c.pooled_round.ensures.kept
    (rw c.pooled_round.ensures.ending
    (rw c.get-in-Proof.ensures
    (ends-with-proof c.args.workers c.args.limits c.args.round.now c.in_ok-run.run' is c.in-Proof.steps is_worth)))

pub returns-in-Open : goal.returns-in-Open
returns-in-Open g c =
    let is = rw c.unwrap_or-most.ensures at (rw c.in_ok-copy.ensures at c.in_ok-run.ensures) in
    let is_worth = rw c.in-Open.is at (rw c.end.ensures at (rw c.get.ensures at c.in_ok-steps.ensures)) in
    rw c.pooled_round-in-Open.ensures.kept
    (rw c.pooled_round-in-Open.ensures.ending
    (rw c.get-in-Open.ensures
    (ends-open-too c.args.workers c.args.limits c.args.round.now c.in_ok-run.run' is is_worth)))

pub returns : goal.returns
returns g c =
    let is = rw c.unwrap_or-most.ensures at (rw c.in_ok-copy.ensures at c.in_ok-run.ensures) in
    let is_worth = rw c.in-Nothing.is at (rw c.end.ensures at (rw c.get.ensures at c.in_ok-steps.ensures)) in
    IfOk-weaker c.plainly.result _ _
    (λ s h.
    rw c.in_ok-copy.ensures at (h (Agents c.args.workers)
    (rw c.in_ok-copy.ensures (left-to-plain c.args.workers c.args.limits c.args.round.now c.in_ok-run.run' is is_worth))))
    c.plainly.ensures

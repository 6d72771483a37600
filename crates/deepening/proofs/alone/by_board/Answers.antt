use denote.Param.Send.{sendable}
use Rattle.std.proofs.Crossing.{crosses}
use Rattle.round_offers.proofs.Threads.{offer_send, offer_sync}
use Rattle.tab_field.proofs.Threads.{place_send}
use Rattle.std.proofs.Common.{◌≡◌, ◌∙◌, ap, sym}
use Rattle.tab_tree.specs.RoundValue.{RoundValue}
use Rattle.round_offers.specs.RoundOffer.{tree_of_round, tree_of_offer}
use Rattle.nego_core.specs.Bare.{bare}
use Rattle.deepening.proofs.Answering.{board-answers}
use Rattle.deepening.proofs.alone.by_board.Goals as goal

pub run_picks-requires-send-F-Offer : goal.run_picks-requires-send-F-Offer
run_picks-requires-send-F-Offer c κs = search (offer_send, sendable, crosses) depth 40 fits 20000

pub run_picks-requires-send-F-Site : goal.run_picks-requires-send-F-Site
run_picks-requires-send-F-Site c κs = search (place_send, sendable, crosses) depth 40 fits 20000

pub run_picks-requires-sync-F-Offer : goal.run_picks-requires-sync-F-Offer
run_picks-requires-sync-F-Offer c κs = search (offer_sync, sendable, crosses) depth 40 fits 20000

pub answer-requires-send-F-Offer : goal.answer-requires-send-F-Offer
answer-requires-send-F-Offer c κs = search (offer_send, sendable, crosses) depth 40 fits 20000

pub answer-requires-send-F-Site : goal.answer-requires-send-F-Site
answer-requires-send-F-Site c κs = search (place_send, sendable, crosses) depth 40 fits 20000

pub answer-requires-sync-F-Offer : goal.answer-requires-sync-F-Offer
answer-requires-sync-F-Offer c κs = search (offer_sync, sendable, crosses) depth 40 fits 20000

pub into_nodes-requires-send-F-Offer : goal.into_nodes-requires-send-F-Offer
into_nodes-requires-send-F-Offer c κs = search (offer_send, sendable, crosses) depth 40 fits 20000

pub into_nodes-requires-send-F-Site : goal.into_nodes-requires-send-F-Site
into_nodes-requires-send-F-Site c κs = search (place_send, sendable, crosses) depth 40 fits 20000

pub into_nodes-requires-sync-F-Offer : goal.into_nodes-requires-sync-F-Offer
into_nodes-requires-sync-F-Offer c κs = search (offer_sync, sendable, crosses) depth 40 fits 20000

pub returns : goal.returns
returns c =
    let board = c.in_ok-board.board in
    let r = c.args.field.now.round in
    let deep : c.depth-depth.result ≡ r.depth = c.depth-depth.ensures ∙ ap (λ (x : RoundValue). x.depth) c.get.ensures in
    record {
      board = board.nodes;
      led = (board.unlawful, rw c.in_ok-picks.ensures at (rw deep at c.in_ok-board.ensures.run));
      first = c.in_ok-board.ensures.root;
      runs = rw deep at c.in_ok-board.ensures.histories;
      answers =
          board-answers tree_of_offer (tree_of_round r) r.depth (bare board.nodes) _ c.in_ok-verdict-in-Some.verdict
          (rw deep at c.in_ok-board.ensures.board) c.in_ok-board.ensures.root (rw deep at c.in_ok-board.ensures.answers)
          c.in_ok-board.ensures.decided (sym c.in-Some.ensures) c.in_ok-verdict-in-Some.ensures;
      same = c.in_ok-nodes.ensures.same;
      rising = c.in_ok-nodes.ensures.rising;
    }

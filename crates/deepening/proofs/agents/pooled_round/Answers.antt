use denote.Param.Send.{sendable}
use Rattle.std.proofs.Crossing.{crosses}
use Rattle.round_offers.proofs.Threads.{offer_send, offer_sync}
use Rattle.tab_field.proofs.Threads.{place_send}
use Rattle.deepening.proofs.agents.pooled_round.Goals as goal

pub into_parts-nodes-requires-send-F-Offer : goal.into_parts-nodes-requires-send-F-Offer
into_parts-nodes-requires-send-F-Offer c κs = search (offer_send, sendable, crosses) depth 40 fits 20000

pub into_parts-nodes-requires-send-F-Site : goal.into_parts-nodes-requires-send-F-Site
into_parts-nodes-requires-send-F-Site c κs = search (place_send, sendable, crosses) depth 40 fits 20000

pub into_parts-nodes-requires-sync-F-Offer : goal.into_parts-nodes-requires-sync-F-Offer
into_parts-nodes-requires-sync-F-Offer c κs = search (offer_sync, sendable, crosses) depth 40 fits 20000

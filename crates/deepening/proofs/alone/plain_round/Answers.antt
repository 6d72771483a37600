use denote.Param.Send.{sendable}
use Rattle.std.proofs.Crossing.{crosses}
use Rattle.round_offers.proofs.Threads.{offer_send, offer_sync}
use Rattle.tab_field.proofs.Threads.{place_send}
use Rattle.deepening.proofs.alone.plain_round.Goals as goal

pub settle-requires-send-F-Offer : goal.settle-requires-send-F-Offer
settle-requires-send-F-Offer c κs = search (offer_send, sendable, crosses) depth 40 fits 20000

pub settle-requires-send-F-Site : goal.settle-requires-send-F-Site
settle-requires-send-F-Site c κs = search (place_send, sendable, crosses) depth 40 fits 20000

pub settle-requires-sync-F-Offer : goal.settle-requires-sync-F-Offer
settle-requires-sync-F-Offer c κs = search (offer_sync, sendable, crosses) depth 40 fits 20000

use denote.Param.Send.{sendable}
use Rattle.std.proofs.Crossing.{crosses}
use Rattle.round_offers.proofs.Threads.{offer_send, offer_sync}
use Rattle.tab_field.proofs.Threads.{place_send, field_sync}
use Rattle.deepening.proofs.agents.pool_of.Goals as goal

pub negotiate-requires-send-F-Offer : goal.negotiate-requires-send-F-Offer
negotiate-requires-send-F-Offer g c κs within = search (offer_send, sendable, crosses) depth 40 fits 20000

pub negotiate-requires-send-F-Site : goal.negotiate-requires-send-F-Site
negotiate-requires-send-F-Site g c κs within = search (place_send, sendable, crosses) depth 40 fits 20000

pub negotiate-requires-sync-F : goal.negotiate-requires-sync-F
negotiate-requires-sync-F g c κs within = search (field_sync, sendable, crosses) depth 40 fits 20000

pub negotiate-requires-sync-F-Offer : goal.negotiate-requires-sync-F-Offer
negotiate-requires-sync-F-Offer g c κs within = search (offer_sync, sendable, crosses) depth 40 fits 20000

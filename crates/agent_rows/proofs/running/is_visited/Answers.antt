use denote.Param.Send.{sendable}
use Rattle.std.proofs.Crossing.{crosses}
use Rattle.round_offers.proofs.Threads.{offer_send, offer_sync}
use Rattle.tab_field.proofs.Threads.{place_send}
use Rattle.agent_rows.proofs.running.is_visited.Goals as goal

pub node_name-requires-send-F-Offer : goal.node_name-requires-send-F-Offer
node_name-requires-send-F-Offer c κs = search (offer_send, sendable, crosses) depth 40 fits 20000

pub node_name-requires-send-F-Site : goal.node_name-requires-send-F-Site
node_name-requires-send-F-Site c κs = search (place_send, sendable, crosses) depth 40 fits 20000

pub node_name-requires-sync-F-Offer : goal.node_name-requires-sync-F-Offer
node_name-requires-sync-F-Offer c κs = search (offer_sync, sendable, crosses) depth 40 fits 20000

pub history-requires-send-F-Offer : goal.history-requires-send-F-Offer
history-requires-send-F-Offer c κs = search (offer_send, sendable, crosses) depth 40 fits 20000

pub history-requires-send-F-Site : goal.history-requires-send-F-Site
history-requires-send-F-Site c κs = search (place_send, sendable, crosses) depth 40 fits 20000

pub history-requires-sync-F-Offer : goal.history-requires-sync-F-Offer
history-requires-sync-F-Offer c κs = search (offer_sync, sendable, crosses) depth 40 fits 20000

pub as_slice-requires-send-O : goal.as_slice-requires-send-O
as_slice-requires-send-O c κs = search (offer_send, sendable, crosses) depth 40 fits 20000

pub as_slice-requires-sync-O : goal.as_slice-requires-sync-O
as_slice-requires-sync-O c κs = search (offer_sync, sendable, crosses) depth 40 fits 20000

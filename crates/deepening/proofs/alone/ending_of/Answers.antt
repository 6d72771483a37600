use denote.Param.Send.{sendable}
use Rattle.std.proofs.Crossing.{crosses}
use Rattle.round_offers.proofs.Threads.{offer_send, offer_sync}
use Rattle.deepening.proofs.alone.ending_of.Goals as goal

pub offer-offer-requires-send-O : goal.offer-offer-requires-send-O
offer-offer-requires-send-O c κs = search (offer_send, sendable, crosses) depth 40 fits 20000

pub offer-offer-requires-sync-O : goal.offer-offer-requires-sync-O
offer-offer-requires-sync-O c κs = search (offer_sync, sendable, crosses) depth 40 fits 20000

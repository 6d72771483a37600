use denote.Param.Send.{sendable}
use Rattle.std.proofs.Crossing.{crosses}
use Rattle.round_offers.proofs.Threads.{offer_send, offer_sync}
use Rattle.deepening.proofs.alone.verdict_of.Goals as goal

pub copy-requires-send-O : goal.copy-requires-send-O
copy-requires-send-O c κs = search (offer_send, sendable, crosses) depth 40 fits 20000

pub copy-requires-sync-O : goal.copy-requires-sync-O
copy-requires-sync-O c κs = search (offer_sync, sendable, crosses) depth 40 fits 20000

pub copy-requires-in-Exhausted-send-O : goal.copy-requires-in-Exhausted-send-O
copy-requires-in-Exhausted-send-O c κs = search (offer_send, sendable, crosses) depth 40 fits 20000

pub copy-requires-in-Exhausted-sync-O : goal.copy-requires-in-Exhausted-sync-O
copy-requires-in-Exhausted-sync-O c κs = search (offer_sync, sendable, crosses) depth 40 fits 20000

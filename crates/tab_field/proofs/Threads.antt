-- That the field and its places cross threads.
use denote.Param.Send.{IsSync, IsSend, sendable}
use Rattle.std.proofs.Crossing.{crosses}
use Rattle.round_offers.proofs.Threads.{round_sync, round_send, site_send}
use Rattle.tab_field.specs.contracts.field.TabField as field
use Rattle.tab_field.specs.contracts.place.Place as place

pub field_sync : IsSync field.the_row
field_sync = search (round_sync, round_send, sendable, crosses) depth 60 fits 400000

pub place_send : IsSend place.the_row
place_send = search (site_send, round_sync, round_send, sendable, crosses) depth 60 fits 400000

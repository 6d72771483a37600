-- The text of an offer is one line.
use Rattle.std.specs.Prelude.{List}
use Rattle.fol_core.specs.Symbol.{Symbol}
use Rattle.unify.specs.Offers.{Offer}
use Rattle.gs3_text.specs.ProofText.{IsLine}
use Rattle.history_text.proofs.OfferLines.{offer_is_line}
use Rattle.offer_text.specs.Text.{offer_text}
use Rattle.round_text.specs.Names.{AreInLines}

pub offer_in_line : (functions : List Symbol) → AreInLines functions → (s : Offer) → IsLine (offer_text functions s)
offer_in_line functions names s = offer_is_line functions names s

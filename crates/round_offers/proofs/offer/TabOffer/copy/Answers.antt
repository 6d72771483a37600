use Rattle.std.proofs.Common.{ap, ◌∙◌}
use Rattle.round_offers.specs.RoundOffer.{RoundOffer}
use Rattle.round_offers.proofs.RoundLaws.{round_offer_as}
use Rattle.round_offers.proofs.offer.TabOffer.copy.Goals as goal

pub returns : goal.returns
returns c =
    round_offer_as c.args.self.now c.in_ok-bindings.bindings _ c.in_ok-copy.field-0
    (c.in_ok-bindings.ensures ∙ ap (λ (t : RoundOffer). t.bindings) c.self.view_is)
    (c.in_ok-copy.ensures ∙ ap (λ (t : RoundOffer). t.round) c.self.view_is)

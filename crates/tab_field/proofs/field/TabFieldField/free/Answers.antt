use Rattle.std.proofs.Common.{◌∙◌, ap}
use Rattle.unify.specs.View.{offer_of}
use Rattle.round_offers.specs.RoundOffer.{free_offer}
use Rattle.round_offers.proofs.RoundLaws.{same_round_offer}
use Rattle.tab_field.proofs.field.TabFieldField.free.Goals as goal

pub returns : goal.returns
returns c =
    same_round_offer c.new.result (free_offer c.args.self.now.round) (c.new.ensures.round ∙ c.in_ok-copy.ensures)
    (ap offer_of (c.new.ensures.bindings ∙ c.empty.ensures))

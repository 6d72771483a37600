use Rattle.std.proofs.Common.{◌++◌, ◌∙◌, ap}
use Rattle.std.specs.Prelude.{codes}
use Rattle.history_text.proofs.Listed.{listed}
use Rattle.history_text.proofs.event.append_offers.Goals as goal

pub returns-in_ok-push-in-len1-up-clause-ok : goal.returns-in_ok-push-in-len1-up-clause-ok
returns-in_ok-push-in-len1-up-clause-ok g c =
    let written = c.in_ok-append_offer-in-len1-up.ensures.ok ∙ ap (λ s. c.args.out.now.items ++ (codes "[" ++ g.S.OfferSpelling.text c.args.spelling.now s)) c.get.ensures in
    listed (g.S.OfferSpelling.text c.args.spelling.now) c.args.offers.now c.first-item.result c.args.out.now.items c.append_offer.new.out.items c.append_more.new.out.items c.push.new.self.items c.in-len1-up.len_at_least c.first-item.is written c.in_ok-append_more-in-len1-up.ensures.ok c.in_ok-push-in-len1-up.ensures.items

use Rattle.std.proofs.Common.{ap, ◌∙◌, sym, length}
use Rattle.unify.specs.View.{offer_of}
use Rattle.round_offers.proofs.Attempts.{lengths_differ}
use Rattle.tab_field.proofs.field.made_equal.Goals as goal

pub returns-then-len : goal.returns-then-len
returns-then-len c =
    lengths_differ (offer_of c.args.given.now) c.args.two.atom.now c.args.two.negated.now
    (λ e. c.if-len.true (c.len.ensures ∙ ap length c.get.ensures ∙ e ∙ sym (c.len-2.ensures ∙ ap length c.get-2.ensures)))

use Rattle.std.proofs.Common.{ap, ◌∙◌}
use Rattle.unify.specs.Tests.{same_offer}
use Rattle.unify.specs.View.{offer_of}
use Rattle.round_offers.proofs.Attempts.{same_bindings}
use Rattle.tab_field.proofs.Answered.{same_test}
use Rattle.tab_field.proofs.field.TabFieldField.same.Goals as goal

pub returns : goal.returns
returns c =
    same_test c.same.result (same_offer (offer_of c.bindings.result.now) (offer_of c.bindings-2.result.now)) c.same.ensures
    (same_bindings c.bindings.result.now c.bindings-2.result.now)
    ∙ ap (λ s. same_offer (offer_of s) (offer_of c.bindings-2.result.now)) c.bindings.ensures.bindings
    ∙ ap (λ s. same_offer (offer_of c.args.a.now.bindings) (offer_of s)) c.bindings-2.ensures.bindings

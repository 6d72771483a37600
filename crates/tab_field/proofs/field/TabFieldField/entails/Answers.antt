use Rattle.std.proofs.Common.{ap, ◌∙◌}
use Rattle.unify.specs.Tests.{entails}
use Rattle.unify.specs.View.{offer_of}
use Rattle.unify.proofs.Decides.{entails-true}
use Rattle.tab_field.proofs.Answered.{same_test}
use Rattle.tab_field.proofs.field.TabFieldField.entails.Goals as goal

pub returns : goal.returns
returns c =
    same_test c.entails.result (entails (offer_of c.bindings.result.now) (offer_of c.bindings-2.result.now)) c.entails.ensures
    (entails-true (offer_of c.bindings.result.now) (offer_of c.bindings-2.result.now))
    ∙ ap (λ s. entails (offer_of s) (offer_of c.bindings-2.result.now)) c.bindings.ensures.bindings
    ∙ ap (λ s. entails (offer_of c.args.a.now.bindings) (offer_of s)) c.bindings-2.ensures.bindings

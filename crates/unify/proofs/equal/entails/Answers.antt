use Rattle.std.proofs.Common.{◌<◌, ◌-◌, length, sym, subst, ◌∙◌, arith}
use Rattle.std.proofs.lemmas.Bool.{false≢true}
use Rattle.free_terms.specs.Free.{metavar}
use Rattle.free_terms.specs.View.{name_of, term_of}
use Rattle.unify.specs.Offers.{Entails, Equates}
use Rattle.unify.specs.View.{offer_of}
use Rattle.unify.proofs.Places.{entails_index}
use Rattle.unify.proofs.equal.entails.Goals as goal

pub returns-then-not-keeps : goal.returns-then-not-keeps
returns-then-not-keeps c =
    let within : c.loop-left.left - 1 < length c.as_slice-other.result.now = omega (arith, c.loop-left-test.true, c.loop-left.invariant.bounded) in (
      λ h. absurd (false≢true h),
      λ e. absurd (false≢true (sym c.if-not-keeps.true ∙ c.keeps.ensures.1
          (subst (λ b. Equates (offer_of c.bindings-s.result.now) (metavar (name_of b.name)) (term_of b.term)) (sym c.index-other-left.is)
          (entails_index (offer_of c.bindings-s.result.now) c.as_slice-other.result.now (c.loop-left.left - 1) _ within
          (subst (λ r. Entails (offer_of r) (offer_of c.as_slice-other.result.now)) (sym c.bindings-s.ensures.list)
          (subst (λ o. Entails (offer_of c.args.s.now) (offer_of o)) (sym (c.as_slice-other.ensures.list ∙ c.bindings.ensures.list)) e)))))),
    )

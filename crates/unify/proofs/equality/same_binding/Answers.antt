use Rattle.std.proofs.Common.{ap, sym, ◌∙◌}
use Rattle.free_terms.specs.View.{term_of}
use Rattle.unify.proofs.Injective.{binding_is, name_is}
use Rattle.unify.proofs.equality.same_binding.Goals as goal

pub returns-then-eq : goal.returns-then-eq
returns-then-eq c = (
  λ h. binding_is c.args.a.now c.args.b.now (name_is c.args.a.now.name c.args.b.now.name (sym c.eq.ensures ∙ c.if-eq.true)) (c.same_term.ensures.0 h),
  λ e. c.same_term.ensures.1 (ap (λ b. term_of b.term) e),
)

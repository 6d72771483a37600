use Rattle.std.proofs.Common.{refl}
use Rattle.unify.proofs.Places.{keeps_own}
use Rattle.unify.proofs.equal.keeps.Goals as goal

pub returns-then-has_at : goal.returns-then-has_at
returns-then-has_at c = (
  λ h. keeps_own c.args.s.now c.args.place c.args.b.now c.requires (c.has_at.ensures.0 c.if-has_at.true),
  λ e. refl,
)

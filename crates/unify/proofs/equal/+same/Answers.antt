use Rattle.std.proofs.Common.{ap, sym, ◌∙◌, length}
use Rattle.std.proofs.lemmas.Bool.{false≢true}
use Rattle.unify.proofs.Resolved.{same_length}
use Rattle.unify.proofs.equal.+same.Goals as goal

pub makes_all_one-returns-then-us-vs : goal.makes_all_one-returns-then-us-vs
makes_all_one-returns-then-us-vs t c = (
  λ h. absurd (false≢true h),
  λ e. absurd (c.if-us-vs.true
      (ap length (c.as_slice-us.ensures ∙ c.get.ensures) ∙ same_length _ _ c.args.us.now c.args.vs.now e ∙ sym (ap length (c.as_slice-vs.ensures ∙ c.get-2.ensures)))),
)

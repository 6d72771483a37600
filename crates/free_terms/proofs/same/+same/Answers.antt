use Rattle.std.proofs.Common.{ap, sym, ◌∙◌, length}
use Rattle.std.proofs.lemmas.Bool.{false≢true}
use Rattle.free_terms.proofs.Matched.{same_length}
use Rattle.free_terms.proofs.same.+same.Goals as goal

pub same_terms-returns-then-us-vs : goal.same_terms-returns-then-us-vs
same_terms-returns-then-us-vs t c = (
  λ h. absurd (false≢true h),
  λ e. absurd (c.if-us-vs.true
      (ap length (c.as_slice-us.ensures ∙ c.get.ensures) ∙ same_length c.args.us.now c.args.vs.now e ∙ sym (ap length (c.as_slice-vs.ensures ∙ c.get-2.ensures)))),
)

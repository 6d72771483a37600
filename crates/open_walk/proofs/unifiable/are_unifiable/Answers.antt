use Rattle.std.proofs.Common.{ap, ◌∙◌, sym, length}
use Rattle.std.proofs.lemmas.Bool.{false≢true}
use Rattle.open_walk.proofs.Found.{lengths_differ}
use Rattle.open_walk.proofs.unifiable.are_unifiable.Goals as goal

pub returns-then-len : goal.returns-then-len
returns-then-len c = (
  λ t. absurd (false≢true t),
  λ u. absurd (lengths_differ c.args.two.atom.now c.args.two.negated.now
      (λ e. c.if-len.true (c.len.ensures ∙ ap length c.get.ensures ∙ e ∙ sym (c.len-2.ensures ∙ ap length c.get-2.ensures))) u),
)

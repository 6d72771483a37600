use Rattle.std.proofs.Common.{length, ap, sym, ◌∙◌}
use Rattle.unify.proofs.Resolved.{count_terms}
use Rattle.unify.proofs.work.push_arguments.Goals as goal

pub returns-then-len : goal.returns-then-len
returns-then-len c = λ e. c.if-len.true
    (c.len.ensures ∙ ap length c.get.ensures ∙ sym (count_terms c.args.us.now) ∙ e ∙ count_terms c.args.vs.now ∙ sym (c.len-2.ensures ∙ ap length c.get-2.ensures))

pub returns : goal.returns
returns c = (
  count_terms c.args.us.now ∙ sym (c.len.ensures ∙ ap length c.get.ensures) ∙ c.if-len.false ∙ c.len-2.ensures ∙ ap length c.get-2.ensures ∙ sym (count_terms c.args.vs.now),
  c.in_ok-push_pairs.ensures,
)

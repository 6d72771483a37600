use Rattle.std.proofs.lemmas.Result.{IfOk-weaker}
use Rattle.std.proofs.lemmas.Bool.{false≢true}
use Rattle.std.proofs.Common.{sym, ◌∙◌}
use Rattle.rewrite_rules.proofs.Sides.{left_rule, right_rule, no_rule}
use Rattle.rewrite_rules.proofs.equivalence.of_sides.Goals as goal

pub returns-then-branch : goal.returns-then-branch
returns-then-branch c =
    IfOk-weaker _ _ _ (λ o e. left_rule c.args.place c.args.count _ _ _ o (c.in_ok-fits.ensures.0 c.if-branch.true) e) c.with_head.ensures

pub returns-then-branch-2 : goal.returns-then-branch-2
returns-then-branch-2 c =
    IfOk-weaker _ _ _ (λ o e. right_rule c.args.place c.args.count _ _ _ o (λ f. false≢true (sym c.if-branch.false ∙ c.in_ok-fits.ensures.1 f)) (c.in_ok-fits-2.ensures.0 c.if-branch-2.true) e)
    c.with_head-then-branch-2.ensures

pub returns : goal.returns
returns c = λ r. no_rule c.args.place c.args.count _ _ r
    (λ f. false≢true (sym c.if-branch.false ∙ c.in_ok-fits.ensures.1 f))
    (λ f. false≢true (sym c.if-branch-2.false ∙ c.in_ok-fits-2.ensures.1 f))

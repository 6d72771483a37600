use Rattle.std.proofs.Common.{ap, ◌∙◌, subst}
use Rattle.fol_core.specs.View as plain
use Rattle.fol_core.specs.Syntax.{iff}
use Rattle.free_terms.specs.NoParam.{NoParamIn}
use Rattle.rewrite_rules.specs.Rules.{IsRuleOf}
use Rattle.rewrite_rules.specs.Fitting.{under}
use Rattle.rewrite_rules.proofs.Sides.{no_param_under, no_sides}
use Rattle.rewrite_rules.proofs.equivalence.rule_of_axiom.Goals as goal

pub of_sides-requires-clause-left : goal.of_sides-requires-clause-left
of_sides-requires-clause-left c =
    let sides : NoParamIn (iff (plain.formula_of c.in-Some.left.now) (plain.formula_of c.in-Some.right.now)) =
    no_param_under c.in_ok-count.count _ (subst NoParamIn (c.in_ok-count.ensures.whole ∙ ap (under c.in_ok-count.count) c.in-Some.ensures) c.requires) in
    sides.0

pub of_sides-requires-clause-right : goal.of_sides-requires-clause-right
of_sides-requires-clause-right c =
    let sides : NoParamIn (iff (plain.formula_of c.in-Some.left.now) (plain.formula_of c.in-Some.right.now)) =
    no_param_under c.in_ok-count.count _ (subst NoParamIn (c.in_ok-count.ensures.whole ∙ ap (under c.in_ok-count.count) c.in-Some.ensures) c.requires) in
    sides.1

pub returns-in-None : goal.returns-in-None
returns-in-None c = λ r x.
    no_sides c.args.place c.in_ok-count.count (plain.formula_of c.in_ok-count.at.now) r c.in_ok-count.ensures.end c.in-None.ensures
    (subst (λ a. IsRuleOf c.args.place a r) c.in_ok-count.ensures.whole x)

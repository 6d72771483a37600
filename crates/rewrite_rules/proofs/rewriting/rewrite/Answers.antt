use Rattle.free_terms.specs.View.{formula_of}
use Rattle.rewrite_rules.specs.RuleView.{rules_in}
use Rattle.rewrite_rules.proofs.Once.{rewrites_none}
use Rattle.rewrite_rules.proofs.rewriting.rewrite.Goals as goal

pub returns-in_default : goal.returns-in_default
returns-in_default c = rewrites_none (rules_in c.args.rules.now) (formula_of c.args.literal.now) c.in_default.ensures

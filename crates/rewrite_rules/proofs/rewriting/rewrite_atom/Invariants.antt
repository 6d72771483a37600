use Rattle.std.proofs.Common.{Option, drop}
use Rattle.free_terms.specs.View.{terms_of}
use Rattle.rewrite_rules.specs.Firing.{literal_of}
use Rattle.rewrite_rules.specs.Rewriting.{Rewriting, Rewrites}
use Rattle.rewrite_rules.specs.RuleView.{rules_in}
use Rattle.rewrite_rules.proofs.rewriting.rewrite_atom.Given as goal

abbrev pub invariant-loop-rule : goal.invariant-loop-rule
invariant-loop-rule l =
    (o : Option Rewriting) → Rewrites (rules_in (drop l.rule-index l.rule-items)) (literal_of l.negated l.predicate (terms_of l.args)) o
    → Rewrites (rules_in l.rule-items) (literal_of l.negated l.predicate (terms_of l.args)) o

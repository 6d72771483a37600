-- The rules that the program's rules stand for.
use Rattle.std.specs.Prelude.{◌≡◌, ◌↔◌, ℕ, Bool, true, false, List, map, get_or}
use Rattle.fol_core.specs.View as plain
use Rattle.free_terms.specs.View.{formula_of, fills_of}
use Rattle.rewrite_rules.specs.Rules.{RewriteRule, IsRuleAxiom}
use Rattle.rewrite_rules.specs.Rewriting.{Rewriting}
use Rattle.rewrite_rules.specs.declared.rule.Rule.{Rule}
use Rattle.rewrite_rules.specs.declared.rule.Rewritten.{Rewritten}

abbrev pub rule_of : Rule → RewriteRule
rule_of r = record {
  axiom_place = r.axiom;
  count = r.count;
  head_left = r.head_left;
  predicate = r.predicate;
  arguments = plain.terms_of r.arguments;
  body = formula_of r.body;
}

abbrev pub rules_in : List Rule → List RewriteRule
rules_in rules = map rule_of rules

abbrev pub rewriting_of : Rewritten → Rewriting
rewriting_of r = record {
  axiom_place = r.axiom;
  head_left = r.head_left;
  fills = fills_of r.fills;
  result = formula_of r.result;
}

-- the marks say which axioms gave a rule
abbrev pub AreMarks : List Rule → List Bool → Type 0
AreMarks rules marks = (i : ℕ) → (get_or marks i false ≡ true) ↔ IsRuleAxiom (rules_in rules) i

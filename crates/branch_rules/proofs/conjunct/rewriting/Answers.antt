use Rattle.std.proofs.Common.{refl, ap, sym, ◌∙◌}
use Rattle.std.specs.Prelude.{option_map}
use Rattle.free_terms.specs.View.{formula_of}
use Rattle.rewrite_rules.specs.RuleView.{rules_in, rewriting_of}
use Rattle.branch_rules.proofs.Chosen.{not_rewritten}
use Rattle.branch_rules.proofs.conjunct.rewriting.Goals as goal

pub returns-in-None : goal.returns-in-None
returns-in-None c =
    not_rewritten (rules_in c.args.rules.now) (formula_of c.args.entry.now.formula) (option_map rewriting_of c.in_ok-rewrite.field-0)
    (ap (option_map rewriting_of) c.in-None.is) c.in_ok-rewrite.ensures

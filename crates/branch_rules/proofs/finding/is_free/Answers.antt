use Rattle.std.proofs.Common.{◌≡◌, ◌↔◌, true, rules, ap, sym, subst, ◌∙◌}
use denote.Enum.Bare.{same_true}
use Rattle.rewrite_rules.specs.Rules.{IsRuleAxiom}
use Rattle.rewrite_rules.specs.RuleView.{rules_in}
use Rattle.branch_rules.specs.contracts.kinds.Kind.{the_type}
use Rattle.branch_rules.specs.BranchValue.{entry_of}
use Rattle.branch_rules.specs.BranchView.{branch_in}
use Rattle.branch_rules.proofs.Chosen.{free_where}
use Rattle.branch_rules.proofs.finding.is_free.Goals as goal

pub returns : goal.returns
returns c =
    let b = branch_in c.args.lists.now in
    let same : c.kind_of.result ≡ c.args.kind = same_true the_type (search rules) _ _ (sym c.if-not-is_kind.ensures) in
    free_where b c.args.kind c.args.i (entry_of c.entry_at-entry.result.now) c.is_rule_axiom.result c.entry_at-entry.ensures (sym c.kind_of.ensures ∙ same) c.requires.untaken
    (subst (λ z. (c.is_rule_axiom.result ≡ true) ↔ IsRuleAxiom z c.args.i) (ap rules_in c.requires.rules) c.is_rule_axiom.ensures)

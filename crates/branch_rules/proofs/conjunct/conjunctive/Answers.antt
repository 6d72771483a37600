use Rattle.rewrite_rules.specs.RuleView.{rules_in}
use Rattle.branch_rules.specs.BranchValue.{entry_of}
use Rattle.branch_rules.proofs.Chosen.{not_these}
use Rattle.branch_rules.proofs.conjunct.conjunctive.Goals as goal

pub returns-in-Existential : goal.returns-in-Existential
returns-in-Existential c =
    not_these (rules_in c.args.rules.now) c.args.depth (entry_of c.args.entry.now) c.kind_of.result c.kind_of.ensures c.in-Existential.is

use Rattle.rewrite_rules.proofs.WellFormed.{none_hold_params}
use Rattle.rewrite_rules.proofs.making.rules_of.Goals as goal

pub rules_of_axioms-requires : goal.rules_of_axioms-requires
rules_of_axioms-requires c = none_hold_params _ _ c.args.problem.now.kept.axioms

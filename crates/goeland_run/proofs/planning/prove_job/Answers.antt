use Rattle.fof_parse.specs.ProblemView.{plain_problem}
use Rattle.rewrite_rules.specs.Rules.{RulesOf}
use Rattle.rewrite_rules.specs.RuleView.{rules_in}
use Rattle.goeland_run.proofs.Plans.{fits-way}
use Rattle.goeland_run.proofs.planning.prove_job.Goals as goal

pub returns-clause-job : goal.returns-clause-job
returns-clause-job c =
    let rules : RulesOf c.args.asked.rewrite (plain_problem c.in_ok-new.field-0).axioms (rules_in c.in_ok-new-2.field-0) =
    rw c.in_ok-new.ensures (rw c.in_ok-new-2.ensures c.in_ok-rules.ensures) in
    record {
      serves = (rules, c.limits_of.ensures);
      rules = (c.args.asked.rewrite, rules);
      limits = rw c.limits_of.ensures c.requires;
      way = rw c.way_of.ensures (fits-way c.args.threads c.args.asked.workers c.args.asked.schedule);
    }

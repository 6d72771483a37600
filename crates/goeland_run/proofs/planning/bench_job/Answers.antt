use Rattle.std.proofs.Common.{true, None, arith}
use Rattle.fof_parse.specs.ProblemView.{plain_problem}
use Rattle.rewrite_rules.specs.Rules.{RulesOf}
use Rattle.rewrite_rules.specs.RuleView.{rules_in}
use Rattle.goeland_run.specs.Searched.{way_of}
use Rattle.goeland_run.proofs.Benched.{benches}
use Rattle.goeland_run.proofs.Plans.{fits-way}
use Rattle.goeland_run.proofs.planning.bench_job.Goals as goal

pub returns-clause-job : goal.returns-clause-job
returns-clause-job c =
    let rules : RulesOf true (plain_problem c.in_ok-new.field-0).axioms (rules_in c.in_ok-new-2.field-0) =
    rw c.in_ok-new.ensures (rw c.in_ok-new-2.ensures c.in_ok-rules.ensures) in
    record {
      serves = (rules, c.bench_limits.ensures);
      rules = (true, rules);
      limits = rw c.bench_limits.ensures (record { depth = omega arith; tries = tt; bytes = omega arith });
      way = rw c.way_of.ensures (fits-way c.args.threads c.args.workers None);
    }

pub returns-clause-decides : goal.returns-clause-decides
returns-clause-decides c = λ d told.
    benches (way_of c.args.threads c.args.workers None) c.args.n c.len.result c.in_ok-text.text.items (plain_problem c.in-Ok.problem) d
    (rw c.as_slice.ensures.value at c.in-Ok.ensures.problem) c.in_ok-text.ensures (omega (arith, c.len.ensures, c.in_ok-text.text.ok.0))
    (rw c.in_ok-new.ensures at (rw c.way_of.ensures at told))

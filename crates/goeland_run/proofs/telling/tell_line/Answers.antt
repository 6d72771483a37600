use Rattle.fof_parse.specs.ProblemView.{plain_problem}
use Rattle.rewrite_rules.specs.RuleView.{rules_in}
use Rattle.goeland_run.proofs.Benched.{benches_problem}
use Rattle.goeland_run.proofs.telling.tell_line.Goals as goal

pub returns : goal.returns
returns c =
    benches_problem c.args.job.now.way c.args.n c.args.bytes (plain_problem c.args.job.now.problem) (rules_in c.args.job.now.rules)
    c.args.job.now.limits c.args.searched.kept c.args.searched.ending c.answer_of-answer.result c.result_of-ended.result
    c.in_ok-report.report c.status_of.result c.requires.rules c.requires.limits
    c.answer_of-answer.ensures c.requires.ends c.result_of-ended.ensures c.in_ok-report.ensures.first
    c.in_ok-report.ensures.second c.status_of.ensures

use Rattle.std.proofs.Common.{refl}
use Rattle.fof_parse.specs.ProblemView.{plain_problem}
use Rattle.rewrite_rules.specs.RuleView.{rules_in}
use Rattle.goeland_run.proofs.Told.{finds_out}
use Rattle.goeland_run.proofs.telling.tell_outcome.Goals as goal

pub told-requires : goal.told-requires
told-requires c =
    finds_out c.args.job.now.way c.args.asked.now (plain_problem c.args.job.now.problem) c.args.searched.kept
    (rules_in c.args.job.now.rules) c.answer_of-answer.result c.requires.rules
    (rw c.requires.limits at (c.answer_of-answer.ensures (plain_problem c.args.job.now.problem)
    (rules_in c.args.job.now.rules) c.args.job.now.way c.args.searched.kept refl c.requires.ends))

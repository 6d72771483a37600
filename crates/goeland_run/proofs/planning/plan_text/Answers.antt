use Rattle.goeland_run.specs.Searched.{way_asked}
use Rattle.goeland_run.proofs.Answered.{text_refused}
use Rattle.goeland_run.proofs.planning.plan_text.Goals as goal

pub returns-in_ok-decided-in-Err : goal.returns-in_ok-decided-in-Err
returns-in_ok-decided-in-Err c =
    text_refused (way_asked c.args.threads c.args.asked) c.args.asked c.args.bytes.now c.in-Err.error c.in_ok-decided-in-Err.decided
    c.in-Err.ensures.refused c.in-Err.ensures.no_problem c.in_ok-decided-in-Err.ensures

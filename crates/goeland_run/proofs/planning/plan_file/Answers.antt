use Rattle.std.proofs.Common.{Err, ap}
use Rattle.goeland_run.specs.Searched.{way_asked}
use Rattle.goeland_run.proofs.Answered.{file_failed, file_too_large, has_not_failed}
use Rattle.goeland_run.proofs.planning.plan_file.Goals as goal

pub returns-in-Err-Failed-clause-plan : goal.returns-in-Err-Failed-clause-plan
returns-in-Err-Failed-clause-plan g c =
    file_failed (way_asked c.args.threads c.args.asked)
    (record {
      holds = g.S.Shelf.holds c.args.shelf.now;
      unread = g.S.Shelf.faults c.args.shelf.now;
      unread_after = g.S.Shelf.faults c.fetch.new.self;
    })
    c.args.asked c.at_once.result (c.in-Err-Failed.ensures.failed (ap Err c.in-Err-Failed.field-0-is))
    c.at_once.ensures.printed c.at_once.ensures.status c.at_once.ensures.kept

pub returns-in-Err-TooLong-clause-plan : goal.returns-in-Err-TooLong-clause-plan
returns-in-Err-TooLong-clause-plan g c =
    file_too_large (way_asked c.args.threads c.args.asked)
    (record {
      holds = g.S.Shelf.holds c.args.shelf.now;
      unread = g.S.Shelf.faults c.args.shelf.now;
      unread_after = g.S.Shelf.faults c.fetch.new.self;
    })
    c.args.asked c.at_once-in-Err-TooLong.result
    (c.in-Err-TooLong.ensures.no_fault (has_not_failed (Err c.in-Err-TooLong.field-0) (ap Err c.in-Err-TooLong.field-0-is)))
    (rw c.as_str.ensures at (c.in-Err-TooLong.ensures.too_long (ap Err c.in-Err-TooLong.field-0-is)))
    c.at_once-in-Err-TooLong.ensures.printed c.at_once-in-Err-TooLong.ensures.status c.at_once-in-Err-TooLong.ensures.kept

use denote.Param.Send.{sendable}
use Rattle.std.proofs.Common.{ap, refl}
use Rattle.std.proofs.Crossing.{crosses}
use Rattle.fof_parse.specs.ProblemView.{plain_problem}
use Rattle.round_offers.proofs.Threads.{offer_send, offer_sync}
use Rattle.goeland_report.specs.Asked.{asked_of}
use Rattle.goeland_run.proofs.Told.{tells_cause, respelled_with}
use Rattle.goeland_run.proofs.telling.told_cause.Goals as goal

pub gave_up_report-requires-send-S-Offer : goal.gave_up_report-requires-send-S-Offer
gave_up_report-requires-send-S-Offer c κs = search (offer_send, sendable, crosses) depth 40 fits 20000

pub gave_up_report-requires-sync-S-Offer : goal.gave_up_report-requires-sync-S-Offer
gave_up_report-requires-sync-S-Offer c κs = search (offer_sync, sendable, crosses) depth 40 fits 20000

pub returns : goal.returns
returns c =
    tells_cause c.args.job.now.way c.args.asked.now (plain_problem c.args.job.now.problem) c.args.kept.now c.args.cause
    (record { cause = c.args.cause; engine = c.engine_of.result; history = asked_of c.in_ok-asked_lines.field-0 })
    c.in_ok-report.report c.requires refl c.engine_of.ensures c.in_ok-asked_lines.ensures
    (respelled_with c.new-spelling.result.symbols.now c.args.job.now.problem.symbols c.args.asked.now.file _ c.in_ok-report.report
    (rw c.get.ensures at c.new-spelling.ensures) (rw c.as_str.ensures at c.in_ok-report.ensures))

use denote.Param.Send.{sendable}
use Rattle.std.proofs.Common.{◌∙◌, sym, subst, refl}
use Rattle.fof_parse.specs.declared.problem.Problem.{Problem}
use Rattle.std.proofs.Crossing.{crosses}
use Rattle.fof_parse.specs.ProblemView.{plain_problem}
use Rattle.round_offers.proofs.Threads.{offer_send, offer_sync}
use Rattle.goeland_report.specs.Asked.{asked_of}
use Rattle.goeland_run.specs.Searched.{HasSteps}
use Rattle.goeland_run.specs.Telling.{TellsOutcome}
use Rattle.goeland_run.specs.declared.printed.Printed.TheVariants.{Made}
use Rattle.goeland_run.specs.declared.status.Status.TheVariants as status
use Rattle.goeland_run.proofs.Told.{tells_proof, respelled_with, some_map}
use Rattle.goeland_run.proofs.telling.told_proof.Goals as goal

pub proof_report-requires-send-S-Offer : goal.proof_report-requires-send-S-Offer
proof_report-requires-send-S-Offer c κs = search (offer_send, sendable, crosses) depth 40 fits 20000

pub proof_report-requires-sync-S-Offer : goal.proof_report-requires-sync-S-Offer
proof_report-requires-sync-S-Offer c κs = search (offer_sync, sendable, crosses) depth 40 fits 20000

pub returns : goal.returns
returns c =
    let same = c.get-problem.ensures in
    let problem = c.get-problem.result.now in
    let way = c.args.job.now.way in
    let has =
    subst (λ (x : Problem). HasSteps way c.args.asked.now (plain_problem x) c.args.kept.now c.args.steps.now) (sym same) c.requires in
    subst (λ (x : Problem). TellsOutcome way c.args.asked.now (plain_problem x) c.args.kept.now (Made c.in_ok-report.report) status.Proved) same
    (tells_proof way c.args.asked.now (plain_problem problem) c.args.kept.now c.args.steps.now
    (record {
      theorem = c.is_some.result;
      depth = c.args.kept.now.depth;
      engine = c.engine_of.result;
      history = asked_of c.in_ok-history.history;
      text = c.in_ok-text.text.items;
    })
    c.in_ok-report.report has refl (c.is_some.ensures ∙ some_map problem.conjecture) c.engine_of.ensures
    c.in_ok-history.ensures c.in_ok-text.ensures.lines c.in_ok-text.ensures.text
    (c.in_ok-report.ensures.of_tree problem.symbols.functions)
    (respelled_with c.new-spelling.result.symbols.now problem.symbols c.args.asked.now.file _ c.in_ok-report.report
    c.new-spelling.ensures (rw c.as_str.ensures at c.in_ok-report.ensures.report)))

use Rattle.std.proofs.lemmas.Result.{IfOk-weaker}
use Rattle.gs3_run.proofs.Told.{fits_refused}
use Rattle.gs3_run.proofs.run.report_text.Goals as goal

pub returns-in-Err-clause-fits : goal.returns-in-Err-clause-fits
returns-in-Err-clause-fits g c =
    IfOk-weaker c.refused.result _ _ (λ r h.
    fits_refused c.args.bytes.now _ _ c.requires r (h c.args.bytes.now c.in-Err.ensures.refused c.in-Err.ensures.no_problem)) c.refused.ensures

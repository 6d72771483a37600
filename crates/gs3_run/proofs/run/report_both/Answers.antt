use Rattle.std.proofs.lemmas.Result.{IfOk-weaker}
use Rattle.gs3_run.proofs.Told.{fits_told}
use Rattle.gs3_run.proofs.run.report_both.Goals as goal

pub returns-in-Ok-clause-fits : goal.returns-in-Ok-clause-fits
returns-in-Ok-clause-fits g c =
    let holds = g.S.Shelf.holds c.args.shelf.now in
    let before = g.S.Shelf.faults c.args.shelf.now in
    let after = g.S.Shelf.faults c.report_text.new.shelf in
    let told = holds c.args.problem.now in
    let proof = holds c.args.proof.now in
    IfOk-weaker c.report_text.result _ _ (λ r k.
    fits_told told proof c.in-Ok.bytes.items before after c.in-Ok.ensures.bytes r
    (rw (c.in-Ok.ensures.no_fault (λ e. cc)) at (rw (c.in-Ok.ensures.kept c.args.proof.now) at (rw c.deref.ensures.value at k)))) c.report_text.ensures.fits

use Rattle.std.proofs.lemmas.Result.{on_err_weaker}
use Rattle.goeland_run.specs.PrintedText.{first_text, second_text}
use Rattle.goeland_run.proofs.Puts.{then_front}
use Rattle.goeland_run.proofs.printing.put_printed.Goals as goal

pub returns-clause-err : goal.returns-clause-err
returns-clause-err g c =
    on_err_weaker c.put-2.result (λ k.
    then_front _ _ _ (first_text c.args.printed.now) (second_text c.args.printed.now)
    (rw c.first_text.ensures at c.in_ok-put.ensures.ok) (rw c.second_text-second.ensures at k)) c.put-2.ensures.err

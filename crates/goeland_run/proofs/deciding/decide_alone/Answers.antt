use Rattle.std.proofs.Common.{sym, subst}
use Rattle.goeland_run.specs.Jobs.{IsSearch}
use Rattle.goeland_run.specs.declared.planning.Plan.{Plan}
use Rattle.goeland_run.proofs.Plans.{on-error}
use Rattle.goeland_run.proofs.deciding.decide_alone.Goals as goal

pub returns-in_err-searched-clause-err : goal.returns-in_err-searched-clause-err
returns-in_err-searched-clause-err g c =
    on-error c.from_residual-in_err-searched.result
    (c.in_ok-decided.ensures.read (subst (λ (p : Plan). IsSearch p) (sym c.in-Search.is) tt))

pub returns-clause-err : goal.returns-clause-err
returns-clause-err g c =
    on-error c.finish.result (c.in_ok-decided.ensures.read (subst (λ (p : Plan). IsSearch p) (sym c.in-Search.is) tt))

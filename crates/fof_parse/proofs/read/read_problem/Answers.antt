use Rattle.std.proofs.Common.{sym, subst}
use Rattle.std.proofs.lemmas.Result.{err_from_is_err_and}
use Rattle.fof_parse.specs.ProblemView.{plain_contents}
use Rattle.fof_parse.specs.TheProblem.{IsTheProblem}
use Rattle.fof_parse.proofs.Once.{the_problem}
use Rattle.fof_parse.proofs.Kept.{kept}
use Rattle.fof_parse.proofs.Apart.{not_both_ways}
use Rattle.fof_parse.proofs.read.read_problem.Goals as goal

pub problem_of-requires : goal.problem_of-requires
problem_of-requires c = kept c.args.bytes.now (plain_contents c.in_ok-contents.contents) c.in_ok-contents.ensures.contents

pub returns-clause-problem : goal.returns-clause-problem
returns-clause-problem c =
    subst (IsTheProblem c.args.bytes.now) (sym c.problem_of.ensures)
    (the_problem c.args.bytes.now (plain_contents c.in_ok-contents.contents) c.in_ok-contents.ensures.contents)

pub returns-in_err-contents-clause-no_problem : goal.returns-in_err-contents-clause-no_problem
returns-in_err-contents-clause-no_problem c =
    let e = err_from_is_err_and c.from_residual.result c.from_residual.ensures.1 in
    rw e.1 (rw e.2 (λ some problem text. not_both_ways c.args.bytes.now problem c.in_err-contents.field-0.0 some text c.in_err-contents.ensures.refused))

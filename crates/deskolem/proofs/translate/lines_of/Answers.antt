use Rattle.std.proofs.Common.{◌++◌, ap, ◌∙◌, arith}
use Rattle.fof_parse.specs.ProblemView.{plain_problem}
use Rattle.tab_tree.specs.ClosingView.{closed_tree_of}
use Rattle.translation.specs.Translation.{run_of}
use Rattle.deskolem.proofs.Answered.{listed, list_refused}
use Rattle.deskolem.proofs.translate.lines_of.Goals as goal

pub returns-in-Err-clause-lines : goal.returns-in-Err-clause-lines
returns-in-Err-clause-lines c =
    list_refused (plain_problem c.args.problem.now) (closed_tree_of c.args.tree.now) c.append.new.walk c.walk_tree.new.walk
    (c.in_ok-append.ensures.places ∙ ap (λ l. l ++ run_of 0 c.start_len.result) c.new.ensures.items ∙ ap (run_of 0) c.start_len.ensures.value)
    (omega (arith, c.in_ok-append.ensures.len, c.start_len.ensures.value)) c.in-Err.e c.args.most c.in_ok-append.ensures.left c.in-Err.ensures.walks

pub returns-clause-lines : goal.returns-clause-lines
returns-clause-lines c =
    listed (plain_problem c.args.problem.now) (closed_tree_of c.args.tree.now) c.append.new.walk c.walk_tree.new.walk
    (c.in_ok-append.ensures.places ∙ ap (λ l. l ++ run_of 0 c.start_len.result) c.new.ensures.items ∙ ap (run_of 0) c.start_len.ensures.value)
    (omega (arith, c.in_ok-append.ensures.len, c.start_len.ensures.value)) tt c.args.most (c.in_ok-append.ensures.lines ∙ c.new-2.ensures) c.in-Ok.ensures.walks

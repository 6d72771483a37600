use Rattle.unify.specs.View.{offer_of}
use Rattle.deskolem.specs.Lines.{rules_of_lines}
use Rattle.deskolem.specs.View.{names_of}
use Rattle.deskolem.proofs.Answered.{count_refused, count_nests, count_fits}
use Rattle.deskolem.proofs.translate.check_limits.Goals as goal

pub returns-in-Err : goal.returns-in-Err
returns-in-Err c =
    let fs = c.args.problem.now.symbols.functions in
    count_refused fs (rules_of_lines (offer_of c.args.s.now) (names_of c.args.names.now) c.args.lines.now) c.args.limit c.in-Err.e (c.in-Err.ensures fs c.in_ok-lengths.ensures)

pub returns-then-count-gt4096 : goal.returns-then-count-gt4096
returns-then-count-gt4096 c =
    let fs = c.args.problem.now.symbols.functions in
    count_nests fs (rules_of_lines (offer_of c.args.s.now) (names_of c.args.names.now) c.args.lines.now) c.args.limit c.in-Ok.count (c.in-Ok.ensures fs c.in_ok-lengths.ensures)
    c.if-count-gt4096.true

pub returns : goal.returns
returns c =
    let fs = c.args.problem.now.symbols.functions in
    count_fits fs (rules_of_lines (offer_of c.args.s.now) (names_of c.args.names.now) c.args.lines.now) c.args.limit tt c.in-Ok.count (c.in-Ok.ensures fs c.in_ok-lengths.ensures)
    c.if-count-gt4096.false

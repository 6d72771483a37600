use Rattle.std.proofs.Common.{Ok, Err, sym, subst, ◌∙◌}
use Rattle.fof_parse.specs.ProblemView.{plain_problem}
use Rattle.rewrite_rules.specs.RuleView.{rules_in}
use Rattle.unify.specs.View.{offer_of}
use Rattle.tab_tree.specs.ClosingView.{closed_tree_of}
use Rattle.translation.specs.Laws.{translation}
use Rattle.deskolem.specs.Answer.{Answers, AreBuilt}
use Rattle.deskolem.specs.Lines.{rules_of_lines, symbols_of}
use Rattle.deskolem.specs.Walking.{ListsSteps}
use Rattle.deskolem.proofs.Answered.{lines_refused, build_refused, answered, steps_whole}
use Rattle.deskolem.proofs.translate.to_gs3.Goals as goal

pub returns-in-Err : goal.returns-in-Err
returns-in-Err c =
    let round = c.args.round.now in
    let tree = closed_tree_of c.args.tree.now in
    lines_refused (plain_problem round.problem) (rules_in round.rules) round.depth (offer_of c.args.s.now) tree c.args.limit c.requires.closed c.most_steps.result c.in-Err.e c.most_steps.ensures.enough
    (subst (λ p. ListsSteps (plain_problem p) tree c.most_steps.result (Err c.in-Err.e)) (c.get-problem.ensures ∙ c.problem.ensures) c.in-Err.ensures.lines)

pub tree_of-requires : goal.tree_of-requires
tree_of-requires c =
    let round = c.args.round.now in
    let tree = closed_tree_of c.args.tree.now in
    let s = offer_of c.args.s.now in
    let is = c.get-problem.ensures ∙ c.problem.ensures in
    let lines = c.in-Ok.lines in
    steps_whole (plain_problem round.problem) (rules_in round.rules) round.depth s tree c.args.limit c.requires.closed lines c.most_steps.result c.in-Ok-build_lines.steps round.problem.kept
    (subst (λ p. ListsSteps (plain_problem p) tree c.most_steps.result (Ok lines)) is c.in-Ok.ensures.lines)
    (subst (λ l. AreBuilt (plain_problem round.problem).symbols.functions (rules_of_lines s (symbols_of l) l) c.args.limit (Ok c.in-Ok-build_lines.steps)) c.as_slice.ensures
    (subst (λ p. AreBuilt (plain_problem p).symbols.functions (rules_of_lines s (symbols_of c.as_slice.result.now) c.as_slice.result.now) c.args.limit (Ok c.in-Ok-build_lines.steps)) is c.in-Ok-build_lines.ensures))

pub returns-in-Ok-build_lines : goal.returns-in-Ok-build_lines
returns-in-Ok-build_lines c =
    let round = c.args.round.now in
    let tree = closed_tree_of c.args.tree.now in
    let s = offer_of c.args.s.now in
    let is = c.get-problem.ensures ∙ c.problem.ensures in
    let lines = c.in-Ok.lines in
    subst (λ steps. Answers (plain_problem round.problem) c.args.limit (translation (plain_problem round.problem) (rules_in round.rules) s tree) (Ok steps)) (sym c.tree_of.ensures)
    (answered (plain_problem round.problem) (rules_in round.rules) round.depth s tree c.args.limit c.requires.closed lines c.most_steps.result c.in-Ok-build_lines.steps round.problem.kept c.requires.limit
    (subst (λ p. ListsSteps (plain_problem p) tree c.most_steps.result (Ok lines)) is c.in-Ok.ensures.lines)
    (subst (λ l. AreBuilt (plain_problem round.problem).symbols.functions (rules_of_lines s (symbols_of l) l) c.args.limit (Ok c.in-Ok-build_lines.steps)) c.as_slice.ensures
    (subst (λ p. AreBuilt (plain_problem p).symbols.functions (rules_of_lines s (symbols_of c.as_slice.result.now) c.as_slice.result.now) c.args.limit (Ok c.in-Ok-build_lines.steps)) is c.in-Ok-build_lines.ensures)))

pub returns : goal.returns
returns c =
    let round = c.args.round.now in
    let tree = closed_tree_of c.args.tree.now in
    let s = offer_of c.args.s.now in
    let is = c.get-problem.ensures ∙ c.problem.ensures in
    let lines = c.in-Ok.lines in
    build_refused (plain_problem round.problem) (rules_in round.rules) round.depth s tree c.args.limit c.requires.closed lines c.most_steps.result c.in-Err-build_lines.e
    (subst (λ p. ListsSteps (plain_problem p) tree c.most_steps.result (Ok lines)) is c.in-Ok.ensures.lines)
    (subst (λ l. AreBuilt (plain_problem round.problem).symbols.functions (rules_of_lines s (symbols_of l) l) c.args.limit (Err c.in-Err-build_lines.e)) c.as_slice.ensures
    (subst (λ p. AreBuilt (plain_problem p).symbols.functions (rules_of_lines s (symbols_of c.as_slice.result.now) c.as_slice.result.now) c.args.limit (Err c.in-Err-build_lines.e)) is c.in-Err-build_lines.ensures))

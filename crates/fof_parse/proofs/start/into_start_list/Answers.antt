use Rattle.std.proofs.Common.{[], ◌∷◌, ◌++◌, map, append-nil, sym, ap, ◌∙◌}
use Rattle.std.specs.Prelude.{option_map, option_to_list}
use Rattle.std.proofs.lemmas.List.{map-append}
use Rattle.fol_core.specs.Syntax.{not}
use Rattle.fol_core.specs.View.{formula_of, formulas_of}
use Rattle.fof_parse.proofs.start.into_start_list.Goals.{in-Some+in_ok-negated+in_ok-push, in_default}
use Rattle.fof_parse.proofs.start.into_start_list.Goals as goal

pub returns-clause-start : goal.returns-clause-start
returns-clause-start c =
    let axioms = formulas_of c.args.problem.axioms in
    elim c.match-conjecture.branch [
      | in-Some+in_ok-negated+in_ok-push w ↦
          ap formulas_of (w.list-is ∙ w.in_ok-push.ensures.ok) ∙ map-append formula_of c.args.problem.axioms (w.in_ok-negated.field-0 ∷ [])
          ∙ ap (λ a. axioms ++ a ∷ []) w.in_ok-negated.ensures ∙ ap (λ o. axioms ++ map not (option_to_list (option_map formula_of o))) (sym w.in-Some.is)
      | in_default w ↦
          ap formulas_of w.list-is ∙ sym (append-nil axioms) ∙ ap (λ o. axioms ++ map not (option_to_list (option_map formula_of o))) (sym w.in_default.is)
    ]

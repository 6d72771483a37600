use Rattle.std.proofs.Common.{◌≡◌, rules, arith, ap, sym, ◌∙◌}
use Rattle.std.proofs.lemmas.Result.{IfOk-weaker}
use Rattle.std.proofs.lemmas.Grind.{common_steps}
use Rattle.fol_core.specs.View as plain
use Rattle.fol_core.specs.declared.formula.Formula.TheViews.{the_lemmas}
use Rattle.fol_core.specs.Syntax.{atom}
use Rattle.fol_core.specs.View.{formula_by}
use Rattle.fol_core.specs.declared.formula.Formula.TheVariants.{Atom, Verum, Falsum}
use Rattle.fol_core.proofs.Trees as trees
use Rattle.fol_core.proofs.Trees.{formula_by_atom, formula_by_verum, formula_by_falsum}
use Rattle.fol_core.specs.Around.{plain_in_wrap}
use Rattle.free_terms.specs.Free.{lift}
use Rattle.free_terms.specs.View.{terms_of}
use Rattle.free_terms.specs.NoParam.{NoParamIn}
use Rattle.fol_core.proofs.Around.{plain_around_below, built_as}
use Rattle.free_terms.proofs.Params.{lift_all, lift_ex}
use Rattle.free_terms.proofs.lifting.+lifted.Goals as goal
use Rattle.free_terms.proofs.lifting.+lifted.Goals.{lifted-in-Not, lifted-in-And+in_ok-lifted_part-in-And, lifted-in-Or+in_ok-lifted_part-in-Or, lifted-in-Imp+in_ok-lifted_part-in-Imp, lifted-in-Iff+in_ok-lifted_part-in-Iff, lifted-in-All, lifted-in-Ex}

pub lifted-loop-at-preserved : goal.lifted-loop-at-preserved
lifted-loop-at-preserved t c =
    let is_level : plain_in_wrap terms_of c.match-at.wrap.0 (lift (plain.formula_of c.get-at.result.now)) ≡ lift (plain.formula_of c.loop-at.at.now) = elim c.match-at.branch [ lifted-in-Not w ↦ grind (arith, common_steps, trees.levels) | lifted-in-And+in_ok-lifted_part-in-And w ↦ grind (arith, common_steps, trees.levels) | lifted-in-Or+in_ok-lifted_part-in-Or w ↦ grind (arith, common_steps, trees.levels) | lifted-in-Imp+in_ok-lifted_part-in-Imp w ↦ grind (arith, common_steps, trees.levels) | lifted-in-Iff+in_ok-lifted_part-in-Iff w ↦ grind (arith, common_steps, trees.levels) | lifted-in-All w ↦ grind (arith, common_steps, trees.levels, lift_all) | lifted-in-Ex w ↦ grind (arith, common_steps, trees.levels, lift_ex) ]
    in
    let none_left : NoParamIn (plain.formula_of c.get-at.result.now) = elim c.match-at.branch [ lifted-in-Not w ↦ search (rules, the_lemmas, trees.levels) | lifted-in-And+in_ok-lifted_part-in-And w ↦ search (rules, the_lemmas, trees.levels) | lifted-in-Or+in_ok-lifted_part-in-Or w ↦ search (rules, the_lemmas, trees.levels) | lifted-in-Imp+in_ok-lifted_part-in-Imp w ↦ search (rules, the_lemmas, trees.levels) | lifted-in-Iff+in_ok-lifted_part-in-Iff w ↦ search (rules, the_lemmas, trees.levels) | lifted-in-All w ↦ search (rules, the_lemmas, trees.levels) | lifted-in-Ex w ↦ search (rules, the_lemmas, trees.levels) ] in record {
      smaller = search (rules, the_lemmas);
      no_param = none_left;
      whole = plain_around_below terms_of _ _ _ _ _ _ c.in_ok-push.ensures.items is_level c.loop-at.invariant.whole;
    }

pub lifted-returns-in-Atom : goal.lifted-returns-in-Atom
lifted-returns-in-Atom t c =
    let is_end : formula_by terms_of (Atom c.in-Atom.p c.in_ok-args-in-Atom.args) ≡ lift (plain.formula_of c.loop-at.at.now) =
    formula_by_atom terms_of _ _ ∙ ap (atom c.in-Atom.p) c.in_ok-args-in-Atom.ensures ∙ sym (ap lift (ap plain.formula_of c.in-Atom.is ∙ trees.formula_of_atom _ _))
    in IfOk-weaker c.rebuilt.result _ _ (λ found is. built_as terms_of _ _ found _ _ is is_end c.loop-at.invariant.whole) c.rebuilt.ensures

pub lifted-returns-in-Verum : goal.lifted-returns-in-Verum
lifted-returns-in-Verum t c =
    let is_end : formula_by terms_of Verum ≡ lift (plain.formula_of c.loop-at.at.now) =
    formula_by_verum terms_of ∙ sym (ap lift (ap plain.formula_of c.in-Verum.is ∙ trees.formula_of_verum))
    in IfOk-weaker c.rebuilt-in-Verum.result _ _ (λ found is. built_as terms_of _ _ found _ _ is is_end c.loop-at.invariant.whole) c.rebuilt-in-Verum.ensures

pub lifted-returns-in-Falsum : goal.lifted-returns-in-Falsum
lifted-returns-in-Falsum t c =
    let is_end : formula_by terms_of Falsum ≡ lift (plain.formula_of c.loop-at.at.now) =
    formula_by_falsum terms_of ∙ sym (ap lift (ap plain.formula_of c.in-Falsum.is ∙ trees.formula_of_falsum))
    in IfOk-weaker c.rebuilt-in-Falsum.result _ _ (λ found is. built_as terms_of _ _ found _ _ is is_end c.loop-at.invariant.whole) c.rebuilt-in-Falsum.ensures

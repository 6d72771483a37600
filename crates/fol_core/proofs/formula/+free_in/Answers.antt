use Rattle.std.proofs.Common.{◌≡◌, ◌-◌, rules, ap, sym, ◌∙◌, inl, inr}
use Rattle.fol_core.specs.Syntax.{free_in}
use Rattle.fol_core.specs.View.{formula_of}
use Rattle.fol_core.specs.declared.formula.Formula.TheViews.{the_lemmas}
use Rattle.fol_core.proofs.Trees.{formula_of_all, formula_of_ex}
use Rattle.fol_core.proofs.Depth.{remains_quantifier}
use Rattle.fol_core.proofs.formula.+free_in.Goals as goal

pub loop-at-preserved-in-loop-at : goal.loop-at-preserved-in-loop-at
loop-at-preserved-in-loop-at t c =
    let one_less : free_in (formula_of c.loop-at.at.now) ≡ free_in (formula_of c.in-All.a) - 1 = elim c.in-All.is [ inl e ↦ ap free_in (ap formula_of e ∙ formula_of_all c.in-All.a) | inr e ↦ ap free_in (ap formula_of e ∙ formula_of_ex c.in-All.a) ]
    in record {
      smaller = search (rules, the_lemmas);
      remains = remains_quantifier _ _ _ _ _ _ _ (one_less ∙ ap (λ f. free_in (formula_of f) - 1) (sym c.get-at-in-All.ensures)) c.saturating_add-depth.ensures c.loop-at.invariant.remains;
    }

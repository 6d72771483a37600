use Rattle.std.proofs.Common.{ap, sym, ◌∙◌}
use Rattle.fol_core.specs.View as plain
use Rattle.fol_core.proofs.Trees.{formula_of_all}
use Rattle.rewrite_rules.specs.Fitting.{under}
use Rattle.rewrite_rules.proofs.Stripping.{under_all}
use Rattle.rewrite_rules.proofs.equivalence.strip.Goals as goal

pub loop-at-preserved : goal.loop-at-preserved
loop-at-preserved c =
    c.loop-at.invariant ∙ ap (λ f. under c.loop-at.count (plain.formula_of f)) c.in-All.is ∙ ap (under c.loop-at.count) (formula_of_all c.in-All.body)
    ∙ under_all c.loop-at.count (plain.formula_of c.in-All.body) ∙ ap (λ n. under n (plain.formula_of c.in-All.body)) (sym c.in_ok-count.ensures)
    ∙ ap (λ f. under c.in_ok-count.count (plain.formula_of f)) (sym c.get-at.ensures)

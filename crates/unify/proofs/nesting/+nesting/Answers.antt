use Rattle.std.proofs.Common.{length, ap, sym, ◌∙◌, arith}
use Rattle.std.proofs.lemmas.Bool.{false≢true, eq-eqb}
use Rattle.unify.proofs.Depths.{some_below}
use Rattle.unify.proofs.nesting.+nesting.Goals as goal

pub nested_below-returns-then-most-eq0 : goal.nested_below-returns-then-most-eq0
nested_below-returns-then-most-eq0 t c =
    let some = some_below c.args.us.now
    (λ e. false≢true (sym c.if-is_empty.false ∙ c.is_empty.ensures ∙ eq-eqb _ _ (ap length (c.as_slice-us.ensures ∙ c.get.ensures) ∙ e))) in
    omega (arith, some, c.if-most-eq0.true)

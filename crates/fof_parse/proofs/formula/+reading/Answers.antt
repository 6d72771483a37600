use Rattle.std.proofs.Common.{None, sym, ap, ◌∙◌, refl, arith}
use Rattle.fof_parse.specs.Reader.Building.{names}
use Rattle.fof_parse.proofs.Formulas.{reads_negation, reads_group, no_scope, reads_quantified, reads_variable}
use Rattle.fof_parse.proofs.Means.{no_next_unit, whole_formula}
use Rattle.fof_parse.proofs.Found.{negation_parsed, group_parsed, unclosed_group, quantified_parsed, scope_parsed, names_more, next_parsed}
use Rattle.fof_parse.proofs.formula.+reading.Goals as goal

pub group_at-returns-in_default-clause-unit : goal.group_at-returns-in_default-clause-unit
group_at-returns-in_default-clause-unit t c = reads_group _ _ None None c.requires.lead (rw c.in_default.is at c.in_ok-formula.ensures.formula) refl

pub group_at-returns-in-None-clause-unit : goal.group_at-returns-in-None-clause-unit
group_at-returns-in-None-clause-unit t c =
    let found = rw c.in-Some.is at c.in_ok-formula.ensures.formula in unclosed_group _ _ _ _ _ _ _ c.requires.lead found.0 (sym c.in-None.ensures.mark)

pub group_at-returns-in-Some-after_mark-clause-unit : goal.group_at-returns-in-Some-after_mark-clause-unit
group_at-returns-in-Some-after_mark-clause-unit t c =
    let found = rw c.in-Some.is at c.in_ok-formula.ensures.formula in
    (group_parsed _ _ _ _ _ _ _ _ c.requires.lead found.0 (sym c.in-Some-after_mark.ensures.mark), omega (arith, found.1, c.in-Some-after_mark.ensures.next.0))

pub negation_at-returns-in_default-clause-unit : goal.negation_at-returns-in_default-clause-unit
negation_at-returns-in_default-clause-unit t c = reads_negation _ _ None None c.requires.lead (rw c.in_default.is at c.in_ok-formula.ensures.unit) refl

pub negation_at-returns-clause-unit : goal.negation_at-returns-clause-unit
negation_at-returns-clause-unit t c =
    let found = rw c.in-Some.is at c.in_ok-formula.ensures.unit in
    (negation_parsed _ _ _ _ _ _ _ _ c.requires.lead found.0 c.in_ok-formula-2.ensures, omega (arith, found.1))

pub quantified_at-returns-in_default-clause-unit : goal.quantified_at-returns-in_default-clause-unit
quantified_at-returns-in_default-clause-unit t c = no_scope _ _ c.args.quantifier c.requires.lead (sym c.in_default.ensures.mark)

pub quantified_at-returns-in_default-2-clause-unit : goal.quantified_at-returns-in_default-2-clause-unit
quantified_at-returns-in_default-2-clause-unit t c =
    reads_quantified _ _ _ c.args.quantifier None c.requires.lead (sym c.in-Some.ensures.mark) (rw c.in_default-2.is at c.in_ok-front.ensures.unit)

pub quantified_at-returns-clause-unit : goal.quantified_at-returns-clause-unit
quantified_at-returns-clause-unit t c =
    let found = rw c.in-Some-2.is at c.in_ok-front.ensures.unit in
    (quantified_parsed _ _ _ _ _ _ _ c.args.quantifier _ c.requires.lead (sym c.in-Some.ensures.mark) found.0, omega (arith, found.1, c.in-Some.ensures.next.0))

pub scope_at-returns-in_default-bound-clause-unit : goal.scope_at-returns-in_default-bound-clause-unit
scope_at-returns-in_default-bound-clause-unit t c =
    reads_variable c.args.quantifier _ _ _ None None (sym c.in-Some.ensures.variable) (rw c.in_default-bound.is at c.in_ok-bound.ensures.unit) refl

pub scope_at-returns-clause-unit : goal.scope_at-returns-clause-unit
scope_at-returns-clause-unit t c =
    let found = rw c.in-Some-bound.is at c.in_ok-bound.ensures.unit in
    (scope_parsed _ _ _ _ _ _ c.args.quantifier _ _ _ _ (sym c.in-Some.ensures.variable) (names_more _ _ _ c.in_ok-push.ensures.items) found.0 c.in_ok-formula.ensures, omega (arith, found.1))

pub formula_at-returns-in_default-2-clause-formula : goal.formula_at-returns-in_default-2-clause-formula
formula_at-returns-in_default-2-clause-formula t c =
    no_next_unit _ _ _ _ _ _ _ c.in-Some-next_operator.op _ c.loop-op.invariant.so_far (sym c.in-Some-next_operator.ensures.operator) (rw c.in_default-2.is at c.in_ok-right.ensures.unit)

pub formula_at-loop-op-preserved : goal.formula_at-loop-op-preserved
formula_at-loop-op-preserved t c =
    let found = rw c.in-Some-2.is at c.in_ok-right.ensures.unit in
    record {
      scope = c.in_ok-right.ensures.scope ∙ c.loop-op.invariant.scope;
      so_far = next_parsed _ _ _ _ _ _ _ _ _ _ _ c.in-Some-next_operator.op _ _ c.loop-op.invariant.so_far (sym c.in-Some-next_operator.ensures.operator) (ap names c.loop-op.invariant.scope) found.0
          c.in_ok-joined.ensures;
      further = omega (arith, c.loop-op.invariant.further, found.1);
    }

pub formula_at-returns-clause-formula : goal.formula_at-returns-clause-formula
formula_at-returns-clause-formula t c = (whole_formula _ _ _ _ _ _ _ c.loop-op.invariant.so_far (sym c.in_default-next_operator.ensures.operator), c.loop-op.invariant.further)

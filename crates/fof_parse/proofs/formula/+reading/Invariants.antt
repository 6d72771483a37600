use Rattle.std.proofs.Common.{◌≡◌, ◌<◌, ◌+◌, ◌-◌, ◌*◌, length}
use Rattle.fol_core.specs.View.{formula_of}
use Rattle.fof_parse.specs.Reader.Text.{from}
use Rattle.fof_parse.specs.Reader.Building.{names, state_of}
use Rattle.fof_parse.proofs.Means.{FormulaSoFar}
use Rattle.fof_parse.proofs.formula.+reading.Given as goal

abbrev pub decreases-unit_at : goal.decreases-unit_at
decreases-unit_at l = 3 * (length l.text.now.tokens.now - l.at) + 1

abbrev pub decreases-negation_at : goal.decreases-negation_at
decreases-negation_at l = 3 * (length l.text.now.tokens.now - l.at)

abbrev pub decreases-group_at : goal.decreases-group_at
decreases-group_at l = 3 * (length l.text.now.tokens.now - l.at)

abbrev pub decreases-quantified_at : goal.decreases-quantified_at
decreases-quantified_at l = 3 * (length l.text.now.tokens.now - l.at)

abbrev pub decreases-scope_at : goal.decreases-scope_at
decreases-scope_at l = 3 * (length l.text.now.tokens.now - l.at)

abbrev pub decreases-bound_at : goal.decreases-bound_at
decreases-bound_at l = 3 * (length l.text.now.tokens.now - l.at) + 2

abbrev pub decreases-formula_at : goal.decreases-formula_at
decreases-formula_at l = 3 * (length l.text.now.tokens.now - l.at) + 2

abbrev pub invariant-formula_at-loop-op : goal.invariant-formula_at-loop-op
invariant-formula_at-loop-op l = record {
  scope : l.scope.items ≡ l.fn.scope.items;
  so_far : FormulaSoFar (from l.text l.at) (names l.fn.scope.items) (state_of l.fn.draft) (state_of l.draft) l.by (formula_of l.front.formula) (from l.text l.front.next);
  further : l.at < l.front.next;
}

abbrev pub decreases-formula_at-loop-op : goal.decreases-formula_at-loop-op
decreases-formula_at-loop-op l = length l.text.tokens.now - l.front.next

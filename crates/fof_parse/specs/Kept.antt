-- What every problem keeps.
use Rattle.std.specs.Prelude.{◌≡◌, ◌≤◌, Bool, not, length, Some, IfSome, option_to_list}
use Rattle.std.specs.List.{All, count_by}
use Rattle.fol_core.specs.Symbol.{IsSymbolName}
use Rattle.fof_parse.specs.Problem.{Label, PlainProblem, is_conjecture_role}
use Rattle.fof_parse.specs.TheProblem.{most_bytes}
use Rattle.fof_parse.specs.WellFormed.{IsClosedOver}

abbrev pub is_conjecture_label : Label → Bool
is_conjecture_label l = is_conjecture_role (Some l.role)

abbrev pub is_axiom_label : Label → Bool
is_axiom_label l = not (is_conjecture_label l)

-- The facts of a problem.
pub record IsKept (problem : PlainProblem) : Type 0 where
  -- it has no more of each kind than a text has bytes
  pub few_labels : length problem.labels ≤ most_bytes
  pub few_axioms : length problem.axioms ≤ most_bytes
  pub few_functions : length problem.symbols.functions ≤ most_bytes
  pub few_predicates : length problem.symbols.predicates ≤ most_bytes
  -- each statement's name is one or more bytes from 32 to 126
  pub named : All (λ l. IsSymbolName l.name) problem.labels
  -- its formulas are closed and use its symbols alone
  pub axioms : All (IsClosedOver problem.symbols) problem.axioms
  pub conjecture : IfSome problem.conjecture (IsClosedOver problem.symbols)
  -- each axiom has its label, and so has the conjecture
  pub axiom_labels : count_by is_axiom_label problem.labels ≡ length problem.axioms
  pub conjecture_labels : count_by is_conjecture_label problem.labels ≡ length (option_to_list problem.conjecture)

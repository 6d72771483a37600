-- What contracts see of a branch.
use Rattle.std.specs.Prelude.{ℕ, List, map, Option, refl}
use Rattle.std.specs.Coded.{Coded, code_by, coded×, coded_ℕ, coded_list, coded_option}
use Rattle.free_terms.specs.View.{FreeTermFormula, name_of, formula_of, formulas_of}
use Rattle.rewrite_rules.specs.RuleView.{rules_in, rewriting_of}
use Rattle.rewrite_rules.specs.declared.rule.Rule.{Rule}
use Rattle.rewrite_rules.specs.contracts.rule.Rule as rule
use Rattle.branch_rules.specs.Branch as spec
use Rattle.branch_rules.specs.declared.held.Entry.{Entry}
use Rattle.branch_rules.specs.contracts.held.Entry as held_entry
use Rattle.branch_rules.specs.declared.step.TabKind.{TabKind}
use Rattle.branch_rules.specs.declared.step.TabKind.TheVariants.{Alpha, Rewrite, Skolem, Instance}
use Rattle.branch_rules.specs.declared.step.Done.{Done}
use Rattle.branch_rules.specs.declared.step.Done.TheVariants.{Step, Left, Right}
use Rattle.branch_rules.specs.contracts.step.Done as done

-- the start list's formulas, the rules, the steps done, and the place that is ready to split
pub record BranchValue : Type 0 where
  pub start : List FreeTermFormula
  pub rules : List Rule
  pub steps : List Done
  pub ready : Option ℕ

-- a formula is coded as that of an entry
abbrev pub formula_code : Coded FreeTermFormula
formula_code =
    code_by Entry held_entry.the_row.coded (λ f. record { formula = f; level = 0 }) (λ e. e.formula) (λ _. refl)

abbrev pub branch_code : Coded BranchValue
branch_code =
    code_by (List FreeTermFormula × (List Rule × (List Done × Option ℕ)))
    (coded× (coded_list formula_code)
    (coded× (coded_list rule.the_row.coded) (coded× (coded_list done.the_row.coded) (coded_option coded_ℕ))))
    (λ b. (b.start, (b.rules, (b.steps, b.ready))))
    (λ p. record { start = p.0; rules = p.1.0; steps = p.1.1.0; ready = p.1.1.1 })
    (λ _. refl)

abbrev pub entry_of : Entry → spec.Entry
entry_of e = record { formula = formula_of e.formula; level = e.level }

abbrev pub done_as : ℕ → TabKind → spec.Done
done_as i Alpha = spec.expand i
done_as i (Rewrite r) = spec.rewrite i (rewriting_of r)
done_as i (Skolem x) = spec.skolemize i (name_of x)
done_as i (Instance x) = spec.instantiate i (name_of x)

abbrev pub done_of : Done → spec.Done
done_of (Step i kind) = done_as i kind
done_of (Left i) = spec.go_left i
done_of (Right i) = spec.go_right i

abbrev pub branch_of : BranchValue → spec.Branch
branch_of b = record { start = formulas_of b.start; rules = rules_in b.rules; steps = map done_of b.steps }

-- What contracts see of a round.
use Rattle.std.specs.Prelude.{ℕ, Bool, List, map, refl}
use Rattle.std.specs.Coded.{Coded, code_by, coded×, coded_ℕ, coded_list}
use Rattle.fof_parse.specs.Problem.{Start}
use Rattle.fof_parse.specs.ProblemView.{plain_problem}
use Rattle.fof_parse.specs.declared.problem.Problem.{Problem}
use Rattle.fof_parse.specs.contracts.problem.Problem as problem
use Rattle.free_terms.specs.Free.{lift}
use Rattle.rewrite_rules.specs.Rules.{RulesOf}
use Rattle.rewrite_rules.specs.RuleView.{rules_in}
use Rattle.rewrite_rules.specs.declared.rule.Rule.{Rule}
use Rattle.rewrite_rules.specs.contracts.rule.Rule as rule
use Rattle.branch_rules.specs.Branch.{Branch, root}

pub record RoundValue : Type 0 where
  pub problem : Problem
  pub rules : List Rule
  pub depth : ℕ

abbrev pub round_code : Coded RoundValue
round_code =
    code_by (Problem × (List Rule × ℕ)) (coded× problem.the_row.coded (coded× (coded_list rule.the_row.coded) coded_ℕ))
    (λ r. (r.problem, (r.rules, r.depth))) (λ p. record { problem = p.0; rules = p.1.0; depth = p.1.1 }) (λ _. refl)

-- the branch from which the round's tableau grows
abbrev pub root_of : RoundValue → Branch
root_of r = root (map lift (Start (plain_problem r.problem))) (rules_in r.rules)

-- The round's rules are those that its problem gives, with rewriting on or off.
abbrev pub HasRulesOfProblem : RoundValue → Type 0
HasRulesOfProblem r = (on : Bool) × RulesOf on (plain_problem r.problem).axioms (rules_in r.rules)

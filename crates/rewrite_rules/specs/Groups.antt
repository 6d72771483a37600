-- Rules by the predicate symbol of their heads.
use Rattle.std.specs.Prelude.{◌≡◌, ℕ, eqb, List, [], get_or}
use Rattle.std.specs.List.{filter}
use Rattle.rewrite_rules.specs.declared.rule.Rule.{Rule}

-- the rules whose head has the predicate symbol, in their order
abbrev pub rules_for : ℕ → List Rule → List Rule
rules_for p rules = filter (λ r. eqb r.predicate p) rules

-- each group holds the rules of the predicate symbol that is its place
abbrev pub AreGroups : List Rule → List (List Rule) → Type 0
AreGroups rules groups = (p : ℕ) → get_or groups p [] ≡ rules_for p rules

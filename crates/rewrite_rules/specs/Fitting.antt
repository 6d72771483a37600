-- Whether each variable of a formula stands in the arguments of an atom, as a test.
use Rattle.std.specs.Prelude.{ℕ, zero, suc, ◌-◌, Bool, true, false, ◌||◌, ◌&&◌, nat_lt, ◌≡◌, Option, Some, None, List}
use Rattle.std.specs.Prelude.{[], ◌∷◌, get_or}
use Rattle.fol_core.specs.Syntax.{PlainTerm, PlainTerms, PlainFormula, bound, param, app, no_terms, terms, atom, verum}
use Rattle.fol_core.specs.Syntax.{falsum, not, and, or, imp, iff, all, ex}
use Rattle.free_terms.specs.NoParam.{NoParamIn}
use Rattle.free_terms.specs.Matching.{variable_in_terms}
use Rattle.rewrite_rules.specs.Rules.{RewriteRule, rule_from}

-- the marks say which variables stand in the terms
abbrev pub AreVariables : List Bool → PlainTerms → Type 0
AreVariables marks us = (n : ℕ) → get_or marks n false ≡ variable_in_terms n us

-- whether each variable that lies more than m quantifiers further out is marked
abbrev mutual
  pub term_uses : ℕ → List Bool → PlainTerm → Bool
  term_uses m marks (bound k) = nat_lt k m || get_or marks (k - m) false
  term_uses m marks (param k) = true
  term_uses m marks (app f us) = terms_use m marks us

  pub terms_use : ℕ → List Bool → PlainTerms → Bool
  terms_use m marks no_terms = true
  terms_use m marks (terms u us) = term_uses m marks u && terms_use m marks us

abbrev pub uses_only : ℕ → List Bool → PlainFormula → Bool
uses_only m marks (atom p us) = terms_use m marks us
uses_only m marks verum = true
uses_only m marks falsum = true
uses_only m marks (not a) = uses_only m marks a
uses_only m marks (and a b) = uses_only m marks a && uses_only m marks b
uses_only m marks (or a b) = uses_only m marks a && uses_only m marks b
uses_only m marks (imp a b) = uses_only m marks a && uses_only m marks b
uses_only m marks (iff a b) = uses_only m marks a && uses_only m marks b
uses_only m marks (all a) = uses_only (suc m) marks a
uses_only m marks (ex a) = uses_only (suc m) marks a

-- the formula under so many quantifiers
abbrev pub under : ℕ → PlainFormula → PlainFormula
under zero a = a
under (suc n) a = all (under n a)

-- no `!` stands outermost
abbrev pub IsStripped : PlainFormula → Type 0
IsStripped (all a) = ⊥
IsStripped (atom p us) = Unit {0}
IsStripped verum = Unit {0}
IsStripped falsum = Unit {0}
IsStripped (not a) = Unit {0}
IsStripped (and a b) = Unit {0}
IsStripped (or a b) = Unit {0}
IsStripped (imp a b) = Unit {0}
IsStripped (iff a b) = Unit {0}
IsStripped (ex a) = Unit {0}

-- the rule with the one side as its head, where that is an atom
abbrev pub rule_with_head : ℕ → ℕ → Bool → PlainFormula → PlainFormula → Option RewriteRule
rule_with_head place n on_left (atom p us) body = Some (rule_from place n on_left p us body)
rule_with_head place n on_left verum body = None
rule_with_head place n on_left falsum body = None
rule_with_head place n on_left (not a) body = None
rule_with_head place n on_left (and a b) body = None
rule_with_head place n on_left (or a b) body = None
rule_with_head place n on_left (imp a b) body = None
rule_with_head place n on_left (iff a b) body = None
rule_with_head place n on_left (all a) body = None
rule_with_head place n on_left (ex a) body = None

abbrev pub HoldNoParams : List PlainFormula → Type 0
HoldNoParams [] = Unit {0}
HoldNoParams (a ∷ fs) = NoParamIn a × HoldNoParams fs

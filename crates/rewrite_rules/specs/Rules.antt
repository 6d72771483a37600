-- The rules that rewrite literals: equivalences among a problem's axioms.
use Rattle.std.specs.Prelude.{◌≡◌, ℕ, zero, suc, Bool, true, false, ◌||◌, List, [], ◌∷◌, ◌⊎◌}
use Rattle.fol_core.specs.Syntax as plain
use Rattle.fol_core.specs.Syntax.{PlainFormula, PlainTerms, atom, not, iff, all}
use Rattle.free_terms.specs.Free.{FreeFormula, lift}
use Rattle.free_terms.specs.Matching.{variable_in_terms}

-- An equivalence P <=> F under quantifiers for count variables, as a rule that rewrites P to F. F stands here as a
-- formula of the free-variable tableau.
pub record RewriteRule : Type 0 where
  pub axiom_place : ℕ
  pub count : ℕ
  pub head_left : Bool
  pub predicate : ℕ
  pub arguments : PlainTerms
  pub body : FreeFormula

-- whether the variable that lies n quantifiers further out stands in the formula
abbrev pub variable_in : ℕ → PlainFormula → Bool
variable_in n (atom p us) = variable_in_terms n us
variable_in n plain.verum = false
variable_in n plain.falsum = false
variable_in n (not a) = variable_in n a
variable_in n (plain.and a b) = variable_in n a || variable_in n b
variable_in n (plain.or a b) = variable_in n a || variable_in n b
variable_in n (plain.imp a b) = variable_in n a || variable_in n b
variable_in n (iff a b) = variable_in n a || variable_in n b
variable_in n (all a) = variable_in (suc n) a
variable_in n (plain.ex a) = variable_in (suc n) a

-- The first formula fits with the second: it is an atom, and each variable of the second stands in it.
abbrev pub FitsWith : PlainFormula → PlainFormula → Type 0
FitsWith (atom p us) body = (n : ℕ) → variable_in n body ≡ true → variable_in_terms n us ≡ true
FitsWith _ body = ⊥

-- an equivalence of the two sides, under count quantifiers
abbrev pub Equivalence : ℕ → PlainFormula → PlainFormula → PlainFormula → Type 0
Equivalence zero a left right = a ≡ iff left right
Equivalence (suc n) a left right = (b : PlainFormula) × (a ≡ all b) × Equivalence n b left right

-- the rule of the axiom at the place, under n quantifiers, with this head and this body
abbrev pub rule_from : ℕ → ℕ → Bool → ℕ → PlainTerms → PlainFormula → RewriteRule
rule_from place n head_left p us body = record {
  axiom_place = place;
  count = n;
  head_left = head_left;
  predicate = p;
  arguments = us;
  body = lift body;
}

-- The rule of the axiom: its head is the left side where that fits with the right one, else the right side where that
-- fits with the left one.
pub data IsRuleOf (place : ℕ) (axiom_ : PlainFormula) : RewriteRule → Type 0 where
  by_left : (n p : ℕ) (us : PlainTerms) (right : PlainFormula)
      → Equivalence n axiom_ (atom p us) right → FitsWith (atom p us) right
      → IsRuleOf place axiom_ (rule_from place n true p us right)
  by_right : (n p : ℕ) (us : PlainTerms) (left : PlainFormula)
      → Equivalence n axiom_ left (atom p us) → (FitsWith left (atom p us) → ⊥) → FitsWith (atom p us) left
      → IsRuleOf place axiom_ (rule_from place n false p us left)

-- the rules of the axioms from the place on, in input order
abbrev pub AreRules : ℕ → List PlainFormula → List RewriteRule → Type 0
AreRules place [] rules = rules ≡ []
AreRules place (a ∷ axioms) rules =
    ((rule : RewriteRule) × (rest : List RewriteRule) × (rules ≡ rule ∷ rest) × IsRuleOf place a rule
    × AreRules (suc place) axioms rest)
    ⊎ (((rule : RewriteRule) → IsRuleOf place a rule → ⊥) × AreRules (suc place) axioms rules)

-- The rules of the axioms with rewriting on, and none with it off.
abbrev pub RulesOf : Bool → List PlainFormula → List RewriteRule → Type 0
RulesOf true axioms rules = AreRules 0 axioms rules
RulesOf false axioms rules = rules ≡ []

-- The axiom at the place gave one of the rules.
abbrev pub IsRuleAxiom : List RewriteRule → ℕ → Type 0
IsRuleAxiom [] i = ⊥
IsRuleAxiom (rule ∷ rules) i = (rule.axiom_place ≡ i) ⊎ IsRuleAxiom rules i

-- The marks of axioms that gave a rule, and the rules so far.
use Rattle.std.proofs.Common.{◌≡◌, ℕ, zero, suc, ◌+◌, ◌<◌, ◌≤◌, Bool, true, false, List, [], ◌∷◌, ◌++◌, length, drop, get_or, Option, Some, None, refl, ap, sym, ◌∙◌, subst, arith, ◌⊎◌, inl, inr, append-nil, append_assoc}
use Rattle.std.specs.Prelude.{MatchOption, option_to_list}
use Rattle.std.specs.Option.{is_some}
use Rattle.std.proofs.Math.Seq.{drop-cons}
use Rattle.std.proofs.lemmas.Bool.{false≢true}
use Rattle.std.proofs.lemmas.List.{drop_all, map-append}
use Rattle.fol_core.specs.Syntax.{PlainFormula}
use Rattle.fol_core.specs.View as plain
use Rattle.fol_core.specs.View.{TermFormula}
use Rattle.free_terms.specs.NoParam.{NoParamIn}
use Rattle.rewrite_rules.specs.Rules.{RewriteRule, IsRuleOf, by_left, by_right, AreRules, IsRuleAxiom}
use Rattle.rewrite_rules.specs.Fitting.{HoldNoParams}
use Rattle.rewrite_rules.specs.RuleView.{rule_of, rules_in, AreMarks}
use Rattle.rewrite_rules.specs.declared.rule.Rule.{Rule}

last_mark : (marks : List Bool) (q : Bool) (j : ℕ) → get_or (marks ++ q ∷ []) j false ≡ true → (get_or marks j false ≡ true) ⊎ ((j ≡ length marks) × (q ≡ true))
last_mark [] q zero e = inr (refl, e)
last_mark [] q (suc j) e = absurd (false≢true e)
last_mark (m ∷ marks) q zero e = inl e
last_mark (m ∷ marks) q (suc j) e = further (last_mark marks q j e) where
  further : (get_or marks j false ≡ true) ⊎ ((j ≡ length marks) × (q ≡ true)) → (get_or marks j false ≡ true) ⊎ ((suc j ≡ suc (length marks)) × (q ≡ true))
  further (inl x) = inl x
  further (inr x) = inr (ap suc x.0, x.1)

mark_stays : (marks : List Bool) (q : Bool) (j : ℕ) → get_or marks j false ≡ true → get_or (marks ++ q ∷ []) j false ≡ true
mark_stays [] q j e = absurd (false≢true e)
mark_stays (m ∷ marks) q zero e = e
mark_stays (m ∷ marks) q (suc j) e = mark_stays marks q j e

mark_at_end : (marks : List Bool) (q : Bool) → get_or (marks ++ q ∷ []) (length marks) false ≡ q
mark_at_end [] q = refl
mark_at_end (m ∷ marks) q = mark_at_end marks q

last_axiom : (rs : List RewriteRule) (r : RewriteRule) (j : ℕ) → IsRuleAxiom (rs ++ r ∷ []) j → IsRuleAxiom rs j ⊎ (r.axiom_place ≡ j)
last_axiom [] r j (inl e) = inr e
last_axiom [] r j (inr h) = absurd h
last_axiom (x ∷ rs) r j (inl e) = inl (inl e)
last_axiom (x ∷ rs) r j (inr h) = further (last_axiom rs r j h) where
  further : IsRuleAxiom rs j ⊎ (r.axiom_place ≡ j) → IsRuleAxiom (x ∷ rs) j ⊎ (r.axiom_place ≡ j)
  further (inl y) = inl (inr y)
  further (inr y) = inr y

axiom_stays : (rs : List RewriteRule) (r : RewriteRule) (j : ℕ) → IsRuleAxiom rs j → IsRuleAxiom (rs ++ r ∷ []) j
axiom_stays [] r j h = absurd h
axiom_stays (x ∷ rs) r j (inl e) = inl e
axiom_stays (x ∷ rs) r j (inr h) = inr (axiom_stays rs r j h)

axiom_at_end : (rs : List RewriteRule) (r : RewriteRule) → IsRuleAxiom (rs ++ r ∷ []) r.axiom_place
axiom_at_end [] r = inl refl
axiom_at_end (x ∷ rs) r = inr (axiom_at_end rs r)

rules_last : (items : List Rule) (rule : Rule) → rules_in (items ++ rule ∷ []) ≡ rules_in items ++ rule_of rule ∷ []
rules_last items rule = map-append rule_of items (rule ∷ [])

pub marks_none : (items : List Rule) (marks : List Bool) → AreMarks items marks → AreMarks items (marks ++ false ∷ [])
marks_none items marks h j = (λ e. by_last (last_mark marks false j e), λ a. mark_stays marks false j ((h j).1 a)) where
  by_last : (get_or marks j false ≡ true) ⊎ ((j ≡ length marks) × (false ≡ true)) → IsRuleAxiom (rules_in items) j
  by_last (inl x) = (h j).0 x
  by_last (inr x) = absurd (false≢true x.1)

pub marks_some : (items : List Rule) (marks : List Bool) (rule : Rule) → rule.axiom ≡ length marks → AreMarks items marks → AreMarks (items ++ rule ∷ []) (marks ++ true ∷ [])
marks_some items marks rule at h j = (
  λ e. subst (λ rs. IsRuleAxiom rs j) (sym (rules_last items rule)) (by_mark (last_mark marks true j e)),
  λ a. by_axiom (last_axiom (rules_in items) (rule_of rule) j (subst (λ rs. IsRuleAxiom rs j) (rules_last items rule) a)),
) where
  by_mark : (get_or marks j false ≡ true) ⊎ ((j ≡ length marks) × (true ≡ true)) → IsRuleAxiom (rules_in items ++ rule_of rule ∷ []) j
  by_mark (inl x) = axiom_stays (rules_in items) (rule_of rule) j ((h j).0 x)
  by_mark (inr x) = subst (IsRuleAxiom (rules_in items ++ rule_of rule ∷ [])) (at ∙ sym x.0) (axiom_at_end (rules_in items) (rule_of rule))

  by_axiom : IsRuleAxiom (rules_in items) j ⊎ (rule.axiom ≡ j) → get_or (marks ++ true ∷ []) j false ≡ true
  by_axiom (inl x) = mark_stays marks true j ((h j).1 x)
  by_axiom (inr x) = subst (λ k. get_or (marks ++ true ∷ []) k false ≡ true) (sym at ∙ x) (mark_at_end marks true)

pub rule_place : (place : ℕ) (a : PlainFormula) (r : RewriteRule) → IsRuleOf place a r → r.axiom_place ≡ place
rule_place place a r (by_left n p us right e fits) = refl
rule_place place a r (by_right n p us left e other fits) = refl

-- with the rules of the axioms from the place on, these are the rules of all
pub record SoFar (axioms : List TermFormula) (i : ℕ) (items : List Rule) : Type 0 where
  pub made : (rest : List RewriteRule) → AreRules i (plain.formulas_of (drop i axioms)) rest → AreRules 0 (plain.formulas_of axioms) (rules_in items ++ rest)
  pub left : HoldNoParams (plain.formulas_of (drop i axioms))

pub so_far_start : (axioms : List TermFormula) → HoldNoParams (plain.formulas_of axioms) → SoFar axioms 0 []
so_far_start axioms h = record { made = λ rest r. r; left = h }

pub so_far_some : (axioms : List TermFormula) (i : ℕ) (a : TermFormula) (items : List Rule) (rule : Rule) → drop i axioms ≡ a ∷ drop (suc i) axioms
    → IsRuleOf i (plain.formula_of a) (rule_of rule) → SoFar axioms i items → SoFar axioms (suc i) (items ++ rule ∷ [])
so_far_some axioms i a items rule e is h = record {
  made = λ rest r.
      subst (AreRules 0 (plain.formulas_of axioms)) (sym (append_assoc (rules_in items) (rule_of rule ∷ []) rest) ∙ ap (λ rs. rs ++ rest) (sym (rules_last items rule)))
      (h.made (rule_of rule ∷ rest) (subst (λ fs. AreRules i (plain.formulas_of fs) (rule_of rule ∷ rest)) (sym e) (inl (rule_of rule, rest, refl, is, r))));
  left = (subst (λ fs. HoldNoParams (plain.formulas_of fs)) e h.left).1;
}

pub so_far_none : (axioms : List TermFormula) (i : ℕ) (a : TermFormula) (items : List Rule) → drop i axioms ≡ a ∷ drop (suc i) axioms
    → ((r : RewriteRule) → IsRuleOf i (plain.formula_of a) r → ⊥) → SoFar axioms i items → SoFar axioms (suc i) items
so_far_none axioms i a items e none h = record {
  made = λ rest r. h.made rest (subst (λ fs. AreRules i (plain.formulas_of fs) rest) (sym e) (inr (none, r)));
  left = (subst (λ fs. HoldNoParams (plain.formulas_of fs)) e h.left).1;
}

pub here_no_param : (axioms : List TermFormula) (i : ℕ) (a : TermFormula) (items : List Rule) → drop i axioms ≡ a ∷ drop (suc i) axioms → SoFar axioms i items → NoParamIn (plain.formula_of a)
here_no_param axioms i a items e h = (subst (λ fs. HoldNoParams (plain.formulas_of fs)) e h.left).0

pub so_far_end : (axioms : List TermFormula) (i : ℕ) (items : List Rule) → length axioms ≤ i → SoFar axioms i items → AreRules 0 (plain.formulas_of axioms) (rules_in items)
so_far_end axioms i items le h =
    subst (AreRules 0 (plain.formulas_of axioms)) (append-nil (rules_in items))
    (h.made [] (subst (λ fs. AreRules i (plain.formulas_of fs) []) (sym (drop_all i axioms le)) refl))

-- what the loop over the axioms keeps
pub record Kept (axioms : List TermFormula) (i : ℕ) (items : List Rule) (marks : List Bool) : Type 0 where
  pub made : SoFar axioms i items
  pub marked : AreMarks items marks
  pub all_marked : length marks ≡ i

one_longer : (marks : List Bool) (q : Bool) → length (marks ++ q ∷ []) ≡ suc (length marks)
one_longer [] q = refl
one_longer (m ∷ marks) q = ap suc (one_longer marks q)

pub kept_more : (axioms : List TermFormula) (i n : ℕ) (a : TermFormula) (items new : List Rule) (marks more : List Bool) (made : Option Rule) → i < length axioms → a ≡ get_or axioms i a → n ≡ i
    → MatchOption made ((r : RewriteRule) → IsRuleOf n (plain.formula_of a) r → ⊥) (λ r. IsRuleOf n (plain.formula_of a) (rule_of r))
    → new ≡ items ++ option_to_list made → more ≡ marks ++ is_some made ∷ [] → Kept axioms i items marks → Kept axioms (i + 1) new more
kept_more axioms i n a items new marks more made lt at place given is_new is_more h =
    let front : drop i axioms ≡ a ∷ drop (suc i) axioms = drop-cons axioms i a lt ∙ ap (λ x. x ∷ drop (suc i) axioms) (sym at) in
    let next : suc i ≡ i + 1 = omega arith in
    subst (λ k. Kept axioms k new more) next
    (subst (λ x. Kept axioms (suc i) x more) (sym is_new) (subst (λ x. Kept axioms (suc i) (items ++ option_to_list made) x) (sym is_more) (by_made made front given)))
  where
    by_made : (o : Option Rule) → drop i axioms ≡ a ∷ drop (suc i) axioms
        → MatchOption o ((r : RewriteRule) → IsRuleOf n (plain.formula_of a) r → ⊥) (λ r. IsRuleOf n (plain.formula_of a) (rule_of r))
        → Kept axioms (suc i) (items ++ option_to_list o) (marks ++ is_some o ∷ [])
    by_made None front none = record {
      made = subst (SoFar axioms (suc i)) (sym (append-nil items)) (so_far_none axioms i a items front (λ r x. none r (subst (λ k. IsRuleOf k (plain.formula_of a) r) (sym place) x)) h.made);
      marked = subst (λ x. AreMarks x (marks ++ false ∷ [])) (sym (append-nil items)) (marks_none items marks h.marked);
      all_marked = one_longer marks false ∙ ap suc h.all_marked;
    }
    by_made (Some rule) front is = record {
      made = so_far_some axioms i a items rule front (subst (λ k. IsRuleOf k (plain.formula_of a) (rule_of rule)) place is) h.made;
      marked = marks_some items marks rule (rule_place n (plain.formula_of a) (rule_of rule) is ∙ place ∙ sym h.all_marked) h.marked;
      all_marked = one_longer marks true ∙ ap suc h.all_marked;
    }

pub kept_start : (axioms : List TermFormula) → HoldNoParams (plain.formulas_of axioms) → Kept axioms 0 [] []
kept_start axioms h = record { made = so_far_start axioms h; marked = λ j. ((λ e. absurd (false≢true e)), (λ a. absurd a)); all_marked = refl }

pub one_no_param : (axioms : List TermFormula) (i : ℕ) (a : TermFormula) (items : List Rule) → i < length axioms → a ≡ get_or axioms i a → SoFar axioms i items → NoParamIn (plain.formula_of a)
one_no_param axioms i a items lt at h = here_no_param axioms i a items (drop-cons axioms i a lt ∙ ap (λ x. x ∷ drop (suc i) axioms) (sym at)) h

pub begun : (axioms whole : List TermFormula) (items : List Rule) (marks : List Bool) → axioms ≡ whole → items ≡ [] → marks ≡ [] → HoldNoParams (plain.formulas_of whole) → Kept axioms 0 items marks
begun axioms whole items marks e f g h =
    subst (λ x. Kept axioms 0 x marks) (sym f) (subst (λ x. Kept axioms 0 [] x) (sym g) (kept_start axioms (subst (λ x. HoldNoParams (plain.formulas_of x)) (sym e) h)))

pub ended : (axioms whole : List TermFormula) (i : ℕ) (items made : List Rule) (marks : List Bool) → axioms ≡ whole → length axioms ≤ i → made ≡ items → Kept axioms i items marks
    → AreRules 0 (plain.formulas_of whole) (rules_in made)
ended axioms whole i items made marks e le f h =
    subst (λ x. AreRules 0 (plain.formulas_of x) (rules_in made)) e (subst (λ x. AreRules 0 (plain.formulas_of axioms) (rules_in x)) (sym f) (so_far_end axioms i items le h.made))

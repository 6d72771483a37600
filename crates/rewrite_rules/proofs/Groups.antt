-- Rules in groups: a literal is rewritten by the group of its predicate symbol as by all rules.
use Rattle.std.proofs.Common.{◌≡◌, ℕ, suc, ◌+◌, ◌<◌, ◌≤◌, Bool, true, false, eqb, List, [], ◌∷◌, length, drop, get_or, Option, Some, None, refl, ap, sym, ◌∙◌, subst, arith, ◌⊎◌, inl, inr}
use Rattle.std.specs.List.{All}
use Rattle.std.proofs.lemmas.List.Elements.{All-nil, All-cons}
use Rattle.std.proofs.Math.Seq.{drop-cons}
use Rattle.std.proofs.lemmas.List.{drop_all}
use Rattle.std.proofs.lemmas.Bool.Decides.{eqb_tells}
use Rattle.free_terms.specs.Free.{FreeTerms}
use Rattle.rewrite_rules.specs.Firing.{Answers, literal_of}
use Rattle.rewrite_rules.specs.Groups.{rules_for}
use Rattle.rewrite_rules.specs.Rules.{RewriteRule}
use Rattle.rewrite_rules.specs.Rewriting.{Rewriting, Fires, Rewrites}
use Rattle.rewrite_rules.specs.RuleView.{rule_of, rules_in}
use Rattle.rewrite_rules.specs.declared.rule.Rule.{Rule}

fires_same : (negated : Bool) (p : ℕ) (us : FreeTerms) (rule : RewriteRule) (r : Rewriting) → Fires rule (literal_of negated p us) r → p ≡ rule.predicate
fires_same false p us rule r x = x.0
fires_same true p us rule r x = x.0

first_kept : (r : Rule) (rules : List Rule) (p : ℕ) → eqb r.predicate p ≡ true → rules_for p (r ∷ rules) ≡ r ∷ rules_for p rules
first_kept r rules p e = rw e refl

first_left : (r : Rule) (rules : List Rule) (p : ℕ) → eqb r.predicate p ≡ false → rules_for p (r ∷ rules) ≡ rules_for p rules
first_left r rules p e = rw e refl

-- what the group of a predicate symbol makes of its literals is what all rules make of them
pub rewrites_by_group : (rules : List Rule) (negated : Bool) (p : ℕ) (us : FreeTerms) (o : Option Rewriting)
    → Rewrites (rules_in (rules_for p rules)) (literal_of negated p us) o → Rewrites (rules_in rules) (literal_of negated p us) o
rewrites_by_group [] negated p us o h = h
rewrites_by_group (r ∷ rules) negated p us o h = by_head (eqb_tells r.predicate p) (rewrites_by_group rules negated p us o) h where
  by_head : ((eqb r.predicate p ≡ true) × (r.predicate ≡ p)) ⊎ ((eqb r.predicate p ≡ false) × (r.predicate ≡ p → ⊥))
      → (Rewrites (rules_in (rules_for p rules)) (literal_of negated p us) o → Rewrites (rules_in rules) (literal_of negated p us) o)
      → Rewrites (rules_in (rules_for p (r ∷ rules))) (literal_of negated p us) o → Rewrites (rules_in (r ∷ rules)) (literal_of negated p us) o
  by_head (inl e) rest k = further (subst (λ rs. Rewrites (rules_in rs) (literal_of negated p us) o) (first_kept r rules p e.0) k) where
    further : Rewrites (rules_in (r ∷ rules_for p rules)) (literal_of negated p us) o → Rewrites (rules_in (r ∷ rules)) (literal_of negated p us) o
    further (inl x) = inl x
    further (inr x) = inr (x.0, rest x.1)
  by_head (inr e) rest k = inr (
    (λ x f. e.1 (sym (fires_same negated p us (rule_of r) x f))),
    rest (subst (λ rs. Rewrites (rules_in rs) (literal_of negated p us) o) (first_left r rules p e.0) k),
  )

-- each rule of a group has the predicate symbol
pub have_predicate : (rules : List Rule) (p : ℕ) → All (λ r. r.predicate ≡ p) (rules_for p rules)
have_predicate [] p = All-nil (λ r. r.predicate ≡ p)
have_predicate (r ∷ rules) p = by_head (eqb_tells r.predicate p) (have_predicate rules p) where
  by_head : ((eqb r.predicate p ≡ true) × (r.predicate ≡ p)) ⊎ ((eqb r.predicate p ≡ false) × (r.predicate ≡ p → ⊥))
      → All (λ r. r.predicate ≡ p) (rules_for p rules) → All (λ r. r.predicate ≡ p) (rules_for p (r ∷ rules))
  by_head (inl e) rest = subst (All (λ r. r.predicate ≡ p)) (sym (first_kept r rules p e.0)) (All-cons (λ r. r.predicate ≡ p) r (rules_for p rules) e.1 rest)
  by_head (inr e) rest = subst (All (λ r. r.predicate ≡ p)) (sym (first_left r rules p e.0)) rest

-- one step through a group: where the rule at the place makes nothing of the literal, those behind it answer, and where
-- it makes something, that is the answer
pub group_step : (group : List Rule) (negated : Bool) (p : ℕ) (us : FreeTerms) (i : ℕ) (rule : Rule) → i < length group
    → rule ≡ get_or group i rule → rule.predicate ≡ p → Answers (rule_of rule) (literal_of negated rule.predicate us) None
    → (o : Option Rewriting) → Rewrites (rules_in (drop (i + 1) group)) (literal_of negated p us) o → Rewrites (rules_in (drop i group)) (literal_of negated p us) o
group_step group negated p us i rule lt at is none o h =
    let front : drop i group ≡ rule ∷ drop (suc i) group = drop-cons group i rule lt ∙ ap (λ x. x ∷ drop (suc i) group) (sym at) in
    let next : i + 1 ≡ suc i = omega arith in
    subst (λ rs. Rewrites (rules_in rs) (literal_of negated p us) o) (sym front)
    (inr (subst (λ q. (r : Rewriting) → Fires (rule_of rule) (literal_of negated q us) r → ⊥) is none, subst (λ k. Rewrites (rules_in (drop k group)) (literal_of negated p us) o) next h))

pub group_answer : (group : List Rule) (negated : Bool) (p : ℕ) (us : FreeTerms) (i : ℕ) (rule : Rule) (r : Rewriting) → i < length group
    → rule ≡ get_or group i rule → rule.predicate ≡ p → Answers (rule_of rule) (literal_of negated rule.predicate us) (Some r)
    → Rewrites (rules_in (drop i group)) (literal_of negated p us) (Some r)
group_answer group negated p us i rule r lt at is fires =
    let front : drop i group ≡ rule ∷ drop (suc i) group = drop-cons group i rule lt ∙ ap (λ x. x ∷ drop (suc i) group) (sym at) in
    subst (λ rs. Rewrites (rules_in rs) (literal_of negated p us) (Some r)) (sym front)
    (inl (r, refl, subst (λ q. Fires (rule_of rule) (literal_of negated q us) r) is fires))

-- the end of a group
pub group_end : (rules group : List Rule) (negated : Bool) (p : ℕ) (us : FreeTerms) (i : ℕ) → group ≡ rules_for p rules → length group ≤ i
    → ((o : Option Rewriting) → Rewrites (rules_in (drop i group)) (literal_of negated p us) o → Rewrites (rules_in group) (literal_of negated p us) o)
    → Rewrites (rules_in rules) (literal_of negated p us) None
group_end rules group negated p us i is le h =
    rewrites_by_group rules negated p us None
    (subst (λ rs. Rewrites (rules_in rs) (literal_of negated p us) None) is (h None (subst (λ rs. Rewrites (rules_in rs) (literal_of negated p us) None) (sym (drop_all i group le)) refl)))

-- the first rule of a group that makes something of the literal
pub group_found : (rules group : List Rule) (negated : Bool) (p : ℕ) (us : FreeTerms) (i : ℕ) (rule : Rule) (r : Rewriting) → group ≡ rules_for p rules → i < length group
    → rule ≡ get_or group i rule → Answers (rule_of rule) (literal_of negated rule.predicate us) (Some r)
    → ((o : Option Rewriting) → Rewrites (rules_in (drop i group)) (literal_of negated p us) o → Rewrites (rules_in group) (literal_of negated p us) o)
    → Rewrites (rules_in rules) (literal_of negated p us) (Some r)
group_found rules group negated p us i rule r is lt at fires h =
    let each : All (λ x. x.predicate ≡ p) group = subst (All (λ x. x.predicate ≡ p)) (sym is) (have_predicate rules p) in
    let same : rule.predicate ≡ p = ap (λ x. x.predicate) at ∙ each i rule lt in
    rewrites_by_group rules negated p us (Some r)
    (subst (λ rs. Rewrites (rules_in rs) (literal_of negated p us) (Some r)) is (h (Some r) (group_answer group negated p us i rule r lt at same fires)))

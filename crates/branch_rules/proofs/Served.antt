-- One entry is served, and one step comes next, up to the side of a split.
use Rattle.std.proofs.Common.{◌≡◌, ℕ, ◌<◌, ◌≤◌, true, false, List, Option, Some, None, IsSome, is_some, slice_get, refl, ap, sym, ◌∙◌, subst, arith, ◌⊎◌, inl, inr}
use Rattle.std.proofs.lemmas.Bool.{false≢true}
use Rattle.free_terms.specs.Free.{FreeFormula}
use Rattle.rewrite_rules.specs.Rewriting.{Rewriting}
use Rattle.fol_core.specs.Syntax.{FormulaOver, atom, not}
use Rattle.gs3_rules.specs.Rules.{alpha_parts}
use Rattle.rewrite_rules.specs.Rules.{RewriteRule}
use Rattle.rewrite_rules.specs.Rewriting.{Rewrites}
use Rattle.rewrite_rules.specs.Firing.{IsLiteral}
use Rattle.rewrite_rules.proofs.Once.{rewrites_once, rewrites_literal}
use Rattle.branch_rules.specs.Branch.{Branch, Done, expand, rewrite, skolemize, instantiate, go_left, go_right, principal, is_split, entries}
use Rattle.branch_rules.specs.Next.{Class, conjunctive, existential, disjunctive, universal, rank, IsPending, ComesFirst, IsServed, Serves, ComesNext}

literal_no_alpha : (a : FreeFormula) → IsLiteral a → alpha_parts a ≡ None
literal_no_alpha (atom p us) x = refl
literal_no_alpha (not (atom p us)) x = refl
literal_no_alpha a x = absurd x

-- no conjunctive formula is rewritten
pub rewrites_no_alpha : (rules : List RewriteRule) (a : FreeFormula) (r : Rewriting) → Rewrites rules a (Some r) → alpha_parts a ≡ None
rewrites_no_alpha rules a r x = literal_no_alpha a (rewrites_literal rules a r x)

-- of two entries that come first, neither is another than the other
one_place : (b : Branch) (c : Class) (i j : ℕ) → ComesFirst b c i j → ComesFirst b c j i → i ≡ j
one_place b conjunctive i j le ge = omega arith
one_place b existential i j le ge = omega arith
one_place b disjunctive i j le ge = omega arith
one_place b universal i j (inl x) (inl y) = let no_order : ⊥ = omega arith in absurd no_order
one_place b universal i j (inl x) (inr y) = let no_order : ⊥ = omega (arith, y.0) in absurd no_order
one_place b universal i j (inr x) (inl y) = let no_order : ⊥ = omega (arith, x.0) in absurd no_order
one_place b universal i j (inr x) (inr y) = omega (arith, x.1, y.1)

pub one_served : (b : Branch) (d : ℕ) (c e : Class) (i j : ℕ) → IsServed b d c i → IsServed b d e j → (c ≡ e) × (i ≡ j)
one_served b d c e i j x y = by_order (x.first e j y.pending) (y.first c i x.pending) where
  by_order : (rank c < rank e) ⊎ ((e ≡ c) × ComesFirst b c i j) → (rank e < rank c) ⊎ ((c ≡ e) × ComesFirst b e j i) → (c ≡ e) × (i ≡ j)
  by_order (inl m) (inl n) = let no_order : ⊥ = omega arith in absurd no_order
  by_order (inl m) (inr n) = let no_order : ⊥ = omega (arith, ap rank n.0) in absurd no_order
  by_order (inr m) (inl n) = let no_order : ⊥ = omega (arith, ap rank m.0) in absurd no_order
  by_order (inr m) (inr n) = (n.0, one_place b c i j m.1 (subst (λ z. ComesFirst b z j i) m.0 n.1))

-- the same step, or both are sides of one split
abbrev pub AreOne : Done → Done → Type 0
AreOne s t = (s ≡ t) ⊎ ((is_split s ≡ true) × (is_split t ≡ true))

no_alpha_is_some : {A : Type 0} (o : Option A) → o ≡ None → IsSome o → ⊥
no_alpha_is_some o e s = false≢true (sym (ap is_some e) ∙ s)

some_once : {A : Type 0} (x y : A) → Some x ≡ Some y → x ≡ y
some_once x y e = cc

pub served_once : (b : Branch) (c : Class) (i : ℕ) (a : FreeFormula) (s t : Done) → Serves b c i a s → Serves b c i a t → AreOne s t
served_once b conjunctive i a s t (inl x) (inl y) = inl (x.1 ∙ sym y.1)
served_once b conjunctive i a s t (inl x) (inr y) = absurd (no_alpha_is_some _ (rewrites_no_alpha b.rules a y.0 y.1) x.0)
served_once b conjunctive i a s t (inr x) (inl y) = absurd (no_alpha_is_some _ (rewrites_no_alpha b.rules a x.0 x.1) y.0)
served_once b conjunctive i a s t (inr x) (inr y) =
    inl (x.2 ∙ ap (rewrite i) (some_once x.0 y.0 (rewrites_once b.rules a (Some x.0) (Some y.0) x.1 y.1)) ∙ sym y.2)
served_once b existential i a s t x y = inl (x ∙ sym y)
served_once b universal i a s t x y = inl (x ∙ sym y)
served_once b disjunctive i a s t x y = inr (splits s x, splits t y) where
  splits : (u : Done) → (u ≡ go_left i) ⊎ (u ≡ go_right i) → is_split u ≡ true
  splits u (inl e) = ap is_split e
  splits u (inr e) = ap is_split e

same_found : {A : Type 0} (o : Option A) (x y : A) → o ≡ Some x → o ≡ Some y → x ≡ y
same_found o x y ex ey = cc

pub one_next : (b : Branch) (d : ℕ) (s t : Done) → ComesNext b d s → ComesNext b d t → (principal s ≡ principal t) × AreOne s t
one_next b d s t x y =
    let same = one_served b d x.class y.class (principal s) (principal t) x.served y.served in
    let entry : x.entry ≡ y.entry = same_found (slice_get (entries b) (principal s)) x.entry y.entry x.at (ap (λ i. slice_get (entries b) i) same.1 ∙ y.at) in (
      same.1,
      served_once b x.class (principal s) x.entry.formula s t x.serves
          (subst (λ i. Serves b x.class i x.entry.formula t) (sym same.1)
          (subst (λ c. Serves b c (principal t) x.entry.formula t) (sym same.0)
          (subst (λ e. Serves b y.class (principal t) e.formula t) (sym entry) y.serves))),
    )

-- only disjunctive entries are split
pub splits_disjunctive : (b : Branch) (c : Class) (i : ℕ) (a : FreeFormula) (s : Done) → Serves b c i a s → is_split s ≡ true → c ≡ disjunctive
splits_disjunctive b conjunctive i a s (inl x) e = absurd (false≢true (sym (ap is_split x.1) ∙ e))
splits_disjunctive b conjunctive i a s (inr x) e = absurd (false≢true (sym (ap is_split x.2) ∙ e))
splits_disjunctive b existential i a s x e = absurd (false≢true (sym (ap is_split x) ∙ e))
splits_disjunctive b universal i a s x e = absurd (false≢true (sym (ap is_split x) ∙ e))
splits_disjunctive b disjunctive i a s x e = refl

-- where one side of a split comes next, so does the other
pub right_side : (b : Branch) (d i : ℕ) → ComesNext b d (go_left i) → ComesNext b d (go_right i)
right_side b d i x = record {
  class = x.class;
  entry = x.entry;
  at = x.at;
  served = x.served;
  serves = subst (λ c. Serves b c i x.entry.formula (go_right i)) (sym (splits_disjunctive b x.class i x.entry.formula (go_left i) x.serves refl)) (inr refl);
  room = x.room;
}

pub left_side : (b : Branch) (d i : ℕ) → ComesNext b d (go_right i) → ComesNext b d (go_left i)
left_side b d i x = record {
  class = x.class;
  entry = x.entry;
  at = x.at;
  served = x.served;
  serves = subst (λ c. Serves b c i x.entry.formula (go_left i)) (sym (splits_disjunctive b x.class i x.entry.formula (go_right i) x.serves refl)) (inl refl);
  room = x.room;
}

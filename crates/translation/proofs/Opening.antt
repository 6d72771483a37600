-- A list of closed terms put in place of a formula's outermost variables, one after the other.
use Rattle.std.proofs.Common.{◌≡◌, ℕ, zero, suc, ◌+◌, ◌-◌, ◌<◌, ◌≤◌, Bool, true, false, eqb, leb, nat_lt, if◌then◌else◌, List, [], ◌∷◌, ◌++◌, reverse, length, Option, Some, None, slice_get, refl, ap, sym, ◌∙◌, arith, ◌⊎◌, inl, inr, ◌≢◌}
use Rattle.std.proofs.lemmas.Bool.Decides.{leb_tells, eqb_tells}
use mathlib.Core.List.{reverse-cons}
use Rattle.fol_core.specs.Syntax.{PlainTerm, PlainTerms, bound, app, no_terms, terms, PlainFormula, atom, verum, falsum, not, and, or, imp, iff, all, ex, open_term, open_terms, open_at, free_in_term}
use Rattle.translation.proofs.Grounding.{open_closed}

-- the first of the terms for the variable k, the next for the variable beyond it, and so on
abbrev pub opened_term : ℕ → List PlainTerm → PlainTerm → PlainTerm
opened_term k [] u = u
opened_term k (t ∷ ts) u = open_term k t (opened_term (suc k) ts u)

abbrev pub opened_terms : ℕ → List PlainTerm → PlainTerms → PlainTerms
opened_terms k [] us = us
opened_terms k (t ∷ ts) us = open_terms k t (opened_terms (suc k) ts us)

abbrev pub opened_by : ℕ → List PlainTerm → PlainFormula → PlainFormula
opened_by k [] a = a
opened_by k (t ∷ ts) a = open_at k t (opened_by (suc k) ts a)

abbrev pub AreClosedTerms : List PlainTerm → Type 0
AreClosedTerms [] = Unit {0}
AreClosedTerms (t ∷ ts) = (free_in_term t ≡ 0) × AreClosedTerms ts

abbrev pub or_bound : ℕ → Option PlainTerm → PlainTerm
or_bound n None = bound n
or_bound n (Some t) = t

closed_at : (ts : List PlainTerm) → AreClosedTerms ts → (i : ℕ) (t : PlainTerm) → slice_get ts i ≡ Some t → free_in_term t ≡ 0
closed_at [] c i t e = absurd (none_is_some t e) where
  none_is_some : (t : PlainTerm) → None ≡ Some t → ⊥
  none_is_some t e = cc
closed_at (u ∷ ts) c zero t e = ap free_in_term (sym (some_once u t e)) ∙ c.0 where
  some_once : (a b : PlainTerm) → Some a ≡ Some b → a ≡ b
  some_once a b e = cc
closed_at (u ∷ ts) c (suc i) t e = closed_at ts c.1 i t e

pub opened_bound : (k : ℕ) (ts : List PlainTerm) (n : ℕ) → AreClosedTerms ts
    → opened_term k ts (bound n) ≡ (if nat_lt n k then bound n else or_bound n (slice_get ts (n - k)))
opened_bound k [] n c = sym (same (nat_lt n k)) where
  same : (q : Bool) → (if q then bound n else bound n) ≡ bound n
  same true = refl
  same false = refl
opened_bound k (t ∷ ts) n c = ap (open_term k t) (opened_bound (suc k) ts n c.1) ∙ by_order (leb_tells (suc n) k) (eqb_tells n k) where
  inner : Bool → PlainTerm
  inner q = open_term k t (if q then bound n else or_bound n (slice_get ts (n - suc k)))

  outer : Bool → PlainTerm
  outer q = if q then bound n else or_bound n (slice_get (t ∷ ts) (n - k))

  kept : (o : Option PlainTerm) → eqb n k ≡ false → slice_get ts (n - suc k) ≡ o → open_term k t (or_bound n o) ≡ or_bound n o
  kept None other e = ap (λ q. if q then t else bound n) other
  kept (Some u) other e = open_closed k t u (omega (arith, closed_at ts c.1 (n - suc k) u e))

  within : n < suc k → nat_lt n (suc k) ≡ true
  within lt = by (leb_tells (suc n) (suc k)) where
    by : ((leb (suc n) (suc k) ≡ true) × (suc n ≤ suc k)) ⊎ ((leb (suc n) (suc k) ≡ false) × (suc k < suc n)) → nat_lt n (suc k) ≡ true
    by (inl p) = p.0
    by (inr p) = let no_order : ⊥ = omega (arith, p.1, lt) in absurd no_order

  beyond : suc k ≤ n → nat_lt n (suc k) ≡ false
  beyond le = by (leb_tells (suc n) (suc k)) where
    by : ((leb (suc n) (suc k) ≡ true) × (suc n ≤ suc k)) ⊎ ((leb (suc n) (suc k) ≡ false) × (suc k < suc n)) → nat_lt n (suc k) ≡ false
    by (inl p) = let no_order : ⊥ = omega (arith, p.1, le) in absurd no_order
    by (inr p) = p.0

  by_order : ((leb (suc n) k ≡ true) × (suc n ≤ k)) ⊎ ((leb (suc n) k ≡ false) × (k < suc n)) → ((eqb n k ≡ true) × (n ≡ k)) ⊎ ((eqb n k ≡ false) × (n ≢ k))
      → open_term k t (if nat_lt n (suc k) then bound n else or_bound n (slice_get ts (n - suc k))) ≡ (if nat_lt n k then bound n else or_bound n (slice_get (t ∷ ts) (n - k)))
  by_order (inl l) (inl e) = let no_order : ⊥ = omega (arith, l.1, e.1) in absurd no_order
  by_order (inl l) (inr e) = ap inner (within (omega (arith, l.1))) ∙ ap (λ q. if q then t else bound n) e.0 ∙ sym (ap outer l.0)
  by_order (inr l) (inl e) =
      let at_first : n - k ≡ 0 = omega (arith, e.1) in
      ap inner (within (omega (arith, e.1))) ∙ ap (λ q. if q then t else bound n) e.0
      ∙ sym (ap outer l.0 ∙ ap (λ m. or_bound n (slice_get (t ∷ ts) m)) at_first)
  by_order (inr l) (inr e) =
      let later : n - k ≡ suc (n - suc k) = omega (arith, l.1, e.1) in
      ap inner (beyond (omega (arith, l.1, e.1))) ∙ kept (slice_get ts (n - suc k)) e.0 refl
      ∙ sym (ap outer l.0 ∙ ap (λ m. or_bound n (slice_get (t ∷ ts) m)) later)

pub opened_app : (k : ℕ) (ts : List PlainTerm) (f : ℕ) (us : PlainTerms) → opened_term k ts (app f us) ≡ app f (opened_terms k ts us)
opened_app k [] f us = refl
opened_app k (t ∷ ts) f us = ap (open_term k t) (opened_app (suc k) ts f us)

pub opened_none : (k : ℕ) (ts : List PlainTerm) → opened_terms k ts no_terms ≡ no_terms
opened_none k [] = refl
opened_none k (t ∷ ts) = ap (open_terms k t) (opened_none (suc k) ts)

pub opened_more : (k : ℕ) (ts : List PlainTerm) (u : PlainTerm) (us : PlainTerms) → opened_terms k ts (terms u us) ≡ terms (opened_term k ts u) (opened_terms k ts us)
opened_more k [] u us = refl
opened_more k (t ∷ ts) u us = ap (open_terms k t) (opened_more (suc k) ts u us)

pub opened_atom : (k : ℕ) (ts : List PlainTerm) (p : ℕ) (us : PlainTerms) → opened_by k ts (atom p us) ≡ atom p (opened_terms k ts us)
opened_atom k [] p us = refl
opened_atom k (t ∷ ts) p us = ap (open_at k t) (opened_atom (suc k) ts p us)

pub opened_verum : (k : ℕ) (ts : List PlainTerm) → opened_by k ts verum ≡ verum
opened_verum k [] = refl
opened_verum k (t ∷ ts) = ap (open_at k t) (opened_verum (suc k) ts)

pub opened_falsum : (k : ℕ) (ts : List PlainTerm) → opened_by k ts falsum ≡ falsum
opened_falsum k [] = refl
opened_falsum k (t ∷ ts) = ap (open_at k t) (opened_falsum (suc k) ts)

pub opened_not : (k : ℕ) (ts : List PlainTerm) (a : PlainFormula) → opened_by k ts (not a) ≡ not (opened_by k ts a)
opened_not k [] a = refl
opened_not k (t ∷ ts) a = ap (open_at k t) (opened_not (suc k) ts a)

pub opened_and : (k : ℕ) (ts : List PlainTerm) (a b : PlainFormula) → opened_by k ts (and a b) ≡ and (opened_by k ts a) (opened_by k ts b)
opened_and k [] a b = refl
opened_and k (t ∷ ts) a b = ap (open_at k t) (opened_and (suc k) ts a b)

pub opened_or : (k : ℕ) (ts : List PlainTerm) (a b : PlainFormula) → opened_by k ts (or a b) ≡ or (opened_by k ts a) (opened_by k ts b)
opened_or k [] a b = refl
opened_or k (t ∷ ts) a b = ap (open_at k t) (opened_or (suc k) ts a b)

pub opened_imp : (k : ℕ) (ts : List PlainTerm) (a b : PlainFormula) → opened_by k ts (imp a b) ≡ imp (opened_by k ts a) (opened_by k ts b)
opened_imp k [] a b = refl
opened_imp k (t ∷ ts) a b = ap (open_at k t) (opened_imp (suc k) ts a b)

pub opened_iff : (k : ℕ) (ts : List PlainTerm) (a b : PlainFormula) → opened_by k ts (iff a b) ≡ iff (opened_by k ts a) (opened_by k ts b)
opened_iff k [] a b = refl
opened_iff k (t ∷ ts) a b = ap (open_at k t) (opened_iff (suc k) ts a b)

pub opened_all : (k : ℕ) (ts : List PlainTerm) (a : PlainFormula) → opened_by k ts (all a) ≡ all (opened_by (suc k) ts a)
opened_all k [] a = refl
opened_all k (t ∷ ts) a = ap (open_at k t) (opened_all (suc k) ts a)

pub opened_ex : (k : ℕ) (ts : List PlainTerm) (a : PlainFormula) → opened_by k ts (ex a) ≡ ex (opened_by (suc k) ts a)
opened_ex k [] a = refl
opened_ex k (t ∷ ts) a = ap (open_at k t) (opened_ex (suc k) ts a)

-- From the outermost variable on: the terms stand the other way round, and the last is for the variable k.
abbrev pub opened_from : ℕ → List PlainTerm → PlainFormula → PlainFormula
opened_from k [] a = a
opened_from k (u ∷ us) a = opened_from k us (open_at (k + length us) u a)

length_last : {A : Type 0} (us : List A) (v : A) → length (us ++ v ∷ []) ≡ suc (length us)
length_last [] v = refl
length_last (u ∷ us) v = ap suc (length_last us v)

opened_last : (k : ℕ) (us : List PlainTerm) (v : PlainTerm) (a : PlainFormula) → opened_from k (us ++ v ∷ []) a ≡ open_at k v (opened_from (suc k) us a)
opened_last k [] v a = let same : k + 0 ≡ k = omega arith in ap (λ n. open_at n v a) same
opened_last k (u ∷ us) v a =
    let same : k + length (us ++ v ∷ []) ≡ suc k + length us = omega (arith, length_last us v) in
    ap (λ n. opened_from k (us ++ v ∷ []) (open_at n u a)) same ∙ opened_last k us v (open_at (suc k + length us) u a)

pub from_outermost : (k : ℕ) (vs : List PlainTerm) (a : PlainFormula) → opened_from k (reverse vs) a ≡ opened_by k vs a
from_outermost k [] a = refl
from_outermost k (v ∷ vs) a =
    ap (λ us. opened_from k us a) (reverse-cons v vs) ∙ opened_last k (reverse vs) v a ∙ ap (open_at k v) (from_outermost (suc k) vs a)

-- under n universal quantifiers
abbrev pub quantified : ℕ → PlainFormula → PlainFormula
quantified zero a = a
quantified (suc n) a = all (quantified n a)

pub open_quantified : (j n : ℕ) (t : PlainTerm) (a : PlainFormula) → open_at j t (quantified n a) ≡ quantified n (open_at (j + n) t a)
open_quantified j zero t a = let same : j ≡ j + 0 = omega arith in ap (λ k. open_at k t a) same
open_quantified j (suc n) t a =
    let same : suc j + n ≡ j + suc n = omega arith in
    ap all (open_quantified (suc j) n t a ∙ ap (λ k. quantified n (open_at k t a)) same)

-- Equivalences under quantifiers.
use Rattle.std.proofs.Common.{◌≡◌, ◌↔◌, ℕ, zero, suc, ◌+◌, ◌-◌, ◌<◌, ◌≤◌, Bool, true, false, List, [], get_or, ◌&&◌, ◌||◌, refl, ap, sym, ◌∙◌, subst, arith, ◌⊎◌, inl, inr, eqb, nat_lt, leb}
use Rattle.std.proofs.lemmas.Bool.{false≢true, eqb-true, eq-eqb}
use Rattle.std.proofs.lemmas.Bool.Decides.{leb_tells}
use Rattle.fol_core.specs.Syntax.{PlainTerm, PlainTerms, PlainFormula, bound, param, app, no_terms, terms, atom, verum, falsum, not, and, or, imp, iff, all, ex}
use Rattle.free_terms.specs.Matching.{variable_in_term, variable_in_terms}
use Rattle.rewrite_rules.specs.Rules.{variable_in, FitsWith, Equivalence}
use Rattle.rewrite_rules.specs.Fitting.{AreVariables, term_uses, terms_use, uses_only, under, IsStripped}

pub under_all : (n : ℕ) (a : PlainFormula) → under n (all a) ≡ under (suc n) a
under_all zero a = refl
under_all (suc n) a = ap all (under_all n a)

-- the formula with so many quantifiers is an equivalence of sides exactly where it has just these, and stands of them
pub equivalence_under : (n : ℕ) (left right : PlainFormula) → Equivalence n (under n (iff left right)) left right
equivalence_under zero left right = refl
equivalence_under (suc n) left right = (under n (iff left right), refl, equivalence_under n left right)

pub record IsThat (m n : ℕ) (a left right : PlainFormula) : Type 0 where
  pub count : n ≡ m
  pub sides : a ≡ iff left right

pub equivalence_is : (m n : ℕ) (a left right : PlainFormula) → IsStripped a → Equivalence n (under m a) left right → IsThat m n a left right
equivalence_is zero zero a left right s e = record { count = refl; sides = e }
equivalence_is zero (suc n) a left right s e = absurd (subst IsStripped e.1 s)
equivalence_is (suc m) zero a left right s e = absurd (apart e) where
  apart : all (under m a) ≡ iff left right → ⊥
  apart x = cc
equivalence_is (suc m) (suc n) a left right s e =
    let same : e.0 ≡ under m a = cc (e.1) in
    let inner = equivalence_is m n a left right s (subst (λ b. Equivalence n b left right) same e.2) in
    record { count = ap suc inner.count; sides = inner.sides }

both_true : (p q : Bool) → (p && q) ≡ true → (p ≡ true) × (q ≡ true)
both_true true q e = (refl, e)
both_true false q e = absurd (false≢true e)

and_true : (p q : Bool) → p ≡ true → q ≡ true → (p && q) ≡ true
and_true p q a b = ap (λ z. z && q) a ∙ b

either_true : (p q : Bool) → (p || q) ≡ true → (p ≡ true) ⊎ (q ≡ true)
either_true true q e = inl refl
either_true false q e = inr e

left_true : (p q : Bool) → p ≡ true → (p || q) ≡ true
left_true p q a = ap (λ z. z || q) a

right_true : (p q : Bool) → q ≡ true → (p || q) ≡ true
right_true true q a = refl
right_true false q a = a

abbrev Only : ℕ → List Bool → (ℕ → Bool) → Type 0
Only m marks v = (n : ℕ) → v (n + m) ≡ true → get_or marks n false ≡ true

abbrev Tells : Bool → Type 0 → Type 0
Tells b P = (b ≡ true → P) × (P → b ≡ true)

tells_bound : (m : ℕ) (marks : List Bool) (k : ℕ) → Tells (nat_lt k m || get_or marks (k - m) false) (Only m marks (λ n. eqb k n))
tells_bound m marks k = by_test (leb_tells (suc k) m) where
  by_test : ((leb (suc k) m ≡ true) × (suc k ≤ m)) ⊎ ((leb (suc k) m ≡ false) × (m < suc k)) → Tells (nat_lt k m || get_or marks (k - m) false) (Only m marks (λ n. eqb k n))
  by_test (inl p) = ((λ e n v. let same : k ≡ n + m = eqb-true k (n + m) v in let none : ⊥ = omega (arith, p.1) in absurd none), (λ o. left_true (nat_lt k m) (get_or marks (k - m) false) p.0))
  by_test (inr p) = (
    λ e n v. let same : k ≡ n + m = eqb-true k (n + m) v in let place : k - m ≡ n = omega arith in
        subst (λ i. get_or marks i false ≡ true) place (sym (ap (λ z. z || get_or marks (k - m) false) p.0) ∙ e),
    λ o. right_true (nat_lt k m) (get_or marks (k - m) false) (o (k - m) (eq-eqb k (k - m + m) (let e : k ≡ k - m + m = omega (arith, p.1) in e))),
  )

tells_both : (m : ℕ) (marks : List Bool) (p q : Bool) (v w : ℕ → Bool) → Tells p (Only m marks v) → Tells q (Only m marks w) → Tells (p && q) (Only m marks (λ n. v n || w n))
tells_both m marks p q v w a b = (
  λ e n x. let both = both_true p q e in by_part n (both) (either_true (v (n + m)) (w (n + m)) x),
  λ o. and_true p q (a.1 (λ n x. o n (left_true (v (n + m)) (w (n + m)) x))) (b.1 (λ n x. o n (right_true (v (n + m)) (w (n + m)) x))),
) where
  by_part : (n : ℕ) → (p ≡ true) × (q ≡ true) → (v (n + m) ≡ true) ⊎ (w (n + m) ≡ true) → get_or marks n false ≡ true
  by_part n both (inl x) = a.0 both.0 n x
  by_part n both (inr x) = b.0 both.1 n x

tells_none : (m : ℕ) (marks : List Bool) → Tells true (Only m marks (λ n. false))
tells_none m marks = ((λ e n x. absurd (false≢true x)), (λ o. refl))

mutual
  tells_term : (m : ℕ) (marks : List Bool) (u : PlainTerm) → Tells (term_uses m marks u) (Only m marks (λ n. variable_in_term n u))
  tells_term m marks (bound k) = tells_bound m marks k
  tells_term m marks (param k) = tells_none m marks
  tells_term m marks (app f us) = tells_terms m marks us

  tells_terms : (m : ℕ) (marks : List Bool) (us : PlainTerms) → Tells (terms_use m marks us) (Only m marks (λ n. variable_in_terms n us))
  tells_terms m marks no_terms = tells_none m marks
  tells_terms m marks (terms u us) = tells_both m marks (term_uses m marks u) (terms_use m marks us) (λ n. variable_in_term n u) (λ n. variable_in_terms n us) (tells_term m marks u) (tells_terms m marks us)

tells_inside : (m : ℕ) (marks : List Bool) (a : PlainFormula) → Tells (uses_only (suc m) marks a) (Only (suc m) marks (λ n. variable_in n a)) → Tells (uses_only (suc m) marks a) (Only m marks (λ n. variable_in (suc n) a))
tells_inside m marks a t = (
  λ e n x. t.0 e n (ap (λ i. variable_in i a) (let z : n + suc m ≡ suc (n + m) = omega arith in z) ∙ x),
  λ o. t.1 (λ n x. o n (ap (λ i. variable_in i a) (let z : suc (n + m) ≡ n + suc m = omega arith in z) ∙ x)),
)

pub uses_only_tells : (m : ℕ) (marks : List Bool) (a : PlainFormula) → Tells (uses_only m marks a) (Only m marks (λ n. variable_in n a))
uses_only_tells m marks (atom p us) = tells_terms m marks us
uses_only_tells m marks verum = tells_none m marks
uses_only_tells m marks falsum = tells_none m marks
uses_only_tells m marks (not a) = uses_only_tells m marks a
uses_only_tells m marks (and a b) = tells_both m marks (uses_only m marks a) (uses_only m marks b) (λ n. variable_in n a) (λ n. variable_in n b) (uses_only_tells m marks a) (uses_only_tells m marks b)
uses_only_tells m marks (or a b) = tells_both m marks (uses_only m marks a) (uses_only m marks b) (λ n. variable_in n a) (λ n. variable_in n b) (uses_only_tells m marks a) (uses_only_tells m marks b)
uses_only_tells m marks (imp a b) = tells_both m marks (uses_only m marks a) (uses_only m marks b) (λ n. variable_in n a) (λ n. variable_in n b) (uses_only_tells m marks a) (uses_only_tells m marks b)
uses_only_tells m marks (iff a b) = tells_both m marks (uses_only m marks a) (uses_only m marks b) (λ n. variable_in n a) (λ n. variable_in n b) (uses_only_tells m marks a) (uses_only_tells m marks b)
uses_only_tells m marks (all a) = tells_inside m marks a (uses_only_tells (suc m) marks a)
uses_only_tells m marks (ex a) = tells_inside m marks a (uses_only_tells (suc m) marks a)

-- the test of an atom's arguments is what it is to fit
pub fits_where : (p : ℕ) (us : PlainTerms) (body : PlainFormula) (marks : List Bool) (q : Bool) → AreVariables marks us → q ≡ uses_only 0 marks body
    → (q ≡ true) ↔ FitsWith (atom p us) body
fits_where p us body marks q are e =
    let t = uses_only_tells 0 marks body in (
      λ h n x. sym (are n) ∙ t.0 (sym e ∙ h) n (ap (λ i. variable_in i body) (let z : n + 0 ≡ n = omega arith in z) ∙ x),
      λ f. e ∙ t.1 (λ n x. are n ∙ f n (ap (λ i. variable_in i body) (let z : n ≡ n + 0 = omega arith in z) ∙ x)),
    )

or_swap : (p q r : Bool) → (p || (q || r)) ≡ ((q || p) || r)
or_swap true true r = refl
or_swap true false r = refl
or_swap false true r = refl
or_swap false false r = refl

or_none : (p : Bool) → (p || false) ≡ p
or_none true = refl
or_none false = refl

-- the variables of the rest, marked behind those of the first term
pub marked_next : (k : ℕ) (u : PlainTerm) (us : PlainTerms) (old new : List Bool)
    → get_or new k false ≡ (variable_in_term k u || get_or old k false)
    → (variable_in_terms k us || get_or new k false) ≡ (variable_in_terms k (terms u us) || get_or old k false)
marked_next k u us old new is =
    ap (λ q. variable_in_terms k us || q) is ∙ or_swap (variable_in_terms k us) (variable_in_term k u) (get_or old k false)

-- marks that began with none
pub marked_all : (us : PlainTerms) (old new : List Bool) → old ≡ [] → ((k : ℕ) → get_or new k false ≡ (variable_in_terms k us || get_or old k false)) → AreVariables new us
marked_all us old new none are k =
    are k ∙ ap (λ o. variable_in_terms k us || get_or o k false) none ∙ or_none (variable_in_terms k us)

-- Whether two free terms are one can be decided.
use Rattle.std.proofs.Common.{◌≡◌, ℕ, true, false, eqb, refl, ap, ◌⊎◌, inl, inr}
use Rattle.std.proofs.lemmas.Bool.Decides.{eqb_tells}
use Rattle.free_terms.specs.Free.{Name, FreeTerm, FreeTerms, bound, metavar, skolem, app, no_terms, terms}

abbrev pub Decided : Type 0 → Type 0
Decided A = A ⊎ (A → ⊥)

pub same_number : (m n : ℕ) → Decided (m ≡ n)
same_number m n = by_test (eqb_tells m n) where
  by_test : ((eqb m n ≡ true) × (m ≡ n)) ⊎ ((eqb m n ≡ false) × (m ≡ n → ⊥)) → Decided (m ≡ n)
  by_test (inl p) = inl p.1
  by_test (inr p) = inr p.1

same_name : (x y : Name) → Decided (x ≡ y)
same_name x y = both (same_number x.segment y.segment) (same_number x.count y.count) where
  both : Decided (x.segment ≡ y.segment) → Decided (x.count ≡ y.count) → Decided (x ≡ y)
  both (inl p) (inl q) = inl (λ i. record { segment = p i; count = q i })
  both (inr p) q = inr (λ e. p (ap (λ z. z.segment) e))
  both (inl p) (inr q) = inr (λ e. q (ap (λ z. z.count) e))

mutual
  pub same_term : (t u : FreeTerm) → Decided (t ≡ u)
  same_term (bound m) (bound n) = both (same_number m n) where
    both : Decided (m ≡ n) → Decided (bound m ≡ bound n)
    both (inl p) = inl (ap bound p)
    both (inr p) = inr (λ e. p (cc (e)))
  same_term (bound m) (metavar y) = inr (λ e. cc (e))
  same_term (bound m) (skolem y vs) = inr (λ e. cc (e))
  same_term (bound m) (app g vs) = inr (λ e. cc (e))
  same_term (metavar x) (bound n) = inr (λ e. cc (e))
  same_term (metavar x) (metavar y) = both (same_name x y) where
    both : Decided (x ≡ y) → Decided (metavar x ≡ metavar y)
    both (inl p) = inl (ap metavar p)
    both (inr p) = inr (λ e. p (cc (e)))
  same_term (metavar x) (skolem y vs) = inr (λ e. cc (e))
  same_term (metavar x) (app g vs) = inr (λ e. cc (e))
  same_term (skolem x us) (bound n) = inr (λ e. cc (e))
  same_term (skolem x us) (metavar y) = inr (λ e. cc (e))
  same_term (skolem x us) (skolem y vs) = both (same_name x y) (same_terms us vs) where
    both : Decided (x ≡ y) → Decided (us ≡ vs) → Decided (skolem x us ≡ skolem y vs)
    both (inl p) (inl q) = inl (λ i. skolem (p i) (q i))
    both (inr p) q = inr (λ e. p (cc (e)))
    both (inl p) (inr q) = inr (λ e. q (cc (e)))
  same_term (skolem x us) (app g vs) = inr (λ e. cc (e))
  same_term (app f us) (bound n) = inr (λ e. cc (e))
  same_term (app f us) (metavar y) = inr (λ e. cc (e))
  same_term (app f us) (skolem y vs) = inr (λ e. cc (e))
  same_term (app f us) (app g vs) = both (same_number f g) (same_terms us vs) where
    both : Decided (f ≡ g) → Decided (us ≡ vs) → Decided (app f us ≡ app g vs)
    both (inl p) (inl q) = inl (λ i. app (p i) (q i))
    both (inr p) q = inr (λ e. p (cc (e)))
    both (inl p) (inr q) = inr (λ e. q (cc (e)))

  pub same_terms : (us vs : FreeTerms) → Decided (us ≡ vs)
  same_terms no_terms no_terms = inl refl
  same_terms no_terms (terms v vs) = inr (λ e. cc (e))
  same_terms (terms u us) no_terms = inr (λ e. cc (e))
  same_terms (terms u us) (terms v vs) = both (same_term u v) (same_terms us vs) where
    both : Decided (u ≡ v) → Decided (us ≡ vs) → Decided (terms u us ≡ terms v vs)
    both (inl p) (inl q) = inl (λ i. terms (p i) (q i))
    both (inr p) q = inr (λ e. p (cc (e)))
    both (inl p) (inr q) = inr (λ e. q (cc (e)))

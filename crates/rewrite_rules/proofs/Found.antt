-- The fills with which a pattern is a target are found in the target, so that there is one list of them at most, and
-- whether there is one can be decided.
use Rattle.std.proofs.Common.{◌≡◌, ℕ, zero, suc, ◌+◌, ◌-◌, ◌<◌, Bool, true, false, ◌||◌, eqb, List, [], ◌∷◌, length, Option, Some, None, slice_get, refl, ap, sym, ◌∙◌, subst, arith, ◌⊎◌, inl, inr, nat_lt, if◌then◌else◌}
use Rattle.std.proofs.lemmas.Bool.{false≢true}
use Rattle.std.proofs.lemmas.Bool.Decides.{eqb_tells}
use Rattle.fol_core.specs.Syntax as plain
use Rattle.fol_core.specs.Syntax.{PlainTerm, PlainTerms}
use Rattle.free_terms.specs.Free.{FreeTerm, FreeTerms, bound, metavar, skolem, app, no_terms, terms, lift_term, lift_terms, fill_term, fill_terms, filled_with, or_variable}
use Rattle.free_terms.specs.Matching.{IsMatch, variable_in_term, variable_in_terms}
use Rattle.free_terms.specs.NoParam.{NoParamInTerm, NoParamInTerms}
use Rattle.rewrite_rules.proofs.Equal.{Decided, same_terms}

abbrev Fills : Type 0
Fills = List (Option FreeTerm)

abbrev or_else : Option FreeTerm → Option FreeTerm → Option FreeTerm
or_else (Some t) o = Some t
or_else None o = o

-- what stands in the target where the pattern first has the variable n
abbrev mutual
  found_in_term : ℕ → PlainTerm → FreeTerm → Option FreeTerm
  found_in_term n (plain.bound m) t = if eqb m n then Some t else None
  found_in_term n (plain.param m) t = None
  found_in_term n (plain.app f us) (app g vs) = found_in n us vs
  found_in_term n (plain.app f us) (bound m) = None
  found_in_term n (plain.app f us) (metavar x) = None
  found_in_term n (plain.app f us) (skolem x vs) = None

  found_in : ℕ → PlainTerms → FreeTerms → Option FreeTerm
  found_in n plain.no_terms vs = None
  found_in n (plain.terms u us) no_terms = None
  found_in n (plain.terms u us) (terms v vs) = or_else (found_in_term n u v) (found_in n us vs)

abbrev given_if : Bool → FreeTerm → Option FreeTerm
given_if q t = if q then Some t else None

joined : (p q : Bool) (t : FreeTerm) → or_else (given_if p t) (given_if q t) ≡ given_if (p || q) t
joined true q t = refl
joined false q t = refl

-- in a filled pattern stands what the fills give
mutual
  in_filled_term : (g : Fills) (n : ℕ) (u : PlainTerm) → found_in_term n u (fill_term g 0 (lift_term u)) ≡ given_if (variable_in_term n u) (filled_with g 0 n)
  in_filled_term g n (plain.bound m) = by_test (eqb_tells m n) where
    by_test : ((eqb m n ≡ true) × (m ≡ n)) ⊎ ((eqb m n ≡ false) × (m ≡ n → ⊥)) → given_if (eqb m n) (filled_with g 0 m) ≡ given_if (eqb m n) (filled_with g 0 n)
    by_test (inl p) = ap (λ k. given_if (eqb m n) (filled_with g 0 k)) p.1
    by_test (inr p) = ap (λ q. given_if q (filled_with g 0 m)) p.0 ∙ sym (ap (λ q. given_if q (filled_with g 0 n)) p.0)
  in_filled_term g n (plain.param m) = refl
  in_filled_term g n (plain.app f us) = in_filled g n us

  in_filled : (g : Fills) (n : ℕ) (us : PlainTerms) → found_in n us (fill_terms g 0 (lift_terms us)) ≡ given_if (variable_in_terms n us) (filled_with g 0 n)
  in_filled g n plain.no_terms = refl
  in_filled g n (plain.terms u us) =
      ap (λ o. or_else o (found_in n us (fill_terms g 0 (lift_terms us)))) (in_filled_term g n u)
      ∙ ap (or_else (given_if (variable_in_term n u) (filled_with g 0 n))) (in_filled g n us)
      ∙ joined (variable_in_term n u) (variable_in_terms n us) (filled_with g 0 n)

filled_at : (f : Fills) (n : ℕ) → filled_with f 0 n ≡ or_variable n (slice_get f n)
filled_at f zero = refl
filled_at f (suc n) =
    let none_below : nat_lt (suc n) 0 ≡ false = grind arith in
    let same_place : suc n - 0 ≡ suc n = omega arith in
    ap (λ q. if q then bound (suc n) else or_variable (suc n) (slice_get f (suc n - 0))) none_below
    ∙ ap (λ k. or_variable (suc n) (slice_get f k)) same_place

within : {A : Type 0} (xs : List A) (n : ℕ) → n < length xs → (x : A) × (slice_get xs n ≡ Some x)
within [] n lt = let none : ⊥ = omega (arith, lt) in absurd none
within (x ∷ xs) zero lt = (x, refl)
within (x ∷ xs) (suc n) lt = within xs n (omega (arith, lt))

none_or_some : {A : Type 0} (x : A) → Some x ≡ None → ⊥
none_or_some x e = cc

-- each fill of a match is what is found
pub fill_is_found : (pattern : PlainTerms) (count : ℕ) (target : FreeTerms) (g : Fills) → IsMatch pattern count target g
    → (n : ℕ) → n < count → slice_get g n ≡ Some (found_in n pattern target)
fill_is_found pattern count target g m n lt =
    subst (λ vs. slice_get g n ≡ Some (found_in n pattern vs)) m.same (by_use (variable_in_terms n pattern) refl (within g n (omega (arith, lt, m.one_each))))
  where
    by_use : (q : Bool) → variable_in_terms n pattern ≡ q → (o : Option FreeTerm) × (slice_get g n ≡ Some o)
        → slice_get g n ≡ Some (found_in n pattern (fill_terms g 0 (lift_terms pattern)))
    by_use false v o =
        (m.used n lt).1 v ∙ sym (ap (λ z. Some z) (in_filled g n pattern ∙ ap (λ q. given_if q (filled_with g 0 n)) v))
    by_use true v (None, e) = absurd (false≢true (sym ((m.used n lt).0 e) ∙ v))
    by_use true v (Some t, e) =
        e ∙ sym (ap (λ z. Some z) (in_filled g n pattern ∙ ap (λ q. given_if q (filled_with g 0 n)) v
        ∙ ap (λ z. Some z) (filled_at g n ∙ ap (or_variable n) e)))

same_items : {A : Type 0} (xs ys : List A) → length xs ≡ length ys → ((n : ℕ) → n < length xs → slice_get xs n ≡ slice_get ys n) → xs ≡ ys
same_items [] [] len each = refl
same_items [] (y ∷ ys) len each = let none : ⊥ = omega (arith, len) in absurd none
same_items (x ∷ xs) [] len each = let none : ⊥ = omega (arith, len) in absurd none
same_items (x ∷ xs) (y ∷ ys) len each =
    let here : x ≡ y = some_same x y (each 0 (omega arith)) in
    let rest : xs ≡ ys = same_items xs ys (omega (arith, len)) (λ n lt. each (suc n) (omega (arith, lt))) in
    λ i. here i ∷ rest i
  where
    some_same : {B : Type 0} (a b : B) → Some a ≡ Some b → a ≡ b
    some_same a b e = cc

-- with which fills a pattern is a target, there is one list of them at most
pub one_match : (pattern : PlainTerms) (count : ℕ) (target : FreeTerms) (f g : Fills) → IsMatch pattern count target f → IsMatch pattern count target g → f ≡ g
one_match pattern count target f g mf mg =
    same_items f g (mf.one_each ∙ sym mg.one_each)
    (λ n lt. let below : n < count = omega (arith, lt, mf.one_each) in
    fill_is_found pattern count target f mf n below ∙ sym (fill_is_found pattern count target g mg n below))

-- the values of f from the number on, so many of them
abbrev listed : {A : Type 0} → (ℕ → A) → ℕ → ℕ → List A
listed f from zero = []
listed f from (suc n) = f from ∷ listed f (suc from) n

length_listed : {A : Type 0} (f : ℕ → A) (from n : ℕ) → length (listed f from n) ≡ n
length_listed f from zero = refl
length_listed f from (suc n) = ap suc (length_listed f (suc from) n)

listed_at : {A : Type 0} (f : ℕ → A) (from n k : ℕ) → k < n → slice_get (listed f from n) k ≡ Some (f (from + k))
listed_at f from zero k lt = let none : ⊥ = omega (arith, lt) in absurd none
listed_at f from (suc n) zero lt = ap (λ z. Some (f z)) (let e : from ≡ from + 0 = omega arith in e)
listed_at f from (suc n) (suc k) lt =
    listed_at f (suc from) n k (omega (arith, lt)) ∙ ap (λ z. Some (f z)) (let e : suc from + k ≡ from + suc k = omega arith in e)

candidate : PlainTerms → ℕ → FreeTerms → Fills
candidate pattern count target = listed (λ n. found_in n pattern target) 0 count

candidate_at : (pattern : PlainTerms) (count : ℕ) (target : FreeTerms) (n : ℕ) → n < count → slice_get (candidate pattern count target) n ≡ Some (found_in n pattern target)
unfolding candidate
candidate_at pattern count target n lt =
    listed_at (λ k. found_in k pattern target) 0 count n lt ∙ ap (λ k. Some (found_in k pattern target)) (let e : 0 + n ≡ n = omega arith in e)

length_candidate : (pattern : PlainTerms) (count : ℕ) (target : FreeTerms) → length (candidate pattern count target) ≡ count
unfolding candidate
length_candidate pattern count target = length_listed _ 0 count

mutual
  no_param_term : (u : PlainTerm) → Decided (NoParamInTerm u)
  no_param_term (plain.bound n) = inl tt
  no_param_term (plain.param n) = inr (λ h. h)
  no_param_term (plain.app f us) = no_param us

  no_param : (us : PlainTerms) → Decided (NoParamInTerms us)
  no_param plain.no_terms = inl tt
  no_param (plain.terms u us) = both (no_param_term u) (no_param us) where
    both : Decided (NoParamInTerm u) → Decided (NoParamInTerms us) → Decided (NoParamInTerm u × NoParamInTerms us)
    both (inl p) (inl q) = inl (p, q)
    both (inr p) q = inr (λ h. p h.0)
    both (inl p) (inr q) = inr (λ h. q h.1)

none_given : (q : Bool) (t : FreeTerm) → given_if q t ≡ None → q ≡ false
none_given true t e = absurd (none_or_some t e)
none_given false t e = refl

-- whether some fills make the pattern the target
pub match_decided : (pattern : PlainTerms) (count : ℕ) (target : FreeTerms) → Decided ((g : Fills) × IsMatch pattern count target g)
match_decided pattern count target = by_tests (no_param pattern) (same_terms (fill_terms found 0 (lift_terms pattern)) target) where
  found : Fills
  found = candidate pattern count target

  at : (n : ℕ) → n < count → slice_get found n ≡ Some (found_in n pattern target)
  at n lt = candidate_at pattern count target n lt

  is_candidate : (g : Fills) → IsMatch pattern count target g → g ≡ found
  is_candidate g m =
      same_items g found (m.one_each ∙ sym (length_candidate pattern count target))
      (λ n lt. let below : n < count = omega (arith, lt, m.one_each) in fill_is_found pattern count target g m n below ∙ sym (at n below))

  use_of : fill_terms found 0 (lift_terms pattern) ≡ target → (n : ℕ) → n < count → found_in n pattern target ≡ given_if (variable_in_terms n pattern) (filled_with found 0 n)
  use_of same n lt = subst (λ vs. found_in n pattern vs ≡ given_if (variable_in_terms n pattern) (filled_with found 0 n)) same (in_filled found n pattern)

  some_once : {A : Type 0} (x y : A) → Some x ≡ Some y → x ≡ y
  some_once x y e = cc

  by_tests : Decided (NoParamInTerms pattern) → Decided (fill_terms found 0 (lift_terms pattern) ≡ target) → Decided ((g : Fills) × IsMatch pattern count target g)
  by_tests (inr p) q = inr (λ h. p h.1.no_param)
  by_tests (inl p) (inr q) = inr (λ h. q (ap (λ g. fill_terms g 0 (lift_terms pattern)) (sym (is_candidate h.0 h.1)) ∙ h.1.same))
  by_tests (inl p) (inl q) = inl (
    found,
    record {
      no_param = p;
      one_each = length_candidate pattern count target;
      used = λ n lt. (
        λ e. none_given (variable_in_terms n pattern) (filled_with found 0 n) (sym (use_of q n lt) ∙ some_once _ _ (sym (at n lt) ∙ e)),
        λ v. at n lt ∙ ap (λ o. Some o) (use_of q n lt ∙ ap (λ b. given_if b (filled_with found 0 n)) v),
      );
      same = q;
    },
  )

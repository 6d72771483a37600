-- The map of the numbers of Skolem symbols, with one symbol more.
use Rattle.std.proofs.Common.{◌≡◌, ◌+◌, ℕ, suc, Bool, true, false, List, [], ◌∷◌, ◌++◌, length, Option, Some, None, unwrap_or, refl, ap, sym, ◌∙◌, arith, ◌⊎◌, inl, inr, if◌then◌else◌}
use Rattle.std.specs.HashMap.{get, IsEmpty, Updates}
use Rattle.std.specs.Map.{lookup}
use Rattle.free_terms.specs.Free as free
use Rattle.free_terms.specs.View.{name_of}
use Rattle.free_terms.specs.declared.term.Name.{Name}
use Rattle.unify.specs.Index.{is_same}
use Rattle.unify.specs.Offers.{same_name}
use Rattle.unify.proofs.Acyclic.{tells}
use Rattle.translation.specs.Translation.{parameter_of}
use Rattle.deskolem.specs.Numbers.{Numbers, AreNumbers, number_in}
use Rattle.deskolem.specs.View.{names_of}

abbrev pub first_of : Option ℕ → Option ℕ → Option ℕ
first_of None o = o
first_of (Some n) o = Some n

-- the number behind n, where the test holds
abbrev pub number_if : ℕ → Bool → Option ℕ
number_if n q = if q then Some (suc n) else None

pub no_second : (o : Option ℕ) → first_of o None ≡ o
no_second None = refl
no_second (Some n) = refl

pub none_numbered : (numbers : Numbers) → IsEmpty numbers → AreNumbers [] numbers
none_numbered numbers none x = ap (lookup (is_same x)) none

-- the symbol's parameter is what the map has
pub parameter_is : (n : ℕ) (names : List Name) (x : free.Name) → unwrap_or (number_in n names x) 0 ≡ parameter_of n (names_of names) x
parameter_is n [] x = refl
parameter_is n (y ∷ names) x = by_case (same_name (name_of y) x) (parameter_is (suc n) names x) where
  by_case : (q : Bool) → unwrap_or (number_in (suc n) names x) 0 ≡ parameter_of (suc n) (names_of names) x
      → unwrap_or (if q then Some (suc n) else number_in (suc n) names x) 0 ≡ (if q then suc n else parameter_of (suc n) (names_of names) x)
  by_case true later = refl
  by_case false later = later

pub one_more : (n : ℕ) (names : List Name) (z : Name) (x : free.Name)
    → number_in n (names ++ z ∷ []) x ≡ first_of (number_in n names x) (number_if (n + length names) (same_name (name_of z) x))
one_more n [] z x =
    let same : n ≡ n + 0 = omega arith in
    ap (λ m. number_if m (same_name (name_of z) x)) same
one_more n (y ∷ names) z x = by_case (same_name (name_of y) x) (one_more (suc n) names z x) where
  by_case : (q : Bool) → number_in (suc n) (names ++ z ∷ []) x ≡ first_of (number_in (suc n) names x) (number_if (suc n + length names) (same_name (name_of z) x))
      → (if q then Some (suc n) else number_in (suc n) (names ++ z ∷ []) x) ≡ first_of (if q then Some (suc n) else number_in (suc n) names x) (number_if (n + suc (length names)) (same_name (name_of z) x))
  by_case true later = refl
  by_case false later =
      let same : suc n + length names ≡ n + suc (length names) = omega arith in
      later ∙ ap (λ m. first_of (number_in (suc n) names x) (number_if m (same_name (name_of z) x))) same

-- a symbol that has a number keeps it
pub numbers_kept : (names : List Name) (z : Name) (numbers : Numbers) (k : ℕ) → AreNumbers names numbers → get is_same numbers z ≡ Some k → AreNumbers (names ++ z ∷ []) numbers
numbers_kept names z numbers k are has x = are x ∙ by_case (tells (name_of z) (name_of x)) ∙ sym (one_more 0 names z (name_of x)) where
  by_case : ((is_same z x ≡ true) × (name_of z ≡ name_of x)) ⊎ ((is_same z x ≡ false) × (name_of z ≡ name_of x → ⊥))
      → number_in 0 names (name_of x) ≡ first_of (number_in 0 names (name_of x)) (number_if (0 + length names) (is_same z x))
  by_case (inl p) =
      let there : number_in 0 names (name_of x) ≡ Some k = ap (number_in 0 names) (sym p.1) ∙ sym (are z) ∙ has in
      there ∙ sym (ap (λ o. first_of o (number_if (0 + length names) (is_same z x))) there)
  by_case (inr p) = sym (no_second (number_in 0 names (name_of x))) ∙ sym (ap (λ q. first_of (number_in 0 names (name_of x)) (number_if (0 + length names) q)) p.0)

-- and one that has none gets the next one
pub numbers_with : (names : List Name) (z : Name) (numbers more : Numbers) (k : ℕ) → AreNumbers names numbers → get is_same numbers z ≡ None → k ≡ suc (length names)
    → Updates is_same numbers more z (Some k) → AreNumbers (names ++ z ∷ []) more
numbers_with names z numbers more k are none is updates x = updates.0 x ∙ by_case (tells (name_of z) (name_of x)) ∙ sym (one_more 0 names z (name_of x)) where
  by_case : ((is_same z x ≡ true) × (name_of z ≡ name_of x)) ⊎ ((is_same z x ≡ false) × (name_of z ≡ name_of x → ⊥))
      → (if is_same z x then Some k else get is_same numbers x) ≡ first_of (number_in 0 names (name_of x)) (number_if (0 + length names) (is_same z x))
  by_case (inl p) =
      let gone : number_in 0 names (name_of x) ≡ None = ap (number_in 0 names) (sym p.1) ∙ sym (are z) ∙ none in
      let next : k ≡ suc (0 + length names) = omega (arith, is) in
      ap (λ q. if q then Some k else get is_same numbers x) p.0 ∙ ap Some next
      ∙ sym (ap (λ q. first_of None (number_if (0 + length names) q)) p.0) ∙ sym (ap (λ o. first_of o (number_if (0 + length names) (is_same z x))) gone)
  by_case (inr p) =
      ap (λ q. if q then Some k else get is_same numbers x) p.0 ∙ are x ∙ sym (no_second (number_in 0 names (name_of x)))
      ∙ sym (ap (λ q. first_of (number_in 0 names (name_of x)) (number_if (0 + length names) q)) p.0)

pub number_found : (names : List Name) (numbers : Numbers) (x : Name) (k : ℕ) → AreNumbers names numbers → get is_same numbers x ≡ Some k → k ≡ parameter_of 0 (names_of names) (name_of x)
number_found names numbers x k are has = ap (λ o. unwrap_or o 0) (sym has ∙ are x) ∙ parameter_is 0 names (name_of x)

pub number_missing : (names : List Name) (numbers : Numbers) (x : Name) → AreNumbers names numbers → get is_same numbers x ≡ None → 0 ≡ parameter_of 0 (names_of names) (name_of x)
number_missing names numbers x are none = ap (λ o. unwrap_or o 0) (sym none ∙ are x) ∙ parameter_is 0 names (name_of x)

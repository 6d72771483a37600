-- The lengths of Skolem symbols' parameters, one by one.
use Rattle.std.proofs.Common.{◌≡◌, ◌+◌, ◌<◌, ℕ, zero, suc, true, false, List, [], ◌∷◌, ◌++◌, take, length, get_or, Option, Some, None, option_map, unwrap_or, refl, ap, sym, ◌∙◌, subst, arith, ◌⊎◌, inl, inr, if◌then◌else◌}
use Rattle.std.proofs.lemmas.Fmt.{decimal_digit}
use Rattle.std.specs.HashMap.{get, IsEmpty, Updates}
use Rattle.std.specs.Map.{lookup}
use Rattle.free_terms.specs.Free as free
use Rattle.free_terms.specs.View.{name_of}
use Rattle.free_terms.specs.declared.term.Name.{Name}
use Rattle.unify.specs.Index.{is_same}
use Rattle.unify.specs.Offers.{same_name}
use Rattle.unify.proofs.Acyclic.{tells}
use Rattle.translation.specs.Counting.{digits_of}
use Rattle.translation.specs.Translation.{parameter_of}
use Rattle.deskolem.specs.Numbers.{Numbers, number_in}
use Rattle.deskolem.specs.Spans.{span, AreSpans}
use Rattle.deskolem.specs.View.{names_of}
use Rattle.deskolem.proofs.Numbered.{first_of, number_if, no_second, one_more, parameter_is}

-- #0 has two bytes
pub zero_bytes : suc (digits_of 0) ≡ 2
zero_bytes = ap (λ l. suc (length l)) (decimal_digit 0 (omega arith))

pub none_spanned : (names : List Name) (lengths : Numbers) → IsEmpty lengths → AreSpans names [] lengths
none_spanned names lengths none x = ap (lookup (is_same x)) none

some_second : (n : ℕ) (o : Option ℕ) (k : ℕ) → option_map (λ _. n) (first_of o (Some k)) ≡ Some n
some_second n None k = refl
some_second n (Some j) k = refl

spans_with : (names some : List Name) (z : Name) (old new : Numbers) (n : ℕ) → AreSpans names some old → n ≡ span names (name_of z)
    → Updates is_same old new z (Some n) → AreSpans names (some ++ z ∷ []) new
spans_with names some z old new n are is updates x = updates.0 x ∙ by_case (tells (name_of z) (name_of x)) ∙ sym (ap (option_map (λ _. span names (name_of x))) (one_more 0 some z (name_of x))) where
  by_case : ((is_same z x ≡ true) × (name_of z ≡ name_of x)) ⊎ ((is_same z x ≡ false) × (name_of z ≡ name_of x → ⊥))
      → (if is_same z x then Some n else get is_same old x)
      ≡ option_map (λ _. span names (name_of x)) (first_of (number_in 0 some (name_of x)) (number_if (0 + length some) (is_same z x)))
  by_case (inl p) =
      ap (λ q. if q then Some n else get is_same old x) p.0 ∙ ap Some (is ∙ ap (span names) p.1)
      ∙ sym (some_second (span names (name_of x)) (number_in 0 some (name_of x)) (suc (0 + length some)))
      ∙ sym (ap (λ q. option_map (λ _. span names (name_of x)) (first_of (number_in 0 some (name_of x)) (number_if (0 + length some) q))) p.0)
  by_case (inr p) =
      ap (λ q. if q then Some n else get is_same old x) p.0 ∙ are x
      ∙ sym (ap (option_map (λ _. span names (name_of x))) (no_second (number_in 0 some (name_of x))))
      ∙ sym (ap (λ q. option_map (λ _. span names (name_of x)) (first_of (number_in 0 some (name_of x)) (number_if (0 + length some) q))) p.0)

pub taken : {A : Type 0} (xs : List A) (i : ℕ) (x : A) → i < length xs → x ≡ get_or xs i x → take (suc i) xs ≡ take i xs ++ x ∷ []
taken [] i x lt e = let no_place : ⊥ = omega (arith, lt) in absurd no_place
taken (y ∷ xs) zero x lt e = ap (λ z. z ∷ []) (sym e)
taken (y ∷ xs) (suc i) x lt e = ap (λ l. y ∷ l) (taken xs i x (omega (arith, lt)) e)

pub spans_next : {z : Name} {n : ℕ} (names items : List Name) (i : ℕ) (old new : Numbers) → Updates is_same old new z (Some n) → AreSpans names (take i items) old → i < length items → z ≡ get_or items i z
    → n ≡ span names (name_of z) → AreSpans names (take (i + 1) items) new
spans_next {z} {n} names items i old new updates are lt e is =
    let next : suc i ≡ i + 1 = omega arith in
    subst (λ l. AreSpans names l new) (sym (taken items i z lt e) ∙ ap (λ k. take k items) next) (spans_with names (take i items) z old new n are is updates)

known_or_zero : (names : List Name) (x : free.Name) (o : Option ℕ) → unwrap_or o 0 ≡ parameter_of 0 (names_of names) x
    → unwrap_or (option_map (λ _. span names x) o) 2 ≡ span names x
known_or_zero names x None e = sym zero_bytes ∙ ap (λ n. suc (digits_of n)) e
known_or_zero names x (Some k) e = refl

-- the map of all symbols has the length of each symbol's parameter
pub all_spans : (names : List Name) (lengths : Numbers) → AreSpans names names lengths → (x : free.Name)
    → unwrap_or (lookup (λ y. same_name x (name_of y)) lengths.entries) 2 ≡ span names x
all_spans names lengths are x =
    let z : Name = record { segment = x.segment; count = x.count } in
    ap (λ o. unwrap_or o 2) (are z) ∙ known_or_zero names x (number_in 0 names x) (parameter_is 0 names x)

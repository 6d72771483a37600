-- The lengths of the spellings of function symbols, one by one.
use Rattle.std.proofs.Common.{◌≡◌, ℕ, zero, suc, ◌+◌, ◌≤◌, List, [], ◌∷◌, ◌++◌, map, take, length, slice_get, option_map, Some, None, refl, ap, sym, ◌∙◌, subst, arith}
use Rattle.fol_core.specs.Symbol.{Symbol}
use Rattle.fol_core.specs.Spelling.{spelled_symbol}
use Rattle.deskolem.specs.Spans.{AreSymbolLengths}

pub none_more : (fs : List Symbol) (n : ℕ) → length fs ≤ n → take n fs ≡ fs
none_more [] zero le = refl
none_more [] (suc n) le = refl
none_more (x ∷ fs) zero le = let no_order : ⊥ = omega (arith, le) in absurd no_order
none_more (x ∷ fs) (suc n) le = ap (λ l. x ∷ l) (none_more fs n (omega (arith, le)))

pub are_lengths : (fs : List Symbol) → AreSymbolLengths fs (map (λ s. length (spelled_symbol s.0)) fs)
are_lengths [] zero = refl
are_lengths [] (suc f) = refl
are_lengths (x ∷ fs) zero = refl
are_lengths (x ∷ fs) (suc f) = are_lengths fs f

pub all_listed : (fs : List Symbol) (n : ℕ) (lengths : List ℕ) → lengths ≡ map (λ s. length (spelled_symbol s.0)) (take n fs) → length fs ≤ n → AreSymbolLengths fs lengths
all_listed fs n lengths e le =
    subst (AreSymbolLengths fs) (sym (e ∙ ap (map (λ (s : Symbol). length (spelled_symbol s.0))) (none_more fs n le))) (are_lengths fs)

no_some : {A : Type 0} (a : A) → None ≡ Some a → ⊥
no_some a e = cc

next_one : (fs : List Symbol) (n : ℕ) (w : List ℕ) → option_map (λ s. s.0) (slice_get fs n) ≡ Some w
    → map (λ s. length (spelled_symbol s.0)) (take (suc n) fs) ≡ map (λ s. length (spelled_symbol s.0)) (take n fs) ++ length (spelled_symbol w) ∷ []
next_one [] n w e = absurd (no_some w e)
next_one (x ∷ fs) zero w e = cc
next_one (x ∷ fs) (suc n) w e = ap (λ l. length (spelled_symbol x.0) ∷ l) (next_one fs n w e)

pub one_more : (fs : List Symbol) (n : ℕ) (w : List ℕ) → option_map (λ s. s.0) (slice_get fs n) ≡ Some w
    → map (λ s. length (spelled_symbol s.0)) (take (n + 1) fs) ≡ map (λ s. length (spelled_symbol s.0)) (take n fs) ++ length (spelled_symbol w) ∷ []
one_more fs n w e =
    let same : n + 1 ≡ suc n = omega arith in
    ap (λ m. map (λ (s : Symbol). length (spelled_symbol s.0)) (take m fs)) same ∙ next_one fs n w e

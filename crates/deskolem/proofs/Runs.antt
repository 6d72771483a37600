-- The places of entries that stand one after the other.
use Rattle.std.proofs.Common.{◌≡◌, ◌+◌, ℕ, zero, suc, List, [], ◌∷◌, ◌++◌, ap, sym, ◌∙◌, arith, append_assoc}
use Rattle.translation.specs.Translation.{run_of}

one_further : (from n : ℕ) → run_of from (suc n) ≡ run_of from n ++ (from + n) ∷ []
one_further from zero =
    let same : from ≡ from + 0 = omega arith in
    ap (λ k. k ∷ []) same
one_further from (suc n) =
    let same : suc from + n ≡ from + suc n = omega arith in
    ap (λ l. from ∷ l) (one_further (suc from) n) ∙ ap (λ k. from ∷ (run_of (suc from) n ++ k ∷ [])) same

pub run_next : (old : List ℕ) (from i : ℕ) (xs ys : List ℕ) → xs ≡ old ++ run_of from i → ys ≡ xs ++ (from + i) ∷ [] → ys ≡ old ++ run_of from (i + 1)
run_next old from i xs ys so_far next =
    let further : suc i ≡ i + 1 = omega arith in
    next ∙ ap (λ l. l ++ (from + i) ∷ []) so_far ∙ append_assoc old (run_of from i) ((from + i) ∷ [])
    ∙ ap (λ l. old ++ l) (sym (one_further from i) ∙ ap (run_of from) further)

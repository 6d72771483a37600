-- Terms with fills for their variables.
use Rattle.std.proofs.Common.{◌≡◌, ℕ, ◌-◌, ◌≤◌, false, nat_lt, if◌then◌else◌, slice_get, arith, List, [], ◌∷◌, map, Option, Result, Ok, Err, IfOk, refl, ap, ◌∙◌}
use Rattle.free_terms.specs.Free.{FreeTerm, FreeTerms, bound, terms, terms_of_list, fill_term, fill_terms, filled_with, or_variable}
use Rattle.free_terms.specs.View.{term_of, terms_of}
use Rattle.free_terms.specs.declared.term.FTerm.{FTerm}

pub fill_terms_of : (fills : List (Option FreeTerm)) (k : ℕ) (us : List FTerm) → fill_terms fills k (terms_of us) ≡ terms_of_list (map (λ u. fill_term fills k (term_of u)) us)
fill_terms_of fills k [] = refl
fill_terms_of fills k (u ∷ us) = ap (λ vs. terms (fill_term fills k (term_of u)) vs) (fill_terms_of fills k us)

-- a list of terms that was made to be shared
pub shared_is : {E : Type 0} (r : Result (List FTerm) E) (us : List FTerm) (z : FreeTerms) → IfOk r (λ s. s ≡ us) → terms_of us ≡ z → IfOk r (λ rs. terms_of rs ≡ z)
shared_is (Ok s) us z e p = ap terms_of e ∙ p
shared_is (Err x) us z e p = tt

-- what a variable becomes that the formula's own quantifiers do not bind
pub filled_beyond : (fills : List (Option FreeTerm)) (k n : ℕ) (o : Option (Option FreeTerm)) → k ≤ n → slice_get fills (n - k) ≡ o
    → filled_with fills k n ≡ or_variable n o
filled_beyond fills k n o le e =
    let beyond : nat_lt n k ≡ false = grind arith in
    ap (λ q. if q then bound n else or_variable n (slice_get fills (n - k))) beyond ∙ ap (or_variable n) e

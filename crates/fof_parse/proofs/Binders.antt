-- The innermost quantifier of a name.
use Rattle.std.proofs.Common.{◌≡◌, ℕ, zero, suc, ◌-◌, ◌<◌, true, cond, List, [], ◌∷◌, length, drop, get_or, Some, None, ap, ◌∙◌, arith}
use Rattle.std.specs.Borrow.{Bor}
use Rattle.std.specs.Str.{bytes_eq}
use Rattle.std.proofs.lemmas.List.{length-map}
use Rattle.fof_parse.specs.Problem.{later_or, binder}
use Rattle.fof_parse.specs.Reader.Building.{names}

-- no later one has the name
pub innermost : (scope : List (Bor (List ℕ))) (w : List ℕ) (k : ℕ) (d : Bor (List ℕ)) → k < length scope → bytes_eq (get_or scope k d).now w ≡ true → binder (names (drop (suc k) scope)) w ≡ None
    → Some (length scope - 1 - k) ≡ binder (names scope) w
innermost [] w k d within same none = absurd (omega (arith, within))
innermost (s ∷ scope) w zero d within same none =
    let n : length (s ∷ scope) - 1 - 0 ≡ length (names scope) = omega (arith, length-map scope (λ (v : Bor (List ℕ)). v.now)) in
    rw (none, same) (ap Some n)
innermost (s ∷ scope) w (suc k) d within same none =
    let n : length (s ∷ scope) - 1 - suc k ≡ length scope - 1 - k = omega (arith, within) in
    ap Some n
    ∙ ap (λ o. later_or o (cond (bytes_eq s.now w) (Some (length (names scope))) None)) (innermost scope w k d (omega (arith, within)) same none)

-- A statement nests too deep as soon as its count is too large.
use Rattle.std.proofs.Common.{◌≡◌, ℕ, ◌<◌, ◌≤◌, true, List, [], ◌∷◌, nat_lt, max, sym, ap, ◌∙◌, arith}
use Rattle.std.proofs.lemmas.Bool.Decides.{nat_tests}
use Rattle.fof_parse.specs.Token.{Token}
use Rattle.fof_parse.specs.Nesting.{count_behind, kept_behind, nesting}

nesting_first : (n : ℕ) (kept : List ℕ) (ts : List Token) → n ≤ nesting n kept ts
nesting_first n kept [] = omega arith
nesting_first n kept (t ∷ ts) = omega arith

is_above : (n : ℕ) → 500 < n → nat_lt 500 n ≡ true
is_above n h = grind (arith, nat_tests)

pub too_deep : (n m : ℕ) (kept : List ℕ) (ts : List Token) (t : Token) (rest : List Token) (whole : ℕ) → ts ≡ t ∷ rest → m ≡ count_behind n kept t → 500 < m → nat_lt 500 (nesting n kept ts) ≡ nat_lt 500 whole
    → true ≡ nat_lt 500 whole
too_deep n m kept ts t rest whole e c lt same =
    let first = nesting_first (count_behind n kept t) (kept_behind n kept t) rest in
    let up : 500 < max n (nesting (count_behind n kept t) (kept_behind n kept t) rest) = omega (arith, c, lt, first) in
    sym (sym same ∙ ap (λ us. nat_lt 500 (nesting n kept us)) e ∙ is_above (nesting n kept (t ∷ rest)) up)

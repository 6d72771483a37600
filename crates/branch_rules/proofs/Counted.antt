-- How many of the first steps took an entry.
use Rattle.std.proofs.Common.{◌≡◌, ℕ, zero, suc, ◌+◌, ◌≤◌, Bool, true, false, eqb, List, [], ◌∷◌, map, take, length, count_by, slice_get, if◌then◌else◌, refl, ap, sym, ◌∙◌, arith}
use Rattle.std.proofs.lemmas.List.Sums.{sum_by-append}
use Rattle.branch_rules.specs.Branch.{Branch, Done, principal, takes, times_taken}
use Rattle.branch_rules.specs.BranchValue.{done_of}
use Rattle.branch_rules.specs.BranchView.{branch_in}
use Rattle.branch_rules.specs.declared.branch.Lists.{Lists}
use Rattle.branch_rules.proofs.Works.{take_past}

abbrev pub counted : List Done → ℕ → ℕ → ℕ
counted steps i n = count_by (λ s. eqb (principal s) i) (take n steps)

abbrev one_if : Bool → ℕ
one_if b = if b then 1 else 0

count_front : (p : Done → Bool) (d : Done) (ds : List Done) → count_by p (d ∷ ds) ≡ count_by p (d ∷ []) + count_by p ds
count_front p d ds = sum_by-append (λ y. if p y then 1 else 0) (d ∷ []) ds

next_counted : (steps : List Done) (i n : ℕ) → counted steps i (suc n) ≡ counted steps i n + one_if (takes (slice_get steps n) i)
next_counted [] i zero = refl
next_counted [] i (suc n) = refl
next_counted (d ∷ ds) i zero =
    let here : counted (d ∷ ds) i 1 ≡ 0 + one_if (eqb (principal d) i) = refl in
    let none : counted (d ∷ ds) i 0 ≡ 0 = refl in omega (arith, here, none)
next_counted (d ∷ ds) i (suc n) =
    let p : Done → Bool = λ s. eqb (principal s) i in
    let more : counted (d ∷ ds) i (suc (suc n)) ≡ count_by p (d ∷ []) + counted ds i (suc n) = count_front p d (take (suc n) ds) in
    let so_far : counted (d ∷ ds) i (suc n) ≡ count_by p (d ∷ []) + counted ds i n = count_front p d (take n ds) in
    omega (arith, more, so_far, next_counted ds i n)

pub counts_one : (steps : List Done) (i n m times : ℕ) (b : Bool) → m ≡ suc n → b ≡ takes (slice_get steps n) i → b ≡ true → times ≡ counted steps i n → times + 1 ≡ counted steps i m
counts_one steps i n m times b next is taken e =
    let one : one_if (takes (slice_get steps n) i) ≡ 1 = ap one_if (sym is ∙ taken) in
    ap (λ k. times + k) (sym one) ∙ ap (λ k. k + one_if (takes (slice_get steps n) i)) e ∙ sym (next_counted steps i n) ∙ ap (counted steps i) (sym next)

pub counts_none : (steps : List Done) (i n m times : ℕ) (b : Bool) → m ≡ suc n → b ≡ takes (slice_get steps n) i → b ≡ false → times ≡ counted steps i n → times ≡ counted steps i m
counts_none steps i n m times b next is other e =
    let none : one_if (takes (slice_get steps n) i) ≡ 0 = ap one_if (sym is ∙ other) in
    e ∙ (let zero_more : counted steps i n ≡ counted steps i n + one_if (takes (slice_get steps n) i) = omega (arith, none) in zero_more) ∙ sym (next_counted steps i n) ∙ ap (counted steps i) (sym next)

many_steps : (l : Lists) → length (branch_in l).steps ≡ length l.steps.items
many_steps l = by_length l.steps.items where
  by_length : (xs : List _) → length (map done_of xs) ≡ length xs
  by_length [] = refl
  by_length (x ∷ xs) = ap suc (by_length xs)

pub all_counted : (l : Lists) (i n times : ℕ) → length l.steps.items ≤ n → times ≡ counted (branch_in l).steps i n → times ≡ times_taken (branch_in l) i
all_counted l i n times le e = e ∙ ap (count_by (λ s. eqb (principal s) i)) (take_past (branch_in l).steps n (omega (arith, le, many_steps l)))

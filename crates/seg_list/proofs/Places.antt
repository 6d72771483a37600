-- What stands at a place of two lists, one behind the other.
use Rattle.std.proofs.Common.{◌≡◌, ◌<◌, ◌≤◌, ◌-◌, ℕ, zero, suc, List, [], ◌∷◌, ◌++◌, length, Option, Some, None, slice_get, refl, ap, sym, subst, ◌∙◌, arith, drop, take, ◌+◌, length-append}
use Rattle.std.proofs.Math.Seq.{drop-append_seam, take-append-add}
use Rattle.seg_list.specs.Chain.{Chain, items_above}

pub in_front : {A : Type 0} (xs ys : List A) (i : ℕ) → i < length xs → slice_get (xs ++ ys) i ≡ slice_get xs i
in_front [] ys i h = absurd (let none : ⊥ = omega (arith, h) in none)
in_front (x ∷ xs) ys zero h = refl
in_front (x ∷ xs) ys (suc i) h = in_front xs ys i (let e : i < length xs = omega (arith, h) in e)

pub behind : {A : Type 0} (xs ys : List A) (i : ℕ) → length xs ≤ i → slice_get (xs ++ ys) i ≡ slice_get ys (i - length xs)
behind [] ys i h = ap (λ (j : ℕ). slice_get ys j) (let e : i ≡ i - 0 = omega arith in e)
behind (x ∷ xs) ys zero h = absurd (let none : ⊥ = omega (arith, h) in none)
behind (x ∷ xs) ys (suc i) h =
    behind xs ys i (let e : length xs ≤ i = omega (arith, h) in e)
    ∙ ap (λ (j : ℕ). slice_get ys j) (let e : i - length xs ≡ suc i - length (x ∷ xs) = omega arith in e)

-- what a segment stands for
abbrev pub chain_of : {T : Type 0} → Option (Chain T) → List T → ℕ → ℕ → Chain T
chain_of above items start depth = record { items = items_above above ++ items; start = start; depth = depth }

-- an item before the segment stands at the same place of what is above it
pub stands_above : {T : Type 0} (above : Option (Chain T)) (up c : Chain T) (items : List T) (start depth place : ℕ)
    → chain_of above items start depth ≡ c → start ≡ length (items_above above) → above ≡ Some up → place < start
    → slice_get up.items place ≡ slice_get c.items place
stands_above {T} above up c items start depth place view begins is h =
    sym (in_front up.items items place (subst (λ (n : ℕ). place < n) (begins ∙ ap (λ (o : Option (Chain T)). length (items_above o)) is) h))
    ∙ (ap (λ (o : Option (Chain T)). slice_get (items_above o ++ items) place) (sym is)
    ∙ ap (λ (d : Chain T). slice_get d.items place) view)

pub stands_in : {T : Type 0} (above : Option (Chain T)) (c : Chain T) (items : List T) (start depth place : ℕ)
    → chain_of above items start depth ≡ c → start ≡ length (items_above above) → start ≤ place
    → slice_get items (place - start) ≡ slice_get c.items place
stands_in {T} above c items start depth place view begins h =
    ap (λ (n : ℕ). slice_get items (place - n)) begins
    ∙ (sym (behind (items_above above) items place (subst (λ (n : ℕ). n ≤ place) begins h))
    ∙ ap (λ (d : Chain T). slice_get d.items place) view)

-- the first segment starts at 0
pub starts_first : {T : Type 0} (above : Option (Chain T)) (start place : ℕ) → start ≡ length (items_above above) → above ≡ None → place < start → ⊥
starts_first {T} above start place begins is h =
    let e : start ≡ 0 = begins ∙ ap (λ (o : Option (Chain T)). length (items_above o)) is in
    let none : ⊥ = omega (arith, e, h) in none

-- a walk up the chain goes on to the same item
pub goes_up : {T : Type 0} (above : Option (Chain T)) (up c : Chain T) (items : List T) (start depth place : ℕ) (found : Option T)
    → chain_of above items start depth ≡ c → start ≡ length (items_above above) → above ≡ Some up → place < start
    → slice_get c.items place ≡ found → slice_get up.items place ≡ found
goes_up above up c items start depth place found view begins is h e = stands_above above up c items start depth place view begins is h ∙ e

-- the items of a segment alone
pub own_items : {T : Type 0} (above : Option (Chain T)) (c : Chain T) (items : List T) (start depth : ℕ)
    → chain_of above items start depth ≡ c → start ≡ length (items_above above) → items ≡ drop c.start c.items
own_items {T} above c items start depth view begins =
    sym (drop-append_seam (items_above above) items)
    ∙ (ap (λ (n : ℕ). drop n (items_above above ++ items)) (sym begins)
    ∙ ap (λ (d : Chain T). drop d.start d.items) view)

-- a segment starts where a list of its chain's items ends
pub starts_within : {T : Type 0} (above : Option (Chain T)) (c : Chain T) (items : List T) (start depth : ℕ)
    → chain_of above items start depth ≡ c → start ≡ length (items_above above) → c.start ≤ length c.items
starts_within {T} above c items start depth view begins =
    let short : start ≤ length (items_above above ++ items) = omega (arith, length-append (items_above above) items, begins) in
    let P : Chain T → Type 0 = λ d. d.start ≤ length d.items in subst P view short

-- the front of two lists, one behind the other, that ends in the second one
pub front_of_both : {A : Type 0} (xs ys : List A) (start n : ℕ) → start ≡ length xs → start ≤ n → take n (xs ++ ys) ≡ xs ++ take (n - start) ys
front_of_both xs ys start n is le =
    ap (λ (k : ℕ). take k (xs ++ ys)) (let e : n ≡ length xs + (n - start) = omega (arith, is, le) in e)
    ∙ take-append-add xs ys (n - start)

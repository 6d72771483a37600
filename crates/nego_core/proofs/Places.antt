use Rattle.std.proofs.Common.{◌≡◌, ◌∙◌, ℕ, zero, suc, ◌+◌, ◌<◌, ◌⊎◌, inl, inr, Some, List, [], ◌∷◌, ◌++◌, length, slice_get, slice_set, ap, refl, arith}
use Rattle.std.specs.Prelude.{map}
use Rattle.nego_node.proofs.Sides.{none-some}

-- places of a list
module _ {A : Type 0} where
  pub get-set-here : (xs : List A) (i : ℕ) (y x : A) → slice_get xs i ≡ Some x → slice_get (slice_set xs i y) i ≡ Some y
  get-set-here [] i y x e = absurd (none-some refl e)
  get-set-here (z ∷ xs) zero y x e = refl
  get-set-here (z ∷ xs) (suc i) y x e = get-set-here xs i y x e

  pub get-set-away : (xs : List A) (i j : ℕ) (y : A) → (j ≡ i → ⊥) → slice_get (slice_set xs i y) j ≡ slice_get xs j
  get-set-away [] i j y ne = refl
  get-set-away (z ∷ xs) zero zero y ne = absurd (ne refl)
  get-set-away (z ∷ xs) zero (suc j) y ne = refl
  get-set-away (z ∷ xs) (suc i) zero y ne = refl
  get-set-away (z ∷ xs) (suc i) (suc j) y ne = get-set-away xs i j y (λ e. ne (ap suc e))

  pub set-length : (xs : List A) (i : ℕ) (y : A) → length (slice_set xs i y) ≡ length xs
  set-length [] i y = refl
  set-length (z ∷ xs) zero y = refl
  set-length (z ∷ xs) (suc i) y = ap suc (set-length xs i y)

  pub get-front : (xs ys : List A) (i : ℕ) (x : A) → slice_get xs i ≡ Some x → slice_get (xs ++ ys) i ≡ Some x
  get-front [] ys i x e = absurd (none-some refl e)
  get-front (z ∷ xs) ys zero x e = e
  get-front (z ∷ xs) ys (suc i) x e = get-front xs ys i x e

  pub get-behind : (xs ys : List A) (k : ℕ) → slice_get (xs ++ ys) (length xs + k) ≡ slice_get ys k
  get-behind [] ys k = ap (λ (j : ℕ). slice_get ys j) (let e : 0 + k ≡ k = omega arith in e)
  get-behind (z ∷ xs) ys k =
      ap (λ (j : ℕ). slice_get (z ∷ (xs ++ ys)) j) (let e : length (z ∷ xs) + k ≡ suc (length xs + k) = omega arith in e) ∙ get-behind xs ys k

  pub get-either : (xs ys : List A) (i : ℕ) (x : A) → slice_get (xs ++ ys) i ≡ Some x → (slice_get xs i ≡ Some x) ⊎ ((k : ℕ) × (i ≡ length xs + k) × (slice_get ys k ≡ Some x))
  get-either [] ys i x e = inr (i, omega arith, e)
  get-either (z ∷ xs) ys zero x e = inl e
  get-either (z ∷ xs) ys (suc i) x e =
      elim (get-either xs ys i x e) [
        | inl h ↦ inl h
        | inr w ↦ inr (w.0, let q : i ≡ length xs + w.0 = w.1 in omega arith, w.2)
      ]

  pub get-within : (xs : List A) (i : ℕ) → i < length xs → (x : A) × (slice_get xs i ≡ Some x)
  get-within [] i l = absurd (let k : i < 0 = l in omega arith)
  get-within (z ∷ xs) zero l = (z, refl)
  get-within (z ∷ xs) (suc i) l = get-within xs i (let k : suc i < suc (length xs) = l in omega arith)

pub map-set : {A B : Type 0} (f : A → B) (xs : List A) (i : ℕ) (y : A) → map f (slice_set xs i y) ≡ slice_set (map f xs) i (f y)
map-set f [] i y = refl
map-set f (z ∷ xs) zero y = refl
map-set f (z ∷ xs) (suc i) y = ap (λ (l : List _). f z ∷ l) (map-set f xs i y)

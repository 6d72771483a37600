use Rattle.std.proofs.Common.{◌≡◌, ◌≢◌, ℕ, ◌+◌, ◌<◌, ◌≤◌, List, Any, All, length, slice_index_or, take, sym, subst}
use Rattle.std.proofs.lemmas.List.Elements.{All-more, All-same}
use Rattle.std.proofs.lemmas.List.{take_all}

-- a fact of the elements of a list up to a place, at which an element stands
module _ {A : Type 0} (P : A → Type 0) (xs : List A) (i : ℕ) (x : A) (within : i < length xs) (is : x ≡ slice_index_or xs i x) where
  pub all-further : All P (take i xs) → P x → All P (take (i + 1) xs)
  all-further all p = All-more P xs i x within all (subst P is p)

  pub any-here : P x → Any P xs
  any-here p = (i, x, within, sym is, p)

-- no element has what none has
pub any-none : {A : Type 0} (P : A → Type 0) (xs : List A) → All (λ x. P x → ⊥) xs → Any P xs → ⊥
any-none P xs away w = away w.0 w.1 w.2 (subst P (sym w.3) w.4)

-- what holds up to the end holds of all
pub all-whole : {A : Type 0} (P : A → Type 0) (xs : List A) (i : ℕ) → length xs ≤ i → All P (take i xs) → All P xs
all-whole P xs i end all = All-same P xs (take i xs) (sym (take_all i xs end)) all

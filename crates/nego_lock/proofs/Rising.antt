use Rattle.std.proofs.Common.{◌≡◌, ℕ, zero, suc, ◌<◌, ◌≤◌, ◌⊎◌, inl, inr, Some, List, [], ◌∷◌, ◌++◌, length, slice_get, All, ◌∙◌, sym, ap, refl, subst, arith}
use Rattle.std.proofs.lemmas.List.Elements.{All-cons, All-append}
use Rattle.std.proofs.lemmas.Option.{slice_get_within}
use Rattle.nego_node.specs.NodeValue.{NodeValue}
use Rattle.nego_node.specs.Order.{AreRising}
use Rattle.nego_node.proofs.Sides.{none-some, same-some}
use Rattle.nego_lock.specs.Gathering.{AreStatesFrom}

-- what stands at a place of a list with one more stood there before, or is the one
place-of : {A : Type 0} (xs : List A) (v m : A) (i : ℕ) → slice_get (xs ++ v ∷ []) i ≡ Some m → (slice_get xs i ≡ Some m) ⊎ ((i ≡ length xs) × (v ≡ m))
place-of [] v m zero e = inr (refl, same-some refl e)
place-of [] v m (suc i) e = absurd (none-some refl e)
place-of (x ∷ xs) v m zero e = inl e
place-of (x ∷ xs) v m (suc i) e =
    elim (place-of xs v m i e) [
      | inl there ↦ inl there
      | inr here ↦ inr (ap (λ (k : ℕ). suc k) here.0, here.1)
    ]

-- what stands at a place still does in a longer list
still-at : {A : Type 0} (xs ys : List A) (m : A) (i : ℕ) → slice_get xs i ≡ Some m → slice_get (xs ++ ys) i ≡ Some m
still-at [] ys m i e = absurd (none-some refl e)
still-at (x ∷ xs) ys m zero e = e
still-at (x ∷ xs) ys m (suc i) e = still-at xs ys m i e

-- a fact of each element, and of one more
pub each-more : {A : Type 0} (P : A → Type 0) (xs : List A) (v : A) → All P xs → P v → All P (xs ++ v ∷ [])
each-more P xs v all more = All-append P xs (v ∷ []) all (All-cons P v [] more (λ k d less. absurd (omega (arith, less))))

before-more : (last a b : ℕ) → a ≤ last → last < b → a ≤ b
before-more last a b le lt = omega arith

below-more : (last a b : ℕ) → a ≤ last → last < b → a < b
below-more last a b le lt = omega arith

no-place : (i j k : ℕ) → i < j → i ≡ k → j ≤ k → ⊥
no-place i j k less is le = absurd (omega arith)

module _ {S O : Type 0} where
  -- all names are at most this
  abbrev pub AreUpTo : ℕ → List (NodeValue S O) → Type 0
  AreUpTo last nodes = (i : ℕ) (m : NodeValue S O) → slice_get nodes i ≡ Some m → m.state.name ≤ last

  -- a node of a greater name goes to the end
  pub rise-more : (last : ℕ) (nodes : List (NodeValue S O)) (v : NodeValue S O) → AreRising nodes → AreUpTo last nodes → last < v.state.name → AreRising (nodes ++ v ∷ [])
  rise-more last nodes v rise upto more i j m n less at_i at_j =
      elim (place-of nodes v n j at_j) [
        | inl there ↦
            elim (place-of nodes v m i at_i) [
              | inl before ↦ rise i j m n less before there
              | inr here ↦ absurd (no-place i j (length nodes) less here.0 (let k : j < length nodes = slice_get_within nodes j n there in omega arith))
            ]
        | inr end ↦
            elim (place-of nodes v m i at_i) [
              | inl before ↦ subst (λ (x : NodeValue S O). m.state.name < x.state.name) end.1 (below-more last m.state.name v.state.name (upto i m before) more)
              | inr here ↦ absurd (no-place i j (length nodes) less here.0 (let k : j ≡ length nodes = end.0 in omega arith))
            ]
      ]

  pub up-to-more : (last : ℕ) (nodes : List (NodeValue S O)) (v : NodeValue S O) → AreUpTo last nodes → last < v.state.name → AreUpTo v.state.name (nodes ++ v ∷ [])
  up-to-more last nodes v upto more i m at =
      elim (place-of nodes v m i at) [
        | inl there ↦ before-more last m.state.name v.state.name (upto i m there) more
        | inr here ↦ subst (λ (x : NodeValue S O). x.state.name ≤ v.state.name) here.1 (let k : v.state.name ≡ v.state.name = refl in omega arith)
      ]

  pub first-alone : (v : NodeValue S O) → AreStatesFrom v ([] ++ v ∷ [])
  first-alone v =
      record {
        head = refl;
        rising = λ i j m n less at_i at_j.
            elim (place-of [] v n j at_j) [
              | inl there ↦ absurd (none-some refl there)
              | inr here ↦ absurd (let k : j ≡ 0 = here.0 in omega arith)
            ];
        same_round = each-more (λ (n : NodeValue S O). n.state.round ≡ v.state.round) [] v (λ k d less. absurd (omega (arith, less))) refl;
      }

  pub first-up-to : (v : NodeValue S O) → AreUpTo v.state.name ([] ++ v ∷ [])
  first-up-to v i m at =
      elim (place-of [] v m i at) [
        | inl there ↦ absurd (none-some refl there)
        | inr here ↦ subst (λ (x : NodeValue S O). x.state.name ≤ v.state.name) here.1 (let k : v.state.name ≡ v.state.name = refl in omega arith)
      ]

  pub more-states : (last : ℕ) (first : NodeValue S O) (nodes : List (NodeValue S O)) (v : NodeValue S O) → AreStatesFrom first nodes → AreUpTo last nodes → last < v.state.name → v.state.round ≡ first.state.round → AreStatesFrom first (nodes ++ v ∷ [])
  more-states last first nodes v from upto more same =
      record {
        head = still-at nodes (v ∷ []) first 0 from.head;
        rising = rise-more last nodes v from.rising upto more;
        same_round = each-more (λ (n : NodeValue S O). n.state.round ≡ first.state.round) nodes v from.same_round same;
      }

  -- the list with its first node, as it was made
  pub first-gathered : (P : NodeValue S O → Type 0) (v : NodeValue S O) (xs ys : List (NodeValue S O)) (name : ℕ) → xs ≡ [] → ys ≡ xs ++ v ∷ [] → name ≡ v.state.name → P v → AreStatesFrom v ys × AreUpTo name ys × All P ys
  first-gathered P v xs ys name none is named holds =
      let all : ys ≡ [] ++ v ∷ [] = is ∙ ap (λ (zs : List (NodeValue S O)). zs ++ v ∷ []) none in (
        subst (λ (zs : List (NodeValue S O)). AreStatesFrom v zs) (sym all) (first-alone v),
        subst (λ (zs : List (NodeValue S O)). AreUpTo name zs) (sym all) (subst (λ (k : ℕ). AreUpTo k ([] ++ v ∷ [])) (sym named) (first-up-to v)),
        subst (λ (zs : List (NodeValue S O)). All P zs) (sym all) (each-more P [] v (λ k d less. absurd (omega (arith, less))) holds),
      )

  -- and with one more
  pub more-gathered : (P : NodeValue S O → Type 0) (last : ℕ) (first v : NodeValue S O) (xs ys : List (NodeValue S O)) (name : ℕ) → AreStatesFrom first xs × AreUpTo last xs × All P xs → last < v.state.name → v.state.round ≡ first.state.round → ys ≡ xs ++ v ∷ [] → name ≡ v.state.name → P v → AreStatesFrom first ys × AreUpTo name ys × All P ys
  more-gathered P last first v xs ys name so_far less same is named holds = (
    subst (λ (zs : List (NodeValue S O)). AreStatesFrom first zs) (sym is) (more-states last first xs v so_far.0 so_far.1 less same),
    subst (λ (zs : List (NodeValue S O)). AreUpTo name zs) (sym is) (subst (λ (k : ℕ). AreUpTo k (xs ++ v ∷ [])) (sym named) (up-to-more last xs v so_far.1 less)),
    subst (λ (zs : List (NodeValue S O)). All P zs) (sym is) (each-more P xs v so_far.2 holds),
  )

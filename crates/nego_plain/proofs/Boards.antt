use Rattle.std.proofs.Common.{◌≡◌, ◌∙◌, ℕ, ◌+◌, ◌≤◌, Bool, true, false, Some, nat_eq, List, [], ◌∷◌, ◌++◌, map, IsPermutation, All, sym, ap, refl, subst, if◌then◌else◌, arith, append_assoc}
use Rattle.std.proofs.lemmas.Bool.{eq-eqb}
use Rattle.std.proofs.lemmas.List.Elements.{All-nil, All-cons, All-head, All-tail}
use Rattle.std.proofs.lemmas.List.Sums.{sum_by-cons, sum_by-append}
use Rattle.std.proofs.lemmas.List.Sorted.{IsPermutation-cons, IsPermutation-trans, IsPermutation-append_left, IsPermutation-append_right, IsPermutation-append_comm, All-permutation}
use Rattle.nego_laws.specs.Tree.{Tree}
use Rattle.nego_node.specs.declared.events.Event.{Event}
use Rattle.nego_node.specs.Board.{BoardNode, node_named, with_event, changed}
use Rattle.nego_plain.specs.Family.{Family, alone, with_parts, top, with_top}
use Rattle.nego_plain.specs.BoardOf.{nodes_of, has_name, count, IsBoardOf}
use Rattle.nego_plain.proofs.Tests.{false-if}

-- Boards as lists of nodes.
module _ {O : Type 0} where
  -- the node of a name has the event, and all others are as they were
  abbrev pub changing : Tree O → ℕ → Event O → BoardNode O → BoardNode O
  changing t b e n = if nat_eq n.state.name b then with_event t e n else n

  pub count-cons : (c : ℕ) (n : BoardNode O) (ns : List (BoardNode O)) → count c (n ∷ ns) ≡ has_name c n + count c ns
  count-cons c n ns = sum_by-cons (has_name c) n ns

  pub count-append : (c : ℕ) (xs ys : List (BoardNode O)) → count c (xs ++ ys) ≡ count c xs + count c ys
  count-append c xs ys = sum_by-append (has_name c) xs ys

  -- with the tails' facts given
  none-step : (t : Tree O) (b : ℕ) (e : Event O) (n : BoardNode O) (ns : List (BoardNode O)) (k : ℕ) → (k ≡ 0 → map (changing t b e) ns ≡ ns) → (x : Bool) → (if x then 1 else 0) + k ≡ 0 → (if x then with_event t e n else n) ∷ map (changing t b e) ns ≡ n ∷ ns
  none-step t b e n ns k tail true g = absurd (omega (arith, g))
  none-step t b e n ns k tail false g = ap (λ (ms : List (BoardNode O)). n ∷ ms) (tail (omega (arith, g)))

  pub same-none : (t : Tree O) (b : ℕ) (e : Event O) (ns : List (BoardNode O)) → count b ns ≡ 0 → map (changing t b e) ns ≡ ns
  same-none t b e [] h = refl
  same-none t b e (n ∷ ns) h = none-step t b e n ns (count b ns) (same-none t b e ns) (nat_eq n.state.name b) (sym (count-cons b n ns) ∙ h)

  changed-step : (t : Tree O) (b : ℕ) (e : Event O) (n : BoardNode O) (ns : List (BoardNode O)) (k : ℕ) → (k ≤ 1 → changed t ns b e ≡ map (changing t b e) ns) → (k ≡ 0 → map (changing t b e) ns ≡ ns) → (x : Bool) → (if x then 1 else 0) + k ≤ 1 → (if x then with_event t e n ∷ ns else n ∷ changed t ns b e) ≡ (if x then with_event t e n else n) ∷ map (changing t b e) ns
  changed-step t b e n ns k tail none true g = ap (λ (ms : List (BoardNode O)). with_event t e n ∷ ms) (sym (none (omega (arith, g))))
  changed-step t b e n ns k tail none false g = ap (λ (ms : List (BoardNode O)). n ∷ ms) (tail (omega (arith, g)))

  pub changed-map : (t : Tree O) (b : ℕ) (e : Event O) (ns : List (BoardNode O)) → count b ns ≤ 1 → changed t ns b e ≡ map (changing t b e) ns
  changed-map t b e [] h = refl
  changed-map t b e (n ∷ ns) h =
      changed-step t b e n ns (count b ns) (changed-map t b e ns) (same-none t b e ns) (nat_eq n.state.name b) (omega (arith, h, count-cons b n ns))

  -- a node of a list
  pub data Has : BoardNode O → List (BoardNode O) → Type 0 where
    first : (n : BoardNode O) (ns : List (BoardNode O)) → Has n (n ∷ ns)
    later : (n m : BoardNode O) (ns : List (BoardNode O)) → Has n ns → Has n (m ∷ ns)

  own-name : (n : BoardNode O) → has_name n.state.name n ≡ 1
  own-name n = ap (λ (b : Bool). if b then 1 else 0) (eq-eqb n.state.name n.state.name refl)

  pub has-count : {n : BoardNode O} {ns : List (BoardNode O)} → Has n ns → 1 ≤ count n.state.name ns
  has-count (first n ns) = omega (arith, count-cons n.state.name n ns, own-name n)
  has-count (later n m ns h) = omega (arith, count-cons n.state.name m ns, has-count h)

  pub has-all : (P : BoardNode O → Type 0) {n : BoardNode O} {ns : List (BoardNode O)} → Has n ns → All P ns → P n
  has-all P (first n ns) h = All-head P n ns h
  has-all P (later n m ns has) h = has-all P has (All-tail P m ns h)

  pub has-left : {n : BoardNode O} {xs : List (BoardNode O)} (ys : List (BoardNode O)) → Has n xs → Has n (xs ++ ys)
  has-left ys (first n ns) = first n (ns ++ ys)
  has-left ys (later n m ns h) = later n m (ns ++ ys) (has-left ys h)

  pub has-right : {n : BoardNode O} (xs : List (BoardNode O)) {ys : List (BoardNode O)} → Has n ys → Has n (xs ++ ys)
  has-right {n = n} [] h = h
  has-right {n = n} (x ∷ xs) {ys = ys} h = later n x (xs ++ ys) (has-right xs h)

  pub has-top : (f : Family O) → Has (top f) (nodes_of f)
  has-top (alone n) = first n []
  has-top (with_parts n l r) = first n (nodes_of l ++ nodes_of r)

  -- each node is found by its name where names are once
  skip : (m : BoardNode O) (ns : List (BoardNode O)) (n : BoardNode O) → Has n ns → count n.state.name (m ∷ ns) ≤ 1 → node_named ns n.state.name ≡ Some n → node_named (m ∷ ns) n.state.name ≡ Some n
  skip m ns n has once found =
      let other : nat_eq m.state.name n.state.name ≡ false =
      false-if (nat_eq m.state.name n.state.name) (λ h.
      let one : has_name n.state.name m ≡ 1 = ap (λ (b : Bool). if b then 1 else 0) h in
      omega (arith, once, count-cons n.state.name m ns, one, has-count has))
      in
      rw other found

  pub found : {n : BoardNode O} {ns : List (BoardNode O)} → Has n ns → count n.state.name ns ≤ 1 → node_named ns n.state.name ≡ Some n
  found (first n ns) once = ap (λ (b : Bool). if b then Some n else node_named ns n.state.name) (eq-eqb n.state.name n.state.name refl)
  found (later n m ns h) once = skip m ns n h once (found h (omega (arith, once, count-cons n.state.name m ns)))

  all-has : (ns : List (BoardNode O)) → All (λ n. Has n ns) ns
  all-has ns = go ns [] refl
    where
      go : (xs front : List (BoardNode O)) → ns ≡ front ++ xs → All (λ n. Has n ns) xs
      go [] front e = All-nil _
      go (x ∷ xs) front e =
          All-cons (λ n. Has n ns) x xs (subst (λ (z : List (BoardNode O)). Has x z) (sym e) (has-right front (first x xs)))
          (go xs (front ++ x ∷ []) (e ∙ sym (append_assoc front (x ∷ []) xs)))

  -- the nodes of a family are found on its board
  pub has-board : (ns : List (BoardNode O)) (f : Family O) → IsBoardOf ns f → (n : BoardNode O) → Has n (nodes_of f) → Has n ns
  has-board ns f board n has = has-all (λ m. Has m ns) has (All-permutation (λ m. Has m ns) ns (nodes_of f) board.nodes (all-has ns))

  pub find : (ns : List (BoardNode O)) (f : Family O) → IsBoardOf ns f → (n : BoardNode O) → Has n (nodes_of f) → node_named ns n.state.name ≡ Some n
  find ns f board n has = found (has-board ns f board n has) (board.once n.state.name)

-- the top of a family changes
module _ {O : Type 0} (t : Tree O) (e : Event O) where
  abbrev pub step_all : BoardNode O → List (BoardNode O) → List (BoardNode O)
  step_all n ns = map (changing t n.state.name e) ns

  itself : (n : BoardNode O) → changing t n.state.name e n ≡ with_event t e n
  itself n = ap (λ (b : Bool). if b then with_event t e n else n) (eq-eqb n.state.name n.state.name refl)

  other-name : (n m : BoardNode O) → has_name n.state.name m ≡ 0 → changing t n.state.name e m ≡ m
  other-name n m h = go (nat_eq m.state.name n.state.name) h
    where
      go : (b : Bool) → (let z : ℕ = if b then 1 else 0 in z ≡ 0) → (if b then with_event t e m else m) ≡ m
      go true k = absurd (omega (arith, k))
      go false k = refl

  head-changes : (n : BoardNode O) (ns : List (BoardNode O)) → count n.state.name (n ∷ ns) ≤ 1 → step_all n (n ∷ ns) ≡ with_event t e n ∷ ns
  head-changes n ns once =
      let none : count n.state.name ns ≡ 0 = omega (arith, once, count-cons n.state.name n ns, own-name n) in
      ap (λ (m : BoardNode O). m ∷ step_all n ns) (itself n) ∙ ap (λ (ms : List (BoardNode O)). with_event t e n ∷ ms) (same-none t n.state.name e ns none)

  pub top-changes : (f : Family O) → count (top f).state.name (nodes_of f) ≤ 1 → step_all (top f) (nodes_of f) ≡ nodes_of (with_top f (with_event t e (top f)))
  top-changes (alone n) once = head-changes n [] once
  top-changes (with_parts n l r) once = head-changes n (nodes_of l ++ nodes_of r) once

  map-append : (n : BoardNode O) (xs ys : List (BoardNode O)) → step_all n (xs ++ ys) ≡ step_all n xs ++ step_all n ys
  map-append n [] ys = refl
  map-append n (x ∷ xs) ys = ap (λ (ms : List (BoardNode O)). changing t n.state.name e x ∷ ms) (map-append n xs ys)

  -- a node below changes
  pub left-changes : (m : BoardNode O) (xs xs' ys new : List (BoardNode O)) (n : BoardNode O) → Has n xs → count n.state.name (m ∷ (xs ++ ys)) ≤ 1 → IsPermutation (step_all n xs ++ new) xs' → IsPermutation (step_all n (m ∷ (xs ++ ys)) ++ new) (m ∷ (xs' ++ ys))
  left-changes m xs xs' ys new n has once perm =
      let total : count n.state.name (m ∷ (xs ++ ys)) ≡ has_name n.state.name m + (count n.state.name xs + count n.state.name ys) = count-cons n.state.name m (xs ++ ys) ∙ ap (λ (k : ℕ). has_name n.state.name m + k) (count-append n.state.name xs ys) in
      let no_m : has_name n.state.name m ≡ 0 = omega (arith, once, total, has-count has) in
      let no_y : count n.state.name ys ≡ 0 = omega (arith, once, total, has-count has) in
      let is : step_all n (m ∷ (xs ++ ys)) ≡ m ∷ (step_all n xs ++ ys) =
      ap (λ (z : BoardNode O). z ∷ step_all n (xs ++ ys)) (other-name n m no_m)
      ∙ (ap (λ (ms : List (BoardNode O)). m ∷ ms) (map-append n xs ys)
      ∙ ap (λ (ms : List (BoardNode O)). m ∷ (step_all n xs ++ ms)) (same-none t n.state.name e ys no_y)) in
      subst (λ (ms : List (BoardNode O)). IsPermutation (ms ++ new) (m ∷ (xs' ++ ys))) (sym is)
      (IsPermutation-cons m _ _
      (IsPermutation-trans ((step_all n xs ++ ys) ++ new) ((step_all n xs ++ new) ++ ys) (xs' ++ ys)
      (subst (λ (ms : List (BoardNode O)). IsPermutation ms ((step_all n xs ++ new) ++ ys)) (sym (append_assoc (step_all n xs) ys new))
      (subst (λ (ms : List (BoardNode O)). IsPermutation (step_all n xs ++ (ys ++ new)) ms) (sym (append_assoc (step_all n xs) new ys))
      (IsPermutation-append_right (step_all n xs) (ys ++ new) (new ++ ys) (IsPermutation-append_comm ys new))))
      (IsPermutation-append_left ys (step_all n xs ++ new) xs' perm)))

  pub right-changes : (m : BoardNode O) (xs ys ys' new : List (BoardNode O)) (n : BoardNode O) → Has n ys → count n.state.name (m ∷ (xs ++ ys)) ≤ 1 → IsPermutation (step_all n ys ++ new) ys' → IsPermutation (step_all n (m ∷ (xs ++ ys)) ++ new) (m ∷ (xs ++ ys'))
  right-changes m xs ys ys' new n has once perm =
      let total : count n.state.name (m ∷ (xs ++ ys)) ≡ has_name n.state.name m + (count n.state.name xs + count n.state.name ys) = count-cons n.state.name m (xs ++ ys) ∙ ap (λ (k : ℕ). has_name n.state.name m + k) (count-append n.state.name xs ys) in
      let no_m : has_name n.state.name m ≡ 0 = omega (arith, once, total, has-count has) in
      let no_x : count n.state.name xs ≡ 0 = omega (arith, once, total, has-count has) in
      let is : step_all n (m ∷ (xs ++ ys)) ≡ m ∷ (xs ++ step_all n ys) =
      ap (λ (z : BoardNode O). z ∷ step_all n (xs ++ ys)) (other-name n m no_m)
      ∙ (ap (λ (ms : List (BoardNode O)). m ∷ ms) (map-append n xs ys)
      ∙ ap (λ (ms : List (BoardNode O)). m ∷ (ms ++ step_all n ys)) (same-none t n.state.name e xs no_x)) in
      subst (λ (ms : List (BoardNode O)). IsPermutation (ms ++ new) (m ∷ (xs ++ ys'))) (sym is)
      (IsPermutation-cons m _ _
      (subst (λ (ms : List (BoardNode O)). IsPermutation ms (xs ++ ys')) (sym (append_assoc xs (step_all n ys) new))
      (IsPermutation-append_right xs (step_all n ys ++ new) ys' perm)))

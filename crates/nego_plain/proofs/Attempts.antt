use Rattle.std.proofs.Common.{◌≡◌, ◌∙◌, ℕ, ◌+◌, Bool, true, false, Some, None, nat_eq, List, [], ◌∷◌, ◌++◌, map, sum_by, IsPermutation, sym, ap, refl, arith, if◌then◌else◌}
use Rattle.std.proofs.lemmas.List.Sums.{sum_by-cons, sum_by-append}
use Rattle.std.proofs.lemmas.List.Sorted.{sum_by-IsPermutation}
use Rattle.nego_laws.specs.Tree.{Tree}
use Rattle.nego_node.specs.NodeValue.{NodeValue}
use Rattle.nego_node.specs.declared.events.Event.{Event}
use Rattle.nego_node.specs.declared.events.Event.TheVariants as event
use Rattle.nego_node.specs.Board.{BoardNode, node_named, with_event, changed, opens, done, first_board}
use Rattle.nego_plain.specs.PlainOrder.{PlainRun, stays, goes, tried_in, tried_of}
use Rattle.nego_plain.specs.Views.{board_node}

-- The attempts of a run are those in the histories.
module _ {O : Type 0} where
  abbrev tries_at : BoardNode O → ℕ
  tries_at n = tried_of n.history

  abbrev tries_in : List (BoardNode O) → ℕ
  tries_in ns = sum_by (λ n. tried_of n.history) ns

  tried-end : (h : List (Event O)) (e : Event O) → tried_of (h ++ e ∷ []) ≡ tried_of h + tried_in e
  tried-end [] e = omega arith
  tried-end (d ∷ h) e = omega (arith, tried-end h e)

  in-cons : (n : BoardNode O) (ns : List (BoardNode O)) → tries_in (n ∷ ns) ≡ tries_at n + tries_in ns
  in-cons n ns = sum_by-cons tries_at n ns

  one-more : (t : Tree O) (b : ℕ) (e : Event O) (n : BoardNode O) (ns : List (BoardNode O)) (node : BoardNode O) (x : Bool) → (if x then Some n else node_named ns b) ≡ Some node → (node_named ns b ≡ Some node → tries_in (changed t ns b e) ≡ tries_in ns + tried_in e) → tries_in (if x then with_event t e n ∷ ns else n ∷ changed t ns b e) ≡ tries_at n + tries_in ns + tried_in e
  one-more t b e n ns node true found tail = omega (arith, in-cons (with_event t e n) ns, tried-end n.history e)
  one-more t b e n ns node false found tail = omega (arith, in-cons n (changed t ns b e), tail found)

  none-there : (b : ℕ) (node : BoardNode O) → node_named {O = O} [] b ≡ Some node → ⊥
  none-there b node e = let k : None ≡ Some node = e in cc

  changed-tries : (t : Tree O) (b : ℕ) (e : Event O) (ns : List (BoardNode O)) (node : BoardNode O) → node_named ns b ≡ Some node → tries_in (changed t ns b e) ≡ tries_in ns + tried_in e
  changed-tries t b e [] node found = absurd (none-there b node found)
  changed-tries t b e (n ∷ ns) node found =
      omega (arith, one-more t b e n ns node (nat_eq n.state.name b) found (changed-tries t b e ns node), in-cons n ns)

  opens-none : (round b : ℕ) (e : Event O) → tries_in (opens round b e) ≡ 0
  opens-none round b (event.Received z) = refl
  opens-none round b (event.Tried i x) = refl
  opens-none round b event.Split = refl
  opens-none round b (event.Asked side z) = refl
  opens-none round b (event.Posted side a) = refl
  opens-none round b (event.Adopted side g x) = refl
  opens-none round b (event.Agreed side g x) = refl
  opens-none round b (event.Forbidden side g x) = refl
  opens-none round b (event.Refused side g) = refl
  opens-none round b event.Exhausted = refl

  done-tries : (t : Tree O) (round b : ℕ) (e : Event O) (ns : List (BoardNode O)) (node : BoardNode O) → node_named ns b ≡ Some node → tries_in (done t round ns b e) ≡ tries_in ns + tried_in e
  done-tries t round b e ns node found =
      omega (arith, sum_by-append tries_at (changed t ns b e) (opens round b e), opens-none round b e, changed-tries t b e ns node found)

  pub run-tries : {tree : O → Tree O} {t : Tree O} {round n : ℕ} {board : List (BoardNode O)} → PlainRun tree t round (first_board round) n board → tries_in board ≡ n
  run-tries stays = refl
  run-tries {t = t} {round = round} (goes {n = n} {b = b} {ns = ns} act e run none pick of_act happens) =
      ap (λ (z : List (BoardNode O)). tries_in z) happens.becomes ∙ omega (arith, done-tries t round b e ns happens.node happens.is_node, run-tries run)

  viewed : {S : Type 0} (xs : List (NodeValue S O)) → tries_in (map (λ n. board_node n) xs) ≡ sum_by (λ n. tried_of n.history) xs
  viewed [] = refl
  viewed {S} (x ∷ xs) = omega (arith, in-cons (board_node x) (map (λ n. board_node n) xs), viewed xs, sum_by-cons (λ (n : NodeValue S O). tried_of n.history) x xs)

  pub tries-in-order : {S : Type 0} (board : List (BoardNode O)) (nodes : List (NodeValue S O)) → IsPermutation board (map (λ n. board_node n) nodes) → sum_by (λ n. tried_of n.history) nodes ≡ tries_in board
  tries-in-order board nodes same = sym (viewed nodes) ∙ sum_by-IsPermutation tries_at board (map (λ n. board_node n) nodes) same

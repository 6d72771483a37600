use Rattle.std.proofs.Common.{ℕ, ◌+◌, ◌-◌, ◌≤◌, Bool, true, false, not, ◌||◌, Option, Some, None, is_some, nat_eq, if◌then◌else◌, arith}
use Rattle.nego_laws.specs.Tree.{Tree}
use Rattle.nego_node.specs.Machine.{Slot, State, generation_of}
use Rattle.nego_node.specs.Moves.{is_exhausted}
use Rattle.nego_plain.specs.Width.{Sites, leaf, fork, width}
use Rattle.nego_plain.specs.Family.{Family, alone, with_parts, top}
use Rattle.nego_plain.specs.Rest.{one_if, picked, whole, is_of_now, left_counts, right_counts, left_pends, right_pends, asking, rank, rest, effort, IsBounded}
use Rattle.nego_plain.proofs.Sums.{at_most}

asking-most : {O : Type 0} (o : Option (Slot O)) (c : State O) → asking o c ≤ 3
asking-most None c = omega arith
asking-most (Some k) c = go (is_some k.answer) (nat_eq (generation_of c.held) k.task.generation)
  where
    go : (a b : Bool) → (if a then 0 else if b then 1 else 2) ≤ 3
    go true b = omega arith
    go false true = omega arith
    go false false = omega arith

ranked : (a b c : Bool) (n n' : ℕ) → n ≤ 3 → n' ≤ 3 → (if a then 0 else if b then (if c then 10 else 6 + n) else 2 + n') ≤ 5 + picked b 5 0
ranked true b c n n' h k = omega arith
ranked false true true n n' h k = omega arith
ranked false true false n n' h k = omega (arith, h)
ranked false false c n n' h k = omega (arith, k)

pub rank-most : {O : Type 0} (s l r : State O) → rank s l r ≤ 5 + picked (is_some s.trial) 5 0
rank-most s l r =
    ranked (is_exhausted s.answer) (is_some s.trial) (is_some s.answer || not (is_of_now (generation_of s.held) s.right.slot)) (asking s.right.slot r) (asking s.left.slot l) (asking-most s.right.slot r) (asking-most s.left.slot l)

pub picked-most : (b : Bool) (v w : ℕ) → v ≤ w → picked b v w ≤ w
picked-most true v w h = h
picked-most false v w h = omega arith

-- a family has no more left than a fresh task gives it
module _ {O : Type 0} (m : ℕ) (t : Tree O) where
  pub within : (sh : Sites) (f : Family O) → IsBounded t sh f → (rest t sh f ≤ width sh) × (effort m t sh f ≤ whole m sh)
  within (leaf own) f b = (omega arith, cases (is_exhausted (top f).state.answer) (own - (top f).state.next) (omega arith))
    where
      cases : (b : Bool) (n : ℕ) → n ≤ own → n + (if b then 0 else m) ≤ own + m
      cases true n h = omega (arith, h)
      cases false n h = omega (arith, h)
  within (fork own x y) (alone n) b = (omega arith, omega arith)
  within (fork own x y) (with_parts n l r) b =
      let left = within x l b.2 in
      let right = within y r b.3 in
      let s : State O = n.state in
      at_most m (width y) (whole m y) (own - s.next) (whole m x) own (rank s (top l).state (top r).state)
      (picked (left_counts s (top l).state) (effort m t x l) (whole m x)) (picked (right_counts t s (top r).state) (effort m t y r) (whole m y))
      (picked (left_counts s (top l).state) (rest t x l) (width x) + one_if (left_pends s (top l).state))
      (picked (right_counts t s (top r).state) (rest t y r) (width y) + one_if (right_pends s (top r).state))
      (width x) (is_some s.trial) (omega arith) b.0 b.1 (picked-most _ _ _ left.1) (picked-most _ _ _ right.1) (rank-most s (top l).state (top r).state)

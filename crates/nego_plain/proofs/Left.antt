use Rattle.std.proofs.Common.{◌≡◌, ◌∙◌, ℕ, ◌+◌, ◌-◌, ◌*◌, ◌<◌, ◌≤◌, Bool, true, false, not, ◌&&◌, Option, Some, None, is_some, nat_lt, sym, ap, refl, subst, arith}
use Rattle.std.proofs.lemmas.Bool.{ltb-true}
use Rattle.nego_laws.specs.Tree.{Tree, left_of, right_of}
use Rattle.nego_node.specs.Machine.{Trial, State, half, other, side_of, generation_of, has_proposal, answered_in}
use Rattle.nego_node.specs.Moves.{seeks, is_exhausted, is_spent, is_present, on_trial_in, next_move, move_when_split, move_without_trial, move_in_trial}
use Rattle.nego_node.specs.declared.tasks.Side.{Side}
use Rattle.nego_node.specs.declared.moves.Move.{Move}
use Rattle.nego_node.specs.declared.moves.Move.TheVariants.{Wait, Try, Split, Exhaust}
use Rattle.nego_node.specs.Board.{BoardNode}
use Rattle.nego_node.proofs.Sides.{none-some}
use Rattle.nego_plain.specs.Width.{Sites, leaf, fork, width, IsSites}
use Rattle.nego_plain.specs.Family.{Family, alone, with_parts, top}
use Rattle.nego_plain.specs.Rest.{one_if, right_pends, rest, picked, whole, left_counts, right_counts, effort}
use Rattle.nego_plain.specs.Fits.{IsFamily}
use Rattle.nego_plain.specs.Engine.{NextIsTry, here, left_below, right_below}
use Rattle.nego_plain.proofs.Tests.{no-bool, at-if, current}

-- Where the next pick is an attempt, at least one is left.
abbrev IsTry : Move → Bool
IsTry Try = true
IsTry _ = false

module _ {O : Type 0} (t : Tree O) (s : State O) where
  abbrev Other : Move → Type 0
  Other m = IsTry m ≡ false

  without : Other (move_without_trial false s)
  without =
      at-if Other (is_spent s.left.slot) _ _ (λ _. refl) (λ _.
      at-if Other (is_spent s.right.slot) _ _ (λ _. refl) (λ _.
      at-if Other (has_proposal s.left.slot) _ _ (λ _. refl) (λ _.
      at-if Other (has_proposal s.right.slot) _ _ (λ _. refl) (λ _.
      at-if Other (not (is_some s.left.slot)) _ _ (λ _. refl) (λ _. refl)))))

  in-one : (side : Side) → Other (move_in_trial s side)
  in-one side =
      at-if Other (not (is_some (half s side).slot)) _ _ (λ _. refl) (λ _.
      at-if Other (has_proposal (half s side).slot) _ _ (λ _. at-if Other (is_present (generation_of s.held) (half s side).slot) _ _ (λ _. refl) (λ _. refl)) (λ _.
      at-if Other (is_exhausted (answered_in (half s side).slot) && on_trial_in (half s side).slot) _ _ (λ _. refl) (λ _. refl)))

  when : (o : Option Side) → Other (move_when_split false s o)
  when None = without
  when (Some side) = in-one (other side)

  abbrev Item : Move → Type 0
  Item m = IsTry m ≡ true → nat_lt s.next (t.items s.name) ≡ true

  no-item : (m : Move) → Other m → Item m
  no-item m f h = absurd (no-bool h f)

  item-left : next_move t false s ≡ Try → nat_lt s.next (t.items s.name) ≡ true
  item-left e =
      let all : Item (next_move t false s) =
      at-if Item (not (seeks s)) _ _ (λ _. no-item Wait refl) (λ _.
      at-if Item (nat_lt s.next (t.items s.name)) _ _ (λ f _. f) (λ _.
      at-if Item (not (t.parted s.name)) _ _ (λ _. no-item Exhaust refl) (λ _.
      at-if Item (not s.has_split) _ _ (λ _. no-item Split refl) (λ _. no-item _ (when (side_of s.trial))))))
      in
      all (ap (λ (m : Move). IsTry m) e)

module _ {O : Type 0} (tree : O → Tree O) (t : Tree O) (round : ℕ) where
  own-left : (b own : ℕ) (n : BoardNode O) → n.state.name ≡ b → t.items b ≡ own → next_move t false n.state ≡ Try → 1 ≤ own - n.state.next
  own-left b own n named items next =
      let less : n.state.next < t.items n.state.name = ltb-true n.state.next (t.items n.state.name) (item-left t n.state next) in
      omega (arith, less, ap t.items named ∙ items)

  pub one-left : (b : ℕ) (sh : Sites) {f : Family O} → IsSites t b sh → IsFamily tree t round b sh f → NextIsTry t f → 1 ≤ effort 0 t sh f
  one-left b (leaf own) sites fam (here (alone n) seeking next) = omega (arith, own-left b own n fam.named sites.0 next)
  one-left b (leaf own) sites fam (here (with_parts n l r) seeking next) = absurd fam
  one-left b (fork own x y) sites fam (here (alone n) seeking next) = omega (arith, own-left b own n fam.0.named sites.0 next)
  one-left b (fork own x y) sites fam (here (with_parts n l r) seeking next) = omega (arith, own-left b own n fam.0.named sites.0 next)
  one-left b (leaf own) sites fam (left_below n l r k waits held quiet more) = absurd fam
  one-left b (fork own x y) sites fam (left_below n l r k waits held quiet more) =
      let cur = current n.state.left.slot k (top l).state waits.slot held in
      let c : left_counts n.state (top l).state ≡ true = rw cur refl in
      let p : picked (left_counts n.state (top l).state) (effort 0 t x l) (whole 0 x) ≡ effort 0 t x l = ap (λ (z : Bool). picked z (effort 0 t x l) (whole 0 x)) c in
      omega (arith, p, one-left (left_of b) x sites.2 fam.2 more)
  one-left b (leaf own) sites fam (right_below n l r k waits held quiet more) = absurd fam
  one-left b (fork own x y) sites fam (right_below n l r k waits held quiet more) =
      let cur = current n.state.right.slot k (top r).state waits.slot held in
      let c : right_counts t n.state (top r).state ≡ true = rw cur refl in
      let tr : is_some n.state.trial ≡ true = there n.state.trial refl in
      let p : picked (right_counts t n.state (top r).state) (effort 0 t y r) (whole 0 y) ≡ effort 0 t y r = ap (λ (z : Bool). picked z (effort 0 t y r) (whole 0 y)) c in
      let ih = one-left (right_of b) y sites.3 fam.3 more in
      let at-least : (v : ℕ) → effort 0 t y r ≤ picked (is_some n.state.trial) (picked (right_counts t n.state (top r).state) (effort 0 t y r) (whole 0 y) + v) 0 = λ v. subst (λ (z : Bool). effort 0 t y r ≤ picked z (picked (right_counts t n.state (top r).state) (effort 0 t y r) (whole 0 y) + v) 0) (sym tr) (omega (arith, p)) in
      omega (arith, at-least (0 * (5 * (picked (right_counts t n.state (top r).state) (rest t y r) (width y) + one_if (right_pends n.state (top r).state)))), ih)
    where
      there : (o : Option (Trial O)) → n.state.trial ≡ o → is_some n.state.trial ≡ true
      there None e = absurd (none-some (fam.1.no_right e) waits.slot)
      there (Some z) e = ap (λ (o : Option (Trial O)). is_some o) e

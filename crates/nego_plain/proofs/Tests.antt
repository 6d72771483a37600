use Rattle.std.proofs.Common.{◌≡◌, ◌∙◌, ◌<◌, Bool, true, false, not, ◌&&◌, ◌||◌, Option, Some, None, is_some, nat_eq, nat_lt, List, [], ◌∷◌, ◌++◌, sym, ap, refl, subst, if◌then◌else◌, arith}
use Rattle.std.proofs.lemmas.Bool.{eqb-true, eq-eqb}
use Rattle.nego_node.specs.Machine.{Slot, State, generation_of, is_proposal}
use Rattle.nego_node.specs.Moves.{seeks, next_move, move_without_trial, move_when_split}
use Rattle.nego_node.specs.declared.tasks.Side.TheVariants.{Right}
use Rattle.nego_node.specs.declared.answers.Answer.{Answer}
use Rattle.nego_node.specs.declared.moves.Move.{Move}
use Rattle.nego_node.specs.declared.moves.Move.TheVariants.{Wait, Ask}
use Rattle.nego_laws.specs.Tree.{Tree}
use Rattle.nego_node.specs.Machine.{side_of, has_proposal}
use Rattle.nego_node.specs.Moves.{is_spent}
use Rattle.nego_plain.specs.Rest.{is_current, is_more}

pub no-bool : {b : Bool} → b ≡ true → b ≡ false → ⊥
no-bool h k = let e : true ≡ false = sym h ∙ k in cc

pub false-if : (b : Bool) → (b ≡ true → ⊥) → b ≡ false
false-if true h = absurd (h refl)
false-if false h = refl

pub or-true : (a b : Bool) → b ≡ true → a || b ≡ true
or-true true b h = refl
or-true false b h = h

pub or-same : (a b c : Bool) → a ≡ b → a || c ≡ b || c
or-same a b c e = ap (λ (x : Bool). x || c) e

pub and-false : (a b : Bool) → a ≡ false → a && b ≡ false
and-false true b h = absurd (let e : true ≡ false = h in cc)
and-false false b h = refl

pub and-second : (a b : Bool) → b ≡ false → a && b ≡ false
and-second true b h = h
and-second false b h = refl

module _ {O : Type 0} where
  -- a part with an older task has not the slot's
  pub older : (o : Option (Slot O)) (c : State O) → ((k : Slot O) → o ≡ Some k → generation_of c.held < k.task.generation) → is_current o c ≡ false
  older None c less = refl
  older (Some k) c less =
      false-if (nat_eq (generation_of c.held) k.task.generation) (λ h.
      let e : generation_of c.held ≡ k.task.generation = eqb-true (generation_of c.held) k.task.generation h in
      omega (arith, less k refl, e))

  pub current : (o : Option (Slot O)) (k : Slot O) (c : State O) → o ≡ Some k → c.held ≡ Some k.task → is_current o c ≡ true
  current o k c e held = rw e (rw held (eq-eqb k.task.generation k.task.generation refl))

  pub more-end : (xs : List O) (x : O) → is_more (xs ++ x ∷ []) ≡ true
  more-end [] x = refl
  more-end (y ∷ xs) x = refl

  pub proposes : (a : Option (Answer O)) → a ≡ None → is_proposal a ≡ false
  proposes a e = rw e refl

-- a fact that the next move excludes
pub at-if : (P : Move → Type 0) (b : Bool) (x y : Move) → (b ≡ true → P x) → (b ≡ false → P y) → P (if b then x else y)
at-if P true x y f g = f refl
at-if P false x y f g = g refl

abbrev pub IsAskRight : Move → Bool
IsAskRight (Ask Right) = true
IsAskRight _ = false

module _ {O : Type 0} (t : Tree O) (s : State O) where
  abbrev Other : Move → Type 0
  Other m = IsAskRight m ≡ false

  -- who is not eager asks the right side in a trial alone
  no-ask-right : Other (move_without_trial false s)
  no-ask-right =
      at-if Other (is_spent s.left.slot) _ _ (λ _. refl) (λ _.
      at-if Other (is_spent s.right.slot) _ _ (λ _. refl) (λ _.
      at-if Other (has_proposal s.left.slot) _ _ (λ _. refl) (λ _.
      at-if Other (has_proposal s.right.slot) _ _ (λ _. refl) (λ _.
      at-if Other (not (is_some s.left.slot)) _ _ (λ _. refl) (λ _. refl)))))

  pub no-ask : s.trial ≡ None → Other (next_move t false s)
  no-ask none =
      at-if Other (not (seeks s)) _ _ (λ _. refl) (λ _.
      at-if Other (nat_lt s.next (t.items s.name)) _ _ (λ _. refl) (λ _.
      at-if Other (not (t.parted s.name)) _ _ (λ _. refl) (λ _.
      at-if Other (not s.has_split) _ _ (λ _. refl) (λ _.
      subst (λ (o : Option _). Other (move_when_split false s (side_of o))) (sym none) no-ask-right))))

  -- a move is made under a task without an answer
  pub wait-unless : seeks s ≡ false → next_move t false s ≡ Wait
  wait-unless e = rw e refl

use Rattle.std.proofs.Common.{◌≡◌, ◌≢◌, ◌∙◌, ℕ, Option, Some, None, is_some, List, IsSome, true, false, sym, ap, refl, subst}
use Rattle.nego_laws.specs.Tree.{Tree}
use Rattle.nego_node.specs.Machine.{Slot, half, part_of}
use Rattle.nego_node.specs.Moves.{next_move}
use Rattle.nego_node.specs.declared.tasks.Task.{Task}
use Rattle.nego_node.specs.declared.tasks.Side.{Side}
use Rattle.nego_node.specs.declared.answers.Answer.{Answer}
use Rattle.nego_node.specs.declared.moves.Move.{Move}
use Rattle.nego_node.specs.declared.moves.Move.TheVariants.{Wait}
use Rattle.nego_node.specs.declared.acts.Act.{Act}
use Rattle.nego_node.specs.declared.acts.Act.TheVariants.{Post, Make}
use Rattle.nego_node.specs.Board.{BoardNode, node_named}
use Rattle.nego_node.proofs.Sides.{same-some, none-some}
use Rattle.nego_plain.specs.PlainOrder.{WaitsFor, asked_side, IsPlainPick, receives, moves, asks, posts, below}

-- The pick of the plain order is one.
module _ {O : Type 0} (t : Tree O) (ns : List (BoardNode O)) where
  -- what two of them have in common that wait for a part
  record Shares (side other : Side) (k l : Slot O) (c d : BoardNode O) : Type 0 where
    pub side_is : side ≡ other
    pub slot_is : k ≡ l
    pub part_is : c ≡ d

  shares : (b : ℕ) (m n c d : BoardNode O) (side other : Side) (k l : Slot O) → node_named ns b ≡ Some m → node_named ns b ≡ Some n → WaitsFor t m.state side k → WaitsFor t n.state other l → node_named ns (part_of b side) ≡ Some c → node_named ns (part_of b other) ≡ Some d → Shares side other k l c d
  shares b m n c d side other k l at also w v part its =
      let e : m ≡ n = same-some at also in
      let s : side ≡ other = w.is_side ∙ (ap (λ (z : BoardNode O). asked_side z.state.trial) e ∙ sym v.is_side) in
      record {
        side_is = s;
        slot_is =
            same-some w.slot (ap (λ (z : BoardNode O). (half z.state side).slot) e ∙ (ap (λ (z : Side). (half n.state z).slot) s ∙ v.slot));
        part_is = same-some part (ap (λ (z : Side). node_named ns (part_of b z)) s ∙ its);
      }

  no-task : (b : ℕ) (m n : BoardNode O) → node_named ns b ≡ Some m → node_named ns b ≡ Some n → m.state.held ≡ None → IsSome n.state.held → ⊥
  no-task b m n at also none some =
      let e : m ≡ n = same-some at also in
      let k : is_some {T = Task O} None ≡ is_some n.state.held = ap (λ (o : Option (Task O)). is_some o) (sym none ∙ ap (λ (z : BoardNode O). z.state.held) e) in
      no-bool-here (k ∙ some)
    where
      no-bool-here : is_some {T = Task O} None ≡ true → ⊥
      no-bool-here e = cc

  own-waits : (b : ℕ) (m n : BoardNode O) (step : Move) (side : Side) (k : Slot O) → node_named ns b ≡ Some m → node_named ns b ≡ Some n → next_move t false m.state ≡ step → step ≢ Wait → WaitsFor t n.state side k → ⊥
  own-waits b m n step side k at also next own w =
      own (sym next ∙ (ap (λ (z : BoardNode O). next_move t false z.state) (same-some at also) ∙ w.waits))

  -- the part holds the slot's task, or does not
  holds-not : {side other : Side} {k l : Slot O} {c d : BoardNode O} → Shares side other k l c d → c.state.held ≢ Some k.task → d.state.held ≡ Some l.task → ⊥
  holds-not sh differs held =
      differs (ap (λ (z : BoardNode O). z.state.held) sh.part_is ∙ (held ∙ ap (λ (z : Slot O). Some z.task) (sym sh.slot_is)))

  -- it has answered, or has not
  says-not : {side other : Side} {k l : Slot O} {c d : BoardNode O} (a : Answer O) → Shares side other k l c d → c.state.answer ≡ Some a → d.state.answer ≡ None → ⊥
  says-not a sh said none = none-some (ap (λ (z : BoardNode O). z.state.answer) sh.part_is ∙ none) said

  flip : {side other : Side} {k l : Slot O} {c d : BoardNode O} → Shares side other k l c d → Shares other side l k d c
  flip sh = record { side_is = sym sh.side_is; slot_is = sym sh.slot_is; part_is = sym sh.part_is }

  pub one-pick : (b c d : ℕ) (act also : Act) → IsPlainPick t ns b c act → IsPlainPick t ns b d also → (c ≡ d) × (act ≡ also)
  one-pick b c d act also (receives m at none) (receives n its nil) = (refl, refl)
  one-pick b c d act also (receives m at none) (moves n step its some next own) = absurd (no-task b m n at its none some)
  one-pick b c d act also (receives m at none) (asks n p side k its w part differs) = absurd (no-task b m n at its none w.holds)
  one-pick b c d act also (receives m at none) (posts n p side k a its w part held said) = absurd (no-task b m n at its none w.holds)
  one-pick b c d act also (receives m at none) (below n p side k its w part held quiet more) = absurd (no-task b m n at its none w.holds)
  one-pick b c d act also (moves m step at some next own) (receives n its none) = absurd (no-task b n m its at none some)
  one-pick b c d act also (moves m step at some next own) (moves n more its any then_ also_own) =
      (refl, ap (λ (z : Move). Make z) (sym next ∙ (ap (λ (z : BoardNode O). next_move t false z.state) (same-some at its) ∙ then_)))
  one-pick b c d act also (moves m step at some next own) (asks n p side k its w part differs) = absurd (own-waits b m n step side k at its next own w)
  one-pick b c d act also (moves m step at some next own) (posts n p side k a its w part held said) = absurd (own-waits b m n step side k at its next own w)
  one-pick b c d act also (moves m step at some next own) (below n p side k its w part held quiet more) = absurd (own-waits b m n step side k at its next own w)
  one-pick b c d act also (asks m p side k at w part differs) (receives n its none) = absurd (no-task b n m its at none w.holds)
  one-pick b c d act also (asks m p side k at w part differs) (moves n step its some next own) = absurd (own-waits b n m step side k its at next own w)
  one-pick b c d act also (asks m p side k at w part differs) (asks n q side' l its v there differs') =
      (ap (λ (z : Side). part_of b z) (shares b m n p q side side' k l at its w v part there).side_is, refl)
  one-pick b c d act also (asks m p side k at w part differs) (posts n q side' l a its v there held said) =
      absurd (holds-not (shares b m n p q side side' k l at its w v part there) differs held)
  one-pick b c d act also (asks m p side k at w part differs) (below n q side' l its v there held quiet more) =
      absurd (holds-not (shares b m n p q side side' k l at its w v part there) differs held)
  one-pick b c d act also (posts m p side k a at w part held said) (receives n its none) = absurd (no-task b n m its at none w.holds)
  one-pick b c d act also (posts m p side k a at w part held said) (moves n step its some next own) = absurd (own-waits b n m step side k its at next own w)
  one-pick b c d act also (posts m p side k a at w part held said) (asks n q side' l its v there differs) =
      absurd (holds-not (shares b n m q p side' side l k its at v w there part) differs held)
  one-pick b c d act also (posts m p side k a at w part held said) (posts n q side' l a' its v there held' said') =
      (refl, ap (λ (z : Side). Post z) (shares b m n p q side side' k l at its w v part there).side_is)
  one-pick b c d act also (posts m p side k a at w part held said) (below n q side' l its v there held' quiet more) =
      absurd (says-not a (shares b m n p q side side' k l at its w v part there) said quiet)
  one-pick b c d act also (below m p side k at w part held quiet rest) (receives n its none) = absurd (no-task b n m its at none w.holds)
  one-pick b c d act also (below m p side k at w part held quiet rest) (moves n step its some next own) = absurd (own-waits b n m step side k its at next own w)
  one-pick b c d act also (below m p side k at w part held quiet rest) (asks n q side' l its v there differs) =
      absurd (holds-not (shares b n m q p side' side l k its at v w there part) differs held)
  one-pick b c d act also (below m p side k at w part held quiet rest) (posts n q side' l a its v there held' said) =
      absurd (says-not a (flip (shares b m n p q side side' k l at its w v part there)) said quiet)
  one-pick b c d act also (below m p side k at w part held quiet rest) (below n q side' l its v there held' quiet' more) =
      one-pick (part_of b side) c d act also rest (subst (λ (z : Side). IsPlainPick t ns (part_of b z) d also) (sym (shares b m n p q side side' k l at its w v part there).side_is) more)

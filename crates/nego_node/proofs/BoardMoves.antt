use Rattle.std.proofs.Common.{◌≡◌, ◌∙◌, ℕ, zero, suc, ◌<◌, true, false, ◌↔◌, inl, inr, Option, Some, None, List, sym, ap, refl, subst, arith}
use Rattle.std.proofs.Math.Nat.{eq-or-lt_of_le}
use Rattle.nego_laws.specs.Tree.{Tree, Laws, Solves}
use Rattle.nego_node.specs.Truth.{NothingServes}
use Rattle.nego_node.specs.Machine.{Slot, State, half, part_of, asked_in, generation_of, is_proposal}
use Rattle.nego_node.specs.Lawful.{task_of}
use Rattle.nego_node.specs.Sound.{Keeps, IsSound, SlotIsSound, IsTrueAnswer}
use Rattle.nego_node.specs.Moves.{seeks, next_move}
use Rattle.nego_node.specs.Board.{BoardNode, node_named, first_task, said_by, said_at, MayAct}
use Rattle.nego_node.specs.BoardSound.{IsInStep, IsOfBoard, IsBoard}
use Rattle.nego_node.specs.declared.tasks.Task.{Task}
use Rattle.nego_node.specs.declared.tasks.Side.{Side}
use Rattle.nego_node.specs.declared.tasks.Side.TheVariants.{Left, Right}
use Rattle.nego_node.specs.declared.answers.Answer.{Answer}
use Rattle.nego_node.specs.declared.answers.Answer.TheVariants.{Proposal, Exhausted}
use Rattle.nego_node.specs.declared.acts.Act.{Act}
use Rattle.nego_node.specs.declared.acts.Act.TheVariants.{Receive, Post, Make}
use Rattle.nego_node.proofs.Sides.{none-some, half-sound, sound-for}
use Rattle.nego_node.proofs.StateTests.{seeks-true, true-seeks}
use Rattle.nego_node.proofs.Waiting.{next-lawful}
use Rattle.nego_node.proofs.Awaiting.{Awaits, waits-or-not, waits-awaits, asked-split}
use Rattle.nego_node.proofs.Boards.{said-some, asked-part}

module _ {O : Type 0} (tree : O → Tree O) (t : Tree O) (laws : Laws t (λ s. tree s ≡ t)) (round : ℕ) (ns : List (BoardNode O)) (board : IsBoard tree t round ns) where
  lower : (b : ℕ) (side : Side) → t.parted b ≡ true → t.height (part_of b side) < t.height b
  lower b Left p = laws.left_is_lower b p
  lower b Right p = laws.right_is_lower b p

  -- an act that is lawful at some node
  abbrev pub SomeAct : Type 0
  SomeAct = (b : ℕ) × (n : BoardNode O) × (act : Act) × (node_named ns b ≡ Some n) × MayAct t round ns b n.state act

  -- a part that holds what it is asked has an answer to post, or is itself open
  answered-or-not : (b : ℕ) (side : Side) (n part : BoardNode O) (k : Slot O) → (seeks part.state ≡ true → SomeAct) → node_named ns b ≡ Some n → node_named ns (part_of b side) ≡ Some part → part.state.held ≡ Some k.task → (half n.state side).slot ≡ Some k → k.answer ≡ None → (a : Option (Answer O)) → part.state.answer ≡ a → SomeAct
  answered-or-not b side n part k below is found held slot none None e = below (true-seeks part.state k.task (record { held = held; unanswered = e }))
  answered-or-not b side n part k below is found held slot none (Some a) e =
      let known : IsOfBoard tree t round (part_of b side) part = board.nodes (part_of b side) part found in
      let sound : IsSound tree t part.state k.task = sound-for tree t part.state k.task known.node.keeps held in
      (b, n, Post side, is, (a, ap (λ (o : Option (BoardNode O)). said_by o) found ∙ e, record { slot = k; is_slot = slot; is_same = sym (sound.answer a e).0; unanswered = none }))

  -- a node with an open task can go on, or what it waits for can
  goes : (h b : ℕ) (n : BoardNode O) → t.height b < h → node_named ns b ≡ Some n → seeks n.state ≡ true → SomeAct
  goes zero b n l is seek = absurd (omega arith)
  goes (suc h) b n l is seek =
      let known : IsOfBoard tree t round b n = board.nodes b n is in
      let w = seeks-true n.state seek in
      let sound : IsSound tree t n.state w.0 = sound-for tree t n.state w.0 known.node.keeps w.1.held in
      elim (waits-or-not (next_move t true n.state)) [
        | inr moves ↦ (b, n, Make (next_move t true n.state), is, next-lawful tree t laws n.state known.node.keeps true moves)
        | inl waits ↦
            let awaits : Awaits n.state = waits-awaits tree t n.state w.0 sound true seek waits in
            let side : Side = awaits.side in
            let k : Slot O = awaits.slot in
            let ok : SlotIsSound tree t n.state.round n.state.name n.state.trial w.0 side (half n.state side) k = (half-sound tree t n.state w.0 sound side).slots k awaits.is_slot in
            let split : n.state.has_split ≡ true = asked-split tree t n.state w.0 sound side k awaits.is_slot in
            let found = board.parts b side n is split in
            let part : BoardNode O = found.0 in
            let step : IsInStep (half n.state side) part.state = board.in_step b side n part is found.1 in
            let of_part : IsOfBoard tree t round (part_of b side) part = board.nodes (part_of b side) part found.1 in
            let name : n.state.name ≡ b = known.node.is_named in
            elim (eq-or-lt_of_le step.at_most) [
              | inr older ↦ (
                part_of b side,
                part,
                Receive,
                found.1,
                (
                  k.task,
                  asked-part t round ns b side n known.positive is ∙ ap (λ (o : Option (Slot O)). asked_in o) awaits.is_slot,
                  record {
                    round = ok.of_round ∙ (known.of_round ∙ sym of_part.of_round);
                    node = ok.node ∙ (ap (λ (y : ℕ). part_of y side) name ∙ sym of_part.node.is_named);
                    is_newer = subst (λ (y : ℕ). generation_of part.state.held < y) (sym ok.generation) older;
                  },
                ),
              )
              | inl agree ↦
                  let held : part.state.held ≡ Some k.task = step.same k awaits.is_slot agree in
                  answered-or-not b side n part k (λ is_open. goes h (part_of b side) part (let p : t.parted n.state.name ≡ true = sound.split split in
                  let l2 : t.height (part_of b side) < t.height b = lower b side (subst (λ (y : ℕ). t.parted y ≡ true) name p) in omega arith) found.1 is_open) is found.1 held awaits.is_slot awaits.unanswered part.state.answer refl
            ]
      ]

  -- no board is stuck whose root has an open task
  pub never-stuck : (n : BoardNode O) (task : Task O) → node_named ns 1 ≡ Some n → n.state.held ≡ Some task → n.state.answer ≡ None → SomeAct
  never-stuck n task is held none =
      goes (suc (t.height 1)) 1 n (omega arith) is (true-seeks n.state task (record { held = held; unanswered = none }))

  -- the root's answer is to the round's task, and true
  root-answer : (a : Answer O) → said_at ns 1 ≡ Some a → (task_of a ≡ first_task t round) × IsTrueAnswer tree t a
  root-answer a e =
      let w = said-some (node_named ns 1) a e in by-keeps w.0 w.1 w.2 (board.nodes 1 w.0 w.1).node.keeps
    where
      by-keeps : (n : BoardNode O) → node_named ns 1 ≡ Some n → n.state.answer ≡ Some a → Keeps tree t n.state → (task_of a ≡ first_task t round) × IsTrueAnswer tree t a
      by-keeps n is said (inl first) = absurd (none-some (ap (λ (x : State O). x.answer) first) said)
      by-keeps n is said (inr w) = let q = w.1.answer a said in (q.0 ∙ board.first n w.0 is w.1.held, q.1)

  decides-of : (a : Answer O) → task_of a ≡ first_task t round → IsTrueAnswer tree t a → (is_proposal (Some a) ≡ true) ↔ ((s : O) × (tree s ≡ t) × Solves t s 1)
  decides-of (Proposal p) same truth =
      (λ e. (p.offer, truth.1.belongs, subst (λ (b : ℕ). Solves t p.offer b) (ap (λ (x : Task O). x.node) same) truth.1.solves), λ w. refl)
  decides-of (Exhausted task) same truth = (
    λ e. absurd (let k : false ≡ true = e in cc),
    λ w.
        let nothing : NothingServes tree t (first_task t round) = subst (λ (x : Task O). NothingServes tree t x) same truth.1 in
        let k : false ≡ true = nothing.is_banned w.0 w.1 (laws.free_is_least w.0 w.1) w.2 in
        absurd cc,
  )

  -- the root's answer is a proposal exactly where some offer solves the root
  pub verdict : (a : Answer O) → said_at ns 1 ≡ Some a → (is_proposal (Some a) ≡ true) ↔ ((s : O) × (tree s ≡ t) × Solves t s 1)
  verdict a e = let w = root-answer a e in decides-of a w.0 w.1

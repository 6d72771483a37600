use Rattle.std.proofs.Common.{◌≡◌, ◌∙◌, ℕ, ◌<◌, ◌≤◌, Bool, true, false, nat_eq, inl, inr, Option, Some, None, List, [], sym, ap, refl, subst, arith, if◌then◌else◌}
use Rattle.std.proofs.lemmas.Bool.{ne_eqb, eq-eqb, cases_eq}
use Rattle.std.proofs.lemmas.List.Elements.{All-nil}
use Rattle.nego_laws.specs.Tree.{Tree, Laws, left_of, right_of}
use Rattle.nego_node.specs.Machine.{Slot, State, half, part_of, after, beginning, asked_in, generation_of}
use Rattle.nego_node.specs.Lawful.{Lawful, MaySplit}
use Rattle.nego_node.specs.Sound.{Keeps, Belongs, IsTrueAnswer, IsTrueEvent}
use Rattle.nego_node.specs.Board.{BoardNode, node_named, parent_of, side_within, first_task, slot_task, asked_at, said_by, said_at, Comes, opened, with_event, changed, opens, done, first_board, Happens}
use Rattle.nego_node.specs.BoardSound.{IsInStep, AreDistinct, IsOfBoard, IsBoard}
use Rattle.nego_node.specs.declared.tasks.Task.{Task}
use Rattle.nego_node.specs.declared.tasks.Side.{Side}
use Rattle.nego_node.specs.declared.tasks.Side.TheVariants.{Left, Right}
use Rattle.nego_node.specs.declared.answers.Answer.{Answer}
use Rattle.nego_node.specs.declared.events.Event.{Event}
use Rattle.nego_node.specs.declared.events.Event.TheVariants.{Received, Tried, Split, Asked, Posted, Adopted, Agreed, Forbidden, Refused, Exhausted}
use Rattle.nego_node.proofs.Sides.{none-some, same-some, half-sound}
use Rattle.nego_node.proofs.Conditions.{filled-slot, asked-mine, none-at-first}
use Rattle.nego_node.proofs.Kept.{after-round}
use Rattle.nego_node.proofs.Runs.{node-after}
use Rattle.nego_node.proofs.BoardNames.{not-itself, part-above, part-not-one, same-part, parent-part, within-part}
use Rattle.nego_node.proofs.BoardLookups.{From, is_here, was_there, is_new, further, opened-by, comes-from, done-here, done-else, done-there, done-part, changed-else, changed-distinct, distinct-append, found-in}
use Rattle.nego_node.proofs.BoardParts.{parent-in-step, held-after, split-after, split-stays}

-- what the lookups of a message say
module _ {O : Type 0} where
  pub slot-task-some : (o : Option (BoardNode O)) (side : Side) (task : Task O) → slot_task o side ≡ Some task → (m : BoardNode O) × (o ≡ Some m) × (asked_in (half m.state side).slot ≡ Some task)
  slot-task-some None side task e = absurd (none-some refl e)
  slot-task-some (Some m) side task e = (m, refl, e)

  pub said-some : (o : Option (BoardNode O)) (a : Answer O) → said_by o ≡ Some a → (m : BoardNode O) × (o ≡ Some m) × (m.state.answer ≡ Some a)
  said-some None a e = absurd (none-some refl e)
  said-some (Some m) a e = (m, refl, e)

  -- a part is asked what stands in its parent's slot
  pub asked-part : (t : Tree O) (round : ℕ) (ns : List (BoardNode O)) (b : ℕ) (side : Side) (n : BoardNode O) → 1 ≤ b → node_named ns b ≡ Some n → asked_at t round ns (part_of b side) ≡ asked_in (half n.state side).slot
  asked-part t round ns b side n le is =
      let x : ℕ = part_of b side in
      let no_root : nat_eq x 1 ≡ false = ne_eqb x 1 (part-not-one b side le) in
      ap (λ (c : Bool). if c then Some (first_task t round) else slot_task (node_named ns (parent_of x)) (side_within x)) no_root
      ∙ (ap (λ (y : ℕ). slot_task (node_named ns y) (side_within x)) (parent-part b side)
      ∙ (ap (λ (y : Side). slot_task (node_named ns b) y) (within-part b side) ∙ ap (λ (o : Option (BoardNode O)). slot_task o side) is))

  pub asked-else : (t : Tree O) (round : ℕ) (ns : List (BoardNode O)) (b : ℕ) → (b ≡ 1 → ⊥) → asked_at t round ns b ≡ slot_task (node_named ns (parent_of b)) (side_within b)
  asked-else t round ns b ne =
      ap (λ (c : Bool). if c then Some (first_task t round) else slot_task (node_named ns (parent_of b)) (side_within b)) (ne_eqb b 1 ne)

  pub asked-root : (t : Tree O) (round : ℕ) (ns : List (BoardNode O)) (b : ℕ) → b ≡ 1 → asked_at t round ns b ≡ Some (first_task t round)
  asked-root t round ns b e =
      ap (λ (c : Bool). if c then Some (first_task t round) else slot_task (node_named ns (parent_of b)) (side_within b)) (eq-eqb b 1 e)

module _ {O : Type 0} (tree : O → Tree O) (t : Tree O) (laws : Laws t (λ s. tree s ≡ t)) (round : ℕ) where
  -- a node that has received nothing is sound
  pub opened-node : (b : ℕ) → 1 ≤ b → IsOfBoard tree t round b (opened round b)
  opened-node b le =
      record {
        positive = le;
        of_round = refl;
        node = record { is_named = refl; runs = tt; replays = refl; keeps = inl refl; asked_left = All-nil _; asked_right = All-nil _ };
      }

  -- a half of a node has a generation of 1 at least
  generation-positive : (s : State O) (side : Side) → Keeps tree t s → 1 ≤ (half s side).generation
  generation-positive s side (inl e) = subst (λ (x : State O). 1 ≤ (half x side).generation) (sym e) (at-first side)
    where
      at-first : (side : Side) → 1 ≤ (half (beginning {O = O} s.round s.name) side).generation
      at-first Left = omega arith
      at-first Right = omega arith
  generation-positive s side (inr w) = (half-sound tree t s w.0 w.1 side).generation

  slot-generation : (s : State O) (side : Side) (k : Slot O) → Keeps tree t s → (half s side).slot ≡ Some k → k.task.generation ≡ (half s side).generation
  slot-generation s side k (inl b) e = absurd (none-some (ap (λ (x : State O). (half x side).slot) b ∙ none-at-first s.round s.name side) e)
  slot-generation s side k (inr w) e = ((half-sound tree t s w.0 w.1 side).slots k e).generation

  module _ (ns : List (BoardNode O)) (board : IsBoard tree t round ns) where
    pub keeps-at : (b : ℕ) (n : BoardNode O) → node_named ns b ≡ Some n → Keeps tree t n.state
    keeps-at b n is = (board.nodes b n is).node.keeps

    -- what comes with a message is true
    pub asked-true : (b : ℕ) (task : Task O) → asked_at t round ns b ≡ Some task → Belongs tree t task
    asked-true b task e =
        elim (cases_eq b 1) [
          | inl root ↦
              subst (λ (x : Task O). Belongs tree t x) (same-some (asked-root t round ns b root) e)
              (record { given = laws.free_belongs; ban = All-nil _ })
          | inr part ↦
              let w = slot-task-some (node_named ns (parent_of b)) (side_within b) task (sym (asked-else t round ns b part) ∙ e) in
              asked-mine tree t w.0.state (side_within b) task (keeps-at (parent_of b) w.0 w.1) w.2
        ]

    pub said-true : (b : ℕ) (a : Answer O) → said_at ns b ≡ Some a → IsTrueAnswer tree t a
    said-true b a e = let w = said-some (node_named ns b) a e in by-keeps w.0.state w.2 (keeps-at b w.0 w.1)
      where
        by-keeps : (s : State O) → s.answer ≡ Some a → Keeps tree t s → IsTrueAnswer tree t a
        by-keeps s is (inl first) = absurd (none-some (ap (λ (x : State O). x.answer) first) is)
        by-keeps s is (inr w) = (w.1.answer a is).1

    pub true-event : (b : ℕ) (e : Event O) → Comes t round ns b e → IsTrueEvent tree t e
    true-event b (Received task) comes = asked-true b task comes
    true-event b (Tried item outcome) comes = tt
    true-event b Split comes = tt
    true-event b (Asked side task) comes = tt
    true-event b (Posted side a) comes = said-true (part_of b side) a comes
    true-event b (Adopted side g x) comes = tt
    true-event b (Agreed side g x) comes = tt
    true-event b (Forbidden side g x) comes = tt
    true-event b (Refused side g) comes = tt
    true-event b Exhausted comes = tt

    -- one event
    module _ (b : ℕ) (e : Event O) (n : BoardNode O) (is : node_named ns b ≡ Some n) (comes : Comes t round ns b e) (lawful : Lawful tree t n.state e) where
      abbrev ns' : List (BoardNode O)
      ns' = done t round ns b e

      abbrev s' : State O
      s' = after t n.state e

      positive : 1 ≤ b
      positive = (board.nodes b n is).positive

      fresh-part : (d : Event O) → d ≡ e → d ≡ Split → n.state.has_split ≡ false
      fresh-part d same split = may-split (subst (λ (x : Event O). Lawful tree t n.state x) (sym same ∙ split) lawful)
        where
          may-split : MaySplit t n.state → n.state.has_split ≡ false
          may-split may = may.not_yet

      -- the parts that Split opens are not there before
      no-part : (side : Side) (m : BoardNode O) → e ≡ Split → node_named ns (part_of b side) ≡ Some m → ⊥
      no-part side m split found =
          let w = board.parents b side m positive found in
          let same : w.0 ≡ n = same-some w.1 is in
          let k : n.state.has_split ≡ true = subst (λ (x : BoardNode O). x.state.has_split ≡ true) same w.2 in
          let j : false ≡ true = sym (fresh-part e refl split) ∙ k in
          cc

      nodes-after : (x : ℕ) (m : BoardNode O) → From t e round ns b x m → IsOfBoard tree t round x m
      nodes-after x m (is_here k at found same) =
          let known = board.nodes b k found in
          subst (λ (y : BoardNode O). IsOfBoard tree t round x y) (sym same)
          (subst (λ (y : ℕ). IsOfBoard tree t round y (with_event t e k)) (sym at)
          (record {
            positive = known.positive;
            of_round = after-round t k.state e ∙ known.of_round;
            node = node-after tree t laws b k.state k.history e known.node (subst (λ (y : BoardNode O). Lawful tree t y.state e) (same-some is found) lawful) (true-event b e comes);
          }))
      nodes-after x m (was_there ne found) = board.nodes x m found
      nodes-after x m (is_new side split at none ne same) =
          subst (λ (y : BoardNode O). IsOfBoard tree t round x y) (sym same)
          (opened-node x (subst (λ (y : ℕ). 1 ≤ y) (sym at) (let l : b < part_of b side = part-above b side positive in let p : 1 ≤ b = positive in omega arith)))

      first-after : (m : BoardNode O) (task : Task O) → From t e round ns b 1 m → m.state.held ≡ Some task → task ≡ first_task t round
      first-after m task (is_here k at found same) held =
          let h : (after t k.state e).held ≡ Some task = subst (λ (y : BoardNode O). y.state.held ≡ Some task) same held in
          elim (held-after t k.state e) [
            | inl w ↦
                let asked : asked_at t round ns b ≡ Some w.0 = subst (λ (y : Event O). Comes t round ns b y) w.1 comes in
                same-some h w.2 ∙ sym (same-some (asked-root t round ns b (sym at)) asked)
            | inr stays ↦ board.first k task (ap (λ (y : ℕ). node_named ns y) at ∙ found) (sym stays ∙ h)
          ]
      first-after m task (was_there ne found) held = board.first m task found held
      first-after m task (is_new side split at none ne same) held = absurd (none-some (ap (λ (y : BoardNode O). y.state.held) same) held)

      parts-after : (x : ℕ) (side : Side) (m : BoardNode O) → From t e round ns b x m → m.state.has_split ≡ true → (part : BoardNode O) × (node_named ns' (part_of x side) ≡ Some part)
      parts-after x side m (is_here k at found same) split =
          let h : (after t k.state e).has_split ≡ true = subst (λ (y : BoardNode O). y.state.has_split ≡ true) same split in
          subst (λ (y : ℕ). (part : BoardNode O) × (node_named ns' (part_of y side) ≡ Some part)) (sym at)
          (elim (split-after t k.state e) [
            | inl now ↦ done-part t e round ns b n is side now
            | inr stays ↦ let w = board.parts b side k found (sym stays ∙ h) in done-there t e round ns b n is (part_of b side) w.0 w.1
          ])
      parts-after x side m (was_there ne found) split =
          let w = board.parts x side m found split in done-there t e round ns b n is (part_of x side) w.0 w.1
      parts-after x side m (is_new a now at none ne same) split =
          absurd (let k : false ≡ true = sym (ap (λ (y : BoardNode O). y.state.has_split) same) ∙ split in cc)

      -- a node that has split is there, and has split
      still-split : (x : ℕ) (m : BoardNode O) → node_named ns x ≡ Some m → m.state.has_split ≡ true → (k : BoardNode O) × (node_named ns' x ≡ Some k) × (k.state.has_split ≡ true)
      still-split x m found split =
          elim (cases_eq x b) [
            | inl same ↦
                let k : m ≡ n = same-some (ap (λ (y : ℕ). node_named ns y) (sym same) ∙ found) is in
                (with_event t e n, ap (λ (y : ℕ). node_named ns' y) same ∙ done-here t e round ns b n is, split-stays t n.state e (subst (λ (y : BoardNode O). y.state.has_split ≡ true) k split))
            | inr away ↦ (m, done-else t e round ns b n is x m away found, split)
          ]

      parents-after : (x : ℕ) (side : Side) (m : BoardNode O) → 1 ≤ x → From t e round ns b (part_of x side) m → (k : BoardNode O) × (node_named ns' x ≡ Some k) × (k.state.has_split ≡ true)
      parents-after x side m le (is_here k at found same) =
          let w = board.parents x side k le (ap (λ (y : ℕ). node_named ns y) at ∙ found) in still-split x w.0 w.1 w.2
      parents-after x side m le (was_there ne found) = let w = board.parents x side m le found in still-split x w.0 w.1 w.2
      parents-after x side m le (is_new a now at none ne same) =
          let up : x ≡ b = (same-part x b side a at).0 in
          (with_event t e n, ap (λ (y : ℕ). node_named ns' y) up ∙ done-here t e round ns b n is, ap (λ (y : Event O). (after t n.state y).has_split) now)

      -- a part that has the event stays in step
      part-in-step : (x : ℕ) (side : Side) (m k : BoardNode O) → 1 ≤ x → node_named ns x ≡ Some m → part_of x side ≡ b → node_named ns b ≡ Some k → IsInStep (half m.state side) (after t k.state e)
      part-in-step x side m k le up at found =
          let before : IsInStep (half m.state side) k.state = board.in_step x side m k up (ap (λ (y : ℕ). node_named ns y) at ∙ found) in
          elim (held-after t k.state e) [
            | inl w ↦
                let asked : asked_at t round ns (part_of x side) ≡ Some w.0 =
                subst (λ (y : ℕ). asked_at t round ns y ≡ Some w.0) (sym at) (subst (λ (y : Event O). Comes t round ns b y) w.1 comes)
                in
                let slot = filled-slot (half m.state side).slot w.0 (sym (asked-part t round ns x side m le up) ∙ asked) in
                let held : (after t k.state e).held ≡ Some slot.0.task = w.2 ∙ ap Some (sym slot.2) in
                let g : generation_of (after t k.state e).held ≡ (half m.state side).generation =
                ap (λ (o : Option (Task O)). generation_of o) held ∙ slot-generation m.state side slot.0 (keeps-at x m up) slot.1
                in
                record {
                  at_most = omega arith;
                  less = λ none. absurd (none-some none slot.1);
                  same = λ j is_slot agree. held ∙ ap (λ (y : Slot O). Some y.task) (same-some slot.1 is_slot);
                }
            | inr stays ↦
                let g : generation_of (after t k.state e).held ≡ generation_of k.state.held = ap (λ (o : Option (Task O)). generation_of o) stays in
                record {
                  at_most = subst (λ (y : ℕ). y ≤ (half m.state side).generation) (sym g) before.at_most;
                  less = λ none. subst (λ (y : ℕ). y < (half m.state side).generation) (sym g) (before.less none);
                  same = λ j is_slot agree. stays ∙ before.same j is_slot (sym g ∙ agree);
                }
          ]

      -- a part that was just opened is in step
      opened-in-step : (x : ℕ) (side : Side) (s : State O) (name : ℕ) → Keeps tree t s → IsInStep (half s side) (opened round name).state
      opened-in-step x side s name keeps =
          let least : 1 ≤ (half s side).generation = generation-positive s side keeps in
          record { at_most = omega arith; less = λ none. omega arith; same = λ j is_slot agree. absurd (omega arith) }

      in-step-after : (x : ℕ) (side : Side) (m part : BoardNode O) → 1 ≤ x → node_named ns' x ≡ Some m → From t e round ns b x m → From t e round ns b (part_of x side) part → IsInStep (half m.state side) part.state
      in-step-after x side m part le there (is_here k at found same) (is_here j on_b found' same') =
          absurd (not-itself x side le (on_b ∙ sym at))
      in-step-after x side m part le there (is_here k at found same) (was_there ne found') =
          let up : node_named ns x ≡ Some k = ap (λ (y : ℕ). node_named ns y) at ∙ found in
          subst (λ (y : BoardNode O). IsInStep (half y.state side) part.state) (sym same)
          (parent-in-step t tree k.state side part.state (board.in_step x side k part up found') e (subst (λ (y : BoardNode O). Lawful tree t y.state e) (same-some is found) lawful))
      in-step-after x side m part le there (is_here k at found same) (is_new a now on_b none ne same') =
          subst (λ (y : BoardNode O). IsInStep (half m.state side) y.state) (sym same')
          (opened-in-step x side m.state (part_of x side) (nodes-after x m (is_here k at found same)).node.keeps)
      in-step-after x side m part le there (was_there ne found) (is_here j on_b found' same') =
          subst (λ (y : BoardNode O). IsInStep (half m.state side) y.state) (sym same') (part-in-step x side m j le found on_b found')
      in-step-after x side m part le there (was_there ne found) (was_there ne' found') = board.in_step x side m part found found'
      in-step-after x side m part le there (was_there ne found) (is_new a now on_b none ne' same') = absurd (ne (same-part x b side a on_b).0)
      in-step-after x side m part le there (is_new a now at none ne same) (is_here j on_b found' same') =
          absurd (none-some none (board.parents x side j le (ap (λ (y : ℕ). node_named ns y) on_b ∙ found')).1)
      in-step-after x side m part le there (is_new a now at none ne same) (was_there ne' found') =
          absurd (none-some none (board.parents x side part le found').1)
      in-step-after x side m part le there (is_new a now at none ne same) (is_new c now' on_b none' ne' same') = absurd (ne (same-part x b side c on_b).0)

      opens-distinct : (d : Event O) → AreDistinct (opens round b d)
      opens-distinct (Received task) = tt
      opens-distinct (Tried item outcome) = tt
      opens-distinct Split =
          (further (opened round (right_of b)) [] (left_of b) (λ h. let k : Right ≡ Left = (same-part b b Right Left h).1 in cc), (refl, tt))
      opens-distinct (Asked side task) = tt
      opens-distinct (Posted side a) = tt
      opens-distinct (Adopted side g x) = tt
      opens-distinct (Agreed side g x) = tt
      opens-distinct (Forbidden side g x) = tt
      opens-distinct (Refused side g) = tt
      opens-distinct Exhausted = tt

      distinct-after : AreDistinct ns'
      distinct-after =
          distinct-append (changed t ns b e) (opens round b e) (changed-distinct t e ns b board.distinct) (opens-distinct e)
          (λ x k m at on.
          let w = opened-by t e round e b x m on in
          let ne : x ≡ b → ⊥ = λ h. not-itself b w.0 positive (sym w.2 ∙ h) in
          no-part w.0 k w.1 (subst (λ (y : ℕ). node_named ns y ≡ Some k) w.2 (sym (changed-else t e ns b x ne) ∙ at)))

      -- every event of a board keeps what makes a board
      pub board-after : IsBoard tree t round ns'
      board-after =
          record {
            root = done-there t e round ns b n is 1 board.root.0 board.root.1;
            distinct = distinct-after;
            nodes = λ x m at. nodes-after x m (comes-from t e round ns b n is x m at);
            first = λ m task at held. first-after m task (comes-from t e round ns b n is 1 m at) held;
            parts = λ x side m at split. parts-after x side m (comes-from t e round ns b n is x m at) split;
            parents = λ x side m le at. parents-after x side m le (comes-from t e round ns b n is (part_of x side) m at);
            in_step = λ x side m part up at.
                let from = comes-from t e round ns b n is x m up in
                in-step-after x side m part (nodes-after x m from).positive up from (comes-from t e round ns b n is (part_of x side) part at);
          }

  -- the board with the root alone is one
  pub first-is-board : IsBoard tree t round (first_board round)
  first-is-board =
      record {
        root = (opened round 1, refl);
        distinct = (refl, tt);
        nodes = λ b n is. let w = only b n is in subst (λ (y : ℕ). IsOfBoard tree t round y n) (sym w.0) (subst (λ (y : BoardNode O). IsOfBoard tree t round 1 y) w.1 (opened-node 1 (omega arith)));
        first = λ n task is held. absurd (none-some (ap (λ (y : BoardNode O). y.state.held) (sym (only 1 n is).1)) held);
        parts = λ b side n is split. absurd (let k : false ≡ true = ap (λ (y : BoardNode O). y.state.has_split) (only b n is).1 ∙ split in cc);
        parents = λ b side m le is. absurd (part-not-one b side le (only (part_of b side) m is).0);
        in_step = λ b side n m up is. absurd (part-not-one b side (subst (λ (y : ℕ). 1 ≤ y) (sym (only b n up).0) (omega arith)) (only (part_of b side) m is).0);
      }
    where
      only : (b : ℕ) (n : BoardNode O) → node_named (first_board round) b ≡ Some n → (b ≡ 1) × (opened round 1 ≡ n)
      only b n is =
          elim (found-in (opened round 1) [] b n is) [
            | inl at ↦ (sym at.0, at.1)
            | inr on ↦ absurd (none-some refl on.1)
          ]

  pub happens-board : (ns : List (BoardNode O)) (b : ℕ) (e : Event O) (later : List (BoardNode O)) → IsBoard tree t round ns → Happens tree t round ns b e later → IsBoard tree t round later
  happens-board ns b e later board does =
      subst (λ (y : List (BoardNode O)). IsBoard tree t round y) (sym does.becomes)
      (board-after ns board b e does.node does.is_node does.comes does.lawful)

use Rattle.std.proofs.Common.{◌≡◌, ℕ, ◌+◌, ◌<◌, Bool, true, false, inl, inr, Option, Some, None, List, [], ◌∷◌, ◌++◌, All, refl, ap, sym, ◌∙◌, subst, arith, if◌then◌else◌}
use Rattle.std.proofs.lemmas.List.{append-nil, append_assoc}
use Rattle.std.proofs.lemmas.List.Elements.{All-push}
use Rattle.nego_laws.specs.Tree.{Tree}
use Rattle.nego_node.specs.Machine.{Slot, Half, Trial, State, half, other, with_halves, after, resumed, fresh, goes_on, proposing, giving_up, emptied_of, emptied, filled, posted_in, kept_for_trial, forbidding, has_proposal, asked_in, task_for}
use Rattle.nego_node.specs.Lawful.{Lawful, MayAsk}
use Rattle.nego_node.specs.Sound.{Keeps}
use Rattle.nego_node.specs.AskedOrder.{asked_by, asked_of, AskedInOrder}
use Rattle.nego_node.specs.declared.tasks.Task.{Task}
use Rattle.nego_node.specs.declared.tasks.Side.{Side}
use Rattle.nego_node.specs.declared.tasks.Side.TheVariants.{Left, Right}
use Rattle.nego_node.specs.declared.answers.Answer.{Answer}
use Rattle.nego_node.specs.declared.events.Outcome.TheVariants as outcome
use Rattle.nego_node.specs.declared.events.Event.{Event}
use Rattle.nego_node.specs.declared.events.Event.TheVariants.{Received, Tried, Split, Asked, Posted, Adopted, Agreed, Forbidden, Refused, Exhausted}
use Rattle.nego_node.proofs.Sides.{none-some, same-some, all-weaken, half-sound}
use Rattle.nego_node.proofs.Conditions.{none-at-first}

module _ {O : Type 0} where
  asked-append : (side : Side) (h : List (Event O)) (e : Event O) → asked_of side (h ++ e ∷ []) ≡ asked_of side h ++ asked_by side e
  asked-append side [] e = append-nil (asked_by side e)
  asked-append side (d ∷ h) e =
      ap (λ (y : List (Task O)). asked_by side d ++ y) (asked-append side h e) ∙ sym (append_assoc (asked_by side d) (asked_of side h) (asked_by side e))

  -- a slot that keeps its task, is emptied, or is filled
  stays : (o o' : Option (Slot O)) (g : ℕ) (xs : List (Task O)) → asked_in o' ≡ asked_in o → AskedInOrder o g xs → AskedInOrder o' g xs
  stays None None g xs e a = a
  stays None (Some k) g xs e a = absurd (none-some e refl)
  stays (Some k) None g xs e a = absurd (none-some (sym e) refl)
  stays (Some k) (Some j) g xs e a =
      let same : k.task ≡ j.task = sym (same-some refl e) in
      (a.0, a.1 ∙ ap (λ (x : Task O). a.0 ++ x ∷ []) same, subst (λ (x : Task O). All (λ task. task.generation < x.generation) a.0) same a.2)

  empties-of : (h : Half O) (o : Option (Slot O)) (xs : List (Task O)) → h.slot ≡ o → ((k : Slot O) → o ≡ Some k → k.task.generation ≡ h.generation) → AskedInOrder o h.generation xs → AskedInOrder (emptied_of h o).slot (emptied_of h o).generation xs
  empties-of h None xs e own a = subst (λ (o : Option (Slot O)). AskedInOrder o h.generation xs) (sym e) a
  empties-of h (Some k) xs e own a =
      let at : k.task.generation ≡ h.generation = own k refl in
      subst (λ (ys : List (Task O)). All (λ task. task.generation < h.generation + 1) ys) (sym a.1)
      (All-push (λ task. task.generation < h.generation + 1) a.0 k.task
      (all-weaken (λ task. task.generation < k.task.generation) (λ task. task.generation < h.generation + 1) (λ x l. omega (arith, l, at)) a.0 a.2)
      (omega (arith, at)))

  pub posted-task : (h : Half O) (o : Option (Slot O)) (a : Answer O) → h.slot ≡ o → asked_in (posted_in h o a).slot ≡ asked_in o
  posted-task h None a e = ap asked_in e
  posted-task h (Some k) a e = refl

  pub posted-generation : (h : Half O) (o : Option (Slot O)) (a : Answer O) → (posted_in h o a).generation ≡ h.generation
  posted-generation h None a = refl
  posted-generation h (Some k) a = refl

  -- what holds of both halves
  pub at-halves : (P : Half O → Side → Type 0) (s : State O) (side : Side) (h g : Half O) → P h side → P g (other side) → (y : Side) → P (half (with_halves s side h g) y) y
  at-halves P s Left h g a b Left = a
  at-halves P s Left h g a b Right = b
  at-halves P s Right h g a b Left = b
  at-halves P s Right h g a b Right = a

  pub proposing-half : (s : State O) (h : Option (Task O)) (x : O) (y : Side) → half (proposing s h x) y ≡ half s y
  proposing-half s None x y = refl
  proposing-half s (Some task) x y = refl

  pub giving_up-half : (s : State O) (h : Option (Task O)) (y : Side) → half (giving_up s h) y ≡ half s y
  giving_up-half s None y = refl
  giving_up-half s (Some task) y = refl

  own-asked : (side : Side) (task : Task O) → asked_by side (Asked side task) ≡ task ∷ []
  own-asked Left task = refl
  own-asked Right task = refl

  other-asked : (side : Side) (task : Task O) → asked_by (other side) (Asked side task) ≡ []
  other-asked Left task = refl
  other-asked Right task = refl

  pub own-generation : (s : State O) (held : Task O) (trial : Option (Trial O)) (side : Side) → (task_for s held trial side).generation ≡ (half s side).generation
  own-generation s held None side = refl
  own-generation s held (Some x) side = refl

abbrev pub IsInOrder : {O : Type 0} → List (Event O) → Half O → Side → Type 0
IsInOrder history h side = AskedInOrder h.slot h.generation (asked_of side history)

module _ {O : Type 0} (tree : O → Tree O) (t : Tree O) (s : State O) (keeps : Keeps tree t s) (h : List (Event O)) (order : (side : Side) → IsInOrder h (half s side) side) where
  -- the task in a slot has the generation of its side
  slot-generation : (side : Side) (k : Slot O) → (half s side).slot ≡ Some k → k.task.generation ≡ (half s side).generation
  slot-generation side k e =
      elim keeps [
        | inl b ↦ absurd (none-some (ap (λ (x : State O). (half x side).slot) b ∙ none-at-first s.round s.name side) e)
        | inr w ↦ ((half-sound tree t s w.0 w.1 side).slots k e).generation
      ]

  emptied-order : (side : Side) → IsInOrder h (emptied (half s side)) side
  emptied-order side = empties-of (half s side) (half s side).slot (asked_of side h) refl (slot-generation side) (order side)

  kept-order : (side : Side) (b : Bool) → IsInOrder h (if b then half s side else emptied (half s side)) side
  kept-order side true = order side
  kept-order side false = emptied-order side

  posted-order : (side : Side) (a : Answer O) → IsInOrder h (posted_in (half s side) (half s side).slot a) side
  posted-order side a =
      subst (λ (g : ℕ). AskedInOrder (posted_in (half s side) (half s side).slot a).slot g (asked_of side h)) (sym (posted-generation (half s side) (half s side).slot a))
      (stays (half s side).slot (posted_in (half s side) (half s side).slot a).slot (half s side).generation (asked_of side h) (posted-task (half s side) (half s side).slot a refl) (order side))

  cleared-order : (task : Task O) (side : Side) → IsInOrder h (half (fresh s task) side) side
  cleared-order task Left = emptied-order Left
  cleared-order task Right = emptied-order Right

  received-order : (task : Task O) (b : Bool) (side : Side) → IsInOrder h (half (if b then resumed s task else fresh s task) side) side
  received-order task true side = order side
  received-order task false side = cleared-order task side

  -- an event by which nothing is asked
  quiet : (side : Side) (e : Event O) (g : Half O) → asked_by side e ≡ [] → IsInOrder h g side → IsInOrder (h ++ e ∷ []) g side
  quiet side e g none a =
      subst (λ (xs : List (Task O)). AskedInOrder g.slot g.generation xs)
      (sym (asked-append side h e ∙ (ap (λ (xs : List (Task O)). asked_of side h ++ xs) none ∙ append-nil (asked_of side h)))) a

  asked-order : (side : Side) (task : Task O) → MayAsk t s side task → IsInOrder (h ++ Asked side task ∷ []) (filled s side task) side
  asked-order side task may =
      let at : task.generation ≡ (half s side).generation = ap (λ (x : Task O). x.generation) may.is_for ∙ own-generation s may.task s.trial side in
      let before : All (λ x. x.generation < (half s side).generation) (asked_of side h) =
      subst (λ (o : Option (Slot O)). AskedInOrder o (half s side).generation (asked_of side h)) may.is_empty (order side)
      in
      (asked_of side h, asked-append side h (Asked side task) ∙ ap (λ (xs : List (Task O)). asked_of side h ++ xs) (own-asked side task), subst (λ (g : ℕ). All (λ x. x.generation < g) (asked_of side h)) (sym at) before)

  pub order-after : (e : Event O) → Lawful tree t s e → (side : Side) → IsInOrder (h ++ e ∷ []) (half (after t s e) side) side
  order-after (Received task) may side = quiet side (Received task) (half (after t s (Received task)) side) refl (received-order task (goes_on t s.held s.answer task) side)
  order-after (Tried item outcome.None) may side = quiet side (Tried item outcome.None) (half s side) refl (order side)
  order-after (Tried item (outcome.Banned x)) may side = quiet side (Tried item (outcome.Banned x)) (half s side) refl (order side)
  order-after (Tried item (outcome.Offer x)) may side =
      quiet side (Tried item (outcome.Offer x)) (half (after t s (Tried item (outcome.Offer x))) side) refl
      (subst (λ (g : Half O). IsInOrder h g side) (sym (proposing-half (record s { next = s.next + 1 }) s.held x side)) (order side))
  order-after Split may side = quiet side Split (half s side) refl (order side)
  order-after (Asked x task) may side =
      at-halves (IsInOrder (h ++ Asked x task ∷ [])) s x (filled s x task) (half s (other x)) (asked-order x task may)
      (quiet (other x) (Asked x task) (half s (other x)) (other-asked x task) (order (other x))) side
  order-after (Posted x a) may side =
      quiet side (Posted x a) (half (after t s (Posted x a)) side) refl
      (at-halves (IsInOrder h) s x (posted_in (half s x) (half s x).slot a) (half s (other x)) (posted-order x a) (order (other x)) side)
  order-after (Adopted x g offer) may side =
      quiet side (Adopted x g offer) (half (after t s (Adopted x g offer)) side) refl
      (at-halves (IsInOrder h) s x (half s x) (kept_for_trial (half s (other x))) (order x) (kept-order (other x) (has_proposal (half s (other x)).slot)) side)
  order-after (Agreed x g offer) may side =
      quiet side (Agreed x g offer) (half (after t s (Agreed x g offer)) side) refl
      (subst (λ (g : Half O). IsInOrder h g side) (sym (proposing-half s s.held offer side)) (order side))
  order-after (Forbidden x g offer) may side =
      quiet side (Forbidden x g offer) (half (after t s (Forbidden x g offer)) side) refl
      (at-halves (IsInOrder h) s x (forbidding (half s x) offer) (emptied (half s (other x))) (emptied-order x) (emptied-order (other x)) side)
  order-after (Refused x g) may side =
      quiet side (Refused x g) (half (after t s (Refused x g)) side) refl
      (at-halves (IsInOrder h) s x (emptied (half s x)) (half s (other x)) (emptied-order x) (order (other x)) side)
  order-after Exhausted may side =
      quiet side Exhausted (half (after t s Exhausted) side) refl
      (subst (λ (g : Half O). IsInOrder h g side) (sym (giving_up-half s s.held side)) (order side))

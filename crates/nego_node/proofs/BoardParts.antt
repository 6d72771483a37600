use Rattle.std.proofs.Common.{◌≡◌, ◌∙◌, ℕ, ◌+◌, ◌<◌, ◌≤◌, Bool, true, false, ◌⊎◌, inl, inr, Option, Some, None, sym, ap, refl, subst, arith, if◌then◌else◌}
use Rattle.nego_laws.specs.Tree.{Tree}
use Rattle.nego_node.specs.Machine.{Slot, Half, State, half, other, after, resumed, fresh, goes_on, proposing, giving_up, emptied_of, emptied, cleared, filled, posted_in, kept_for_trial, forbidding, has_proposal, asked_in, generation_of}
use Rattle.nego_node.specs.Lawful.{Lawful}
use Rattle.nego_node.specs.BoardSound.{IsInStep}
use Rattle.nego_node.specs.declared.tasks.Task.{Task}
use Rattle.nego_node.specs.declared.tasks.Side.{Side}
use Rattle.nego_node.specs.declared.tasks.Side.TheVariants.{Left, Right}
use Rattle.nego_node.specs.declared.events.Outcome.TheVariants as outcome
use Rattle.nego_node.specs.declared.events.Event.{Event}
use Rattle.nego_node.specs.declared.events.Event.TheVariants.{Received, Tried, Split, Asked, Posted, Adopted, Agreed, Forbidden, Refused, Exhausted}
use Rattle.nego_node.proofs.Sides.{none-some}
use Rattle.nego_node.proofs.Conditions.{filled-slot}
use Rattle.nego_node.proofs.Asked.{posted-task, posted-generation, at-halves, proposing-half, giving_up-half}

module _ {O : Type 0} where
  no-task : (o : Option (Slot O)) → asked_in o ≡ None → o ≡ None
  no-task None e = refl
  no-task (Some k) e = absurd (none-some e refl)

  -- a side whose slot keeps its task
  pub stays-in-step : (h h' : Half O) (part : State O) → h'.generation ≡ h.generation → asked_in h'.slot ≡ asked_in h.slot → IsInStep h part → IsInStep h' part
  stays-in-step h h' part same task step =
      record {
        at_most = subst (λ (g : ℕ). generation_of part.held ≤ g) (sym same) step.at_most;
        less = λ none. subst (λ (g : ℕ). generation_of part.held < g) (sym same) (step.less (no-task h.slot (sym task ∙ ap asked_in none)));
        same = λ k at agree.
            let w = filled-slot h.slot k.task (sym task ∙ ap asked_in at) in
            step.same w.0 w.1 (agree ∙ same) ∙ ap Some w.2;
      }

  -- a side whose slot is emptied
  emptied-of-in-step : (h : Half O) (o : Option (Slot O)) (part : State O) → h.slot ≡ o → IsInStep h part → IsInStep (emptied_of h o) part
  emptied-of-in-step h None part e step = step
  emptied-of-in-step h (Some k) part e step =
      let le : generation_of part.held ≤ h.generation = step.at_most in
      record { at_most = omega arith; less = λ none. omega arith; same = λ j at agree. absurd (none-some refl at) }

  pub emptied-in-step : (h : Half O) (part : State O) → IsInStep h part → IsInStep (emptied h) part
  emptied-in-step h part step = emptied-of-in-step h h.slot part refl step

  -- a side whose slot is filled
  filled-in-step : (s : State O) (side : Side) (task : Task O) (part : State O) → (half s side).slot ≡ None → IsInStep (half s side) part → IsInStep (filled s side task) part
  filled-in-step s side task part none step =
      let l : generation_of part.held < (half s side).generation = step.less none in
      record { at_most = step.at_most; less = λ e. absurd (none-some e refl); same = λ k at agree. absurd (let q : generation_of part.held ≡ (half s side).generation = agree in omega arith) }

  kept-in-step : (h : Half O) (part : State O) (b : Bool) → IsInStep h part → IsInStep (if b then h else emptied h) part
  kept-in-step h part true step = step
  kept-in-step h part false step = emptied-in-step h part step

-- an event at a node keeps its parts in step
module _ {O : Type 0} (t : Tree O) (tree : O → Tree O) (s : State O) (y : Side) (part : State O) (step : IsInStep (half s y) part) where
  -- of that side alone
  abbrev Steps : Half O → Side → Type 0
  Steps h z = z ≡ y → IsInStep h part

  own : (z : Side) → Steps (half s z) z
  own z e = subst (λ (x : Side). IsInStep (half s x) part) (sym e) step

  own-emptied : (z : Side) → Steps (emptied (half s z)) z
  own-emptied z e = emptied-in-step (half s z) part (own z e)

  received-in-step : (task : Task O) (b : Bool) (z : Side) → Steps (half (if b then resumed s task else fresh s task) z) z
  received-in-step task true Left e = own Left e
  received-in-step task true Right e = own Right e
  received-in-step task false Left e = stays-in-step (emptied s.left) (cleared s.left) part refl refl (own-emptied Left e)
  received-in-step task false Right e = stays-in-step (emptied s.right) (cleared s.right) part refl refl (own-emptied Right e)

  pub parent-in-step : (e : Event O) → Lawful tree t s e → IsInStep (half (after t s e) y) part
  parent-in-step (Received task) may = received-in-step task (goes_on t s.held s.answer task) y refl
  parent-in-step (Tried item outcome.None) may = step
  parent-in-step (Tried item (outcome.Banned x)) may = step
  parent-in-step (Tried item (outcome.Offer x)) may =
      subst (λ (h : Half O). IsInStep h part) (sym (proposing-half (record s { next = s.next + 1 }) s.held x y)) step
  parent-in-step Split may = step
  parent-in-step (Asked x task) may =
      at-halves Steps s x (filled s x task) (half s (other x)) (λ e. filled-in-step s x task part may.is_empty (own x e)) (own (other x)) y refl
  parent-in-step (Posted x a) may =
      at-halves Steps s x (posted_in (half s x) (half s x).slot a) (half s (other x))
      (λ e. stays-in-step (half s x) (posted_in (half s x) (half s x).slot a) part (posted-generation (half s x) (half s x).slot a) (posted-task (half s x) (half s x).slot a refl) (own x e))
      (own (other x)) y refl
  parent-in-step (Adopted x g offer) may =
      at-halves Steps s x (half s x) (kept_for_trial (half s (other x))) (own x) (λ e. kept-in-step (half s (other x)) part (has_proposal (half s (other x)).slot) (own (other x) e)) y refl
  parent-in-step (Agreed x g offer) may = subst (λ (h : Half O). IsInStep h part) (sym (proposing-half s s.held offer y)) step
  parent-in-step (Forbidden x g offer) may =
      at-halves Steps s x (forbidding (half s x) offer) (emptied (half s (other x)))
      (λ e. stays-in-step (emptied (half s x)) (forbidding (half s x) offer) part refl refl (own-emptied x e)) (own-emptied (other x)) y refl
  parent-in-step (Refused x g) may = at-halves Steps s x (emptied (half s x)) (half s (other x)) (own-emptied x) (own (other x)) y refl
  parent-in-step Exhausted may = subst (λ (h : Half O). IsInStep h part) (sym (giving_up-half s s.held y)) step

-- what an event leaves of a node's task, and of whether it has split
module _ {O : Type 0} (t : Tree O) where
  proposing-held : (s : State O) (h : Option (Task O)) (x : O) → (proposing s h x).held ≡ s.held
  proposing-held s None x = refl
  proposing-held s (Some task) x = refl

  giving_up-held : (s : State O) (h : Option (Task O)) → (giving_up s h).held ≡ s.held
  giving_up-held s None = refl
  giving_up-held s (Some task) = refl

  received-held : (s : State O) (task : Task O) (b : Bool) → (if b then resumed s task else fresh s task).held ≡ Some task
  received-held s task true = refl
  received-held s task false = refl

  abbrev pub TakesTask : State O → Event O → Type 0
  TakesTask s e = (task : Task O) × (e ≡ Received task) × ((after t s e).held ≡ Some task)

  pub held-after : (s : State O) (e : Event O) → TakesTask s e ⊎ ((after t s e).held ≡ s.held)
  held-after s (Received task) = inl (task, refl, received-held s task (goes_on t s.held s.answer task))
  held-after s (Tried item outcome.None) = inr refl
  held-after s (Tried item (outcome.Banned x)) = inr refl
  held-after s (Tried item (outcome.Offer x)) = inr (proposing-held (record s { next = s.next + 1 }) s.held x)
  held-after s Split = inr refl
  held-after s (Asked side task) = inr refl
  held-after s (Posted side a) = inr refl
  held-after s (Adopted side g x) = inr refl
  held-after s (Agreed side g x) = inr (proposing-held s s.held x)
  held-after s (Forbidden side g x) = inr refl
  held-after s (Refused side g) = inr refl
  held-after s Exhausted = inr (giving_up-held s s.held)

  proposing-split : (s : State O) (h : Option (Task O)) (x : O) → (proposing s h x).has_split ≡ s.has_split
  proposing-split s None x = refl
  proposing-split s (Some task) x = refl

  giving_up-split : (s : State O) (h : Option (Task O)) → (giving_up s h).has_split ≡ s.has_split
  giving_up-split s None = refl
  giving_up-split s (Some task) = refl

  received-split : (s : State O) (task : Task O) (b : Bool) → (if b then resumed s task else fresh s task).has_split ≡ s.has_split
  received-split s task true = refl
  received-split s task false = refl

  pub split-after : (s : State O) (e : Event O) → (e ≡ Split) ⊎ ((after t s e).has_split ≡ s.has_split)
  split-after s (Received task) = inr (received-split s task (goes_on t s.held s.answer task))
  split-after s (Tried item outcome.None) = inr refl
  split-after s (Tried item (outcome.Banned x)) = inr refl
  split-after s (Tried item (outcome.Offer x)) = inr (proposing-split (record s { next = s.next + 1 }) s.held x)
  split-after s Split = inl refl
  split-after s (Asked side task) = inr refl
  split-after s (Posted side a) = inr refl
  split-after s (Adopted side g x) = inr refl
  split-after s (Agreed side g x) = inr (proposing-split s s.held x)
  split-after s (Forbidden side g x) = inr refl
  split-after s (Refused side g) = inr refl
  split-after s Exhausted = inr (giving_up-split s s.held)

  -- a node that has split stays so
  pub split-stays : (s : State O) (e : Event O) → s.has_split ≡ true → (after t s e).has_split ≡ true
  split-stays s e h =
      elim (split-after s e) [
        | inl is ↦ ap (λ (x : Event O). (after t s x).has_split) is
        | inr same ↦ same ∙ h
      ]

use Rattle.std.proofs.Common.{◌≡◌, ◌∙◌, ℕ, ◌+◌, ◌<◌, ◌≤◌, Bool, true, false, ◌&&◌, ◌⊎◌, inl, inr, Option, Some, None, List, [], ◌∷◌, nat_eq, sym, ap, refl, subst, arith, if◌then◌else◌}
use Rattle.std.proofs.lemmas.Bool.{eqb-true, cases_Bool}
use Rattle.nego_laws.specs.Tree.{Tree}
use Rattle.nego_node.specs.Machine.{Slot, Half, Trial, State, half, other, with_halves, after, resumed, fresh, goes_on, proposing, giving_up, emptied_of, emptied, filled, posted_in, kept_for_trial, forbidding, has_proposal, beginning}
use Rattle.nego_node.specs.Lawful.{Lawful, IsRun}
use Rattle.nego_node.specs.Histories.{one_if, turns_down, times_turned_down}
use Rattle.nego_node.specs.Decisions.{is_same}
use Rattle.nego_node.specs.declared.tasks.Task.{Task}
use Rattle.nego_node.specs.declared.tasks.Side.{Side}
use Rattle.nego_node.specs.declared.tasks.Side.TheVariants.{Left, Right}
use Rattle.nego_node.specs.declared.answers.Answer.{Answer}
use Rattle.nego_node.specs.declared.events.Outcome.TheVariants as outcome
use Rattle.nego_node.specs.declared.events.Event.{Event}
use Rattle.nego_node.specs.declared.events.Event.TheVariants.{Received, Tried, Split, Asked, Posted, Adopted, Agreed, Forbidden, Refused, Exhausted}
use Rattle.nego_node.proofs.Entailing.{and-left, and-right}
use Rattle.nego_node.proofs.Sides.{none-some, same-some, half-own, half-other, emptied-generation}
use Rattle.nego_node.proofs.Deciding.{same-side}
use Rattle.nego_node.proofs.Asked.{at-halves, proposing-half, giving_up-half, posted-generation}

module _ {O : Type 0} where
  -- the slot on the side of a trial is filled
  abbrev pub HasTrialSlot : State O → Type 0
  HasTrialSlot s = (x : Trial O) → s.trial ≡ Some x → (k : Slot O) × ((half s x.side).slot ≡ Some k)

  abbrev IsFilled : Half O → Type 0
  IsFilled h = (k : Slot O) × (h.slot ≡ Some k)

  posted-filled : (h : Half O) (o : Option (Slot O)) (a : Answer O) → h.slot ≡ o → IsFilled h → IsFilled (posted_in h o a)
  posted-filled h None a e w = absurd (none-some e w.1)
  posted-filled h (Some k) a e w = (record k { answer = Some a }, refl)

  proposing-trial : (s : State O) (h : Option (Task O)) (x : O) → (proposing s h x).trial ≡ s.trial
  proposing-trial s None x = refl
  proposing-trial s (Some task) x = refl

  giving_up-trial : (s : State O) (h : Option (Task O)) → (giving_up s h).trial ≡ s.trial
  giving_up-trial s None = refl
  giving_up-trial s (Some task) = refl

  -- a state with the same trial and the same halves
  same-trial : (s s' : State O) → s'.trial ≡ s.trial → ((y : Side) → half s' y ≡ half s y) → HasTrialSlot s → HasTrialSlot s'
  same-trial s s' trial halves has x e =
      let w = has x (sym trial ∙ e) in (w.0, ap (λ (h : Half O). h.slot) (halves x.side) ∙ w.1)

  -- a filled slot that is emptied raises the generation
  filled-emptied-of : (h : Half O) (o : Option (Slot O)) → h.slot ≡ o → IsFilled h → (emptied_of h o).generation ≡ h.generation + 1
  filled-emptied-of h None e w = absurd (none-some e w.1)
  filled-emptied-of h (Some k) e w = refl

  filled-emptied : (h : Half O) → IsFilled h → (emptied h).generation ≡ h.generation + 1
  filled-emptied h w = filled-emptied-of h h.slot refl w

module _ {O : Type 0} (tree : O → Tree O) (t : Tree O) where
  received-trial : (s : State O) (task : Task O) (b : Bool) → HasTrialSlot s → HasTrialSlot (if b then resumed s task else fresh s task)
  received-trial s task true has = λ x e. let w = has x e in of-side x.side w
    where
      of-side : (y : Side) → (k : Slot O) × ((half s y).slot ≡ Some k) → (k : Slot O) × ((half (resumed s task) y).slot ≡ Some k)
      of-side Left w = w
      of-side Right w = w
  received-trial s task false has = λ x e. absurd (none-some refl e)

  trial-after : (s : State O) (e : Event O) → HasTrialSlot s → Lawful tree t s e → HasTrialSlot (after t s e)
  trial-after s (Received task) has may = received-trial s task (goes_on t s.held s.answer task) has
  trial-after s (Tried item outcome.None) has may = has
  trial-after s (Tried item (outcome.Banned x)) has may = has
  trial-after s (Tried item (outcome.Offer x)) has may =
      same-trial s (after t s (Tried item (outcome.Offer x))) (proposing-trial (record s { next = s.next + 1 }) s.held x) (proposing-half (record s { next = s.next + 1 }) s.held x) has
  trial-after s Split has may = has
  trial-after s (Asked side task) has may =
      λ x e.
      at-halves (λ h z. z ≡ x.side → IsFilled h) s side (filled s side task) (half s (other side))
      (λ q. (record { task = task; asked = _; on_trial = _; answer = None }, refl)) (λ q. subst (λ (y : Side). IsFilled (half s y)) (sym q) (has x e)) x.side refl
  trial-after s (Posted side a) has may =
      λ x e.
      at-halves (λ h z. z ≡ x.side → IsFilled h) s side (posted_in (half s side) (half s side).slot a) (half s (other side))
      (λ q. posted-filled (half s side) (half s side).slot a refl (subst (λ (y : Side). IsFilled (half s y)) (sym q) (has x e)))
      (λ q. subst (λ (y : Side). IsFilled (half s y)) (sym q) (has x e)) x.side refl
  trial-after s (Adopted side g offer) has may =
      λ x e.
      let same : side ≡ x.side = ap (λ (y : Trial O). y.side) (same-some {a = record { side = side; offer = offer }} refl e) in
      subst (λ (y : Side). IsFilled (half (with_halves s side (half s side) (kept_for_trial (half s (other side)))) y)) same
      (may.slot, ap (λ (h : Half O). h.slot) (half-own s side (half s side) (kept_for_trial (half s (other side)))) ∙ may.has.slot)
  trial-after s (Agreed side g x) has may = same-trial s (after t s (Agreed side g x)) (proposing-trial s s.held x) (proposing-half s s.held x) has
  trial-after s (Forbidden side g x) has may = λ y e. absurd (none-some refl e)
  trial-after s (Refused side g) has may =
      λ x e.
      let there : x.side ≡ other side = ap (λ (y : Trial O). y.side) (same-some e may.is_trial) ∙ may.of_other in
      let w : IsFilled (half s (other side)) = subst (λ (y : Side). IsFilled (half s y)) there (has x e) in
      subst (λ (y : Side). IsFilled (half (with_halves s side (emptied (half s side)) (half s (other side))) y)) (sym there)
      (w.0, ap (λ (h : Half O). h.slot) (half-other s side (emptied (half s side)) (half s (other side))) ∙ w.1)
  trial-after s Exhausted has may = same-trial s (after t s Exhausted) (giving_up-trial s s.held) (giving_up-half s s.held) has

  -- no event lowers the generation of a side
  abbrev Above : State O → Half O → Side → Type 0
  Above s h z = (half s z).generation ≤ h.generation

  as-before : (s : State O) (z : Side) → Above s (half s z) z
  as-before s z = omega arith

  kept-above : (h : Half O) (b : Bool) → h.generation ≤ (if b then h else emptied h).generation
  kept-above h true = omega arith
  kept-above h false = emptied-generation h

  received-above : (s : State O) (task : Task O) (b : Bool) (y : Side) → Above s (half (if b then resumed s task else fresh s task) y) y
  received-above s task true Left = omega arith
  received-above s task true Right = omega arith
  received-above s task false Left = emptied-generation s.left
  received-above s task false Right = emptied-generation s.right

  same-above : (s : State O) (h : Half O) (y : Side) → h ≡ half s y → Above s h y
  same-above s h y e = subst (λ (k : Half O). (half s y).generation ≤ k.generation) (sym e) (as-before s y)

  pub above-after : (s : State O) (e : Event O) (y : Side) → (half s y).generation ≤ (half (after t s e) y).generation
  above-after s (Received task) y = received-above s task (goes_on t s.held s.answer task) y
  above-after s (Tried item outcome.None) y = as-before s y
  above-after s (Tried item (outcome.Banned x)) y = as-before s y
  above-after s (Tried item (outcome.Offer x)) y = same-above s (half (after t s (Tried item (outcome.Offer x))) y) y (proposing-half (record s { next = s.next + 1 }) s.held x y)
  above-after s Split y = as-before s y
  above-after s (Asked side task) y = at-halves (Above s) s side (filled s side task) (half s (other side)) (as-before s side) (as-before s (other side)) y
  above-after s (Posted side a) y =
      at-halves (Above s) s side (posted_in (half s side) (half s side).slot a) (half s (other side))
      (let e : (posted_in (half s side) (half s side).slot a).generation ≡ (half s side).generation = posted-generation (half s side) (half s side).slot a in omega arith) (as-before s (other side)) y
  above-after s (Adopted side g x) y =
      at-halves (Above s) s side (half s side) (kept_for_trial (half s (other side))) (as-before s side) (kept-above (half s (other side)) (has_proposal (half s (other side)).slot)) y
  above-after s (Agreed side g x) y = same-above s (half (after t s (Agreed side g x)) y) y (proposing-half s s.held x y)
  above-after s (Forbidden side g x) y =
      at-halves (Above s) s side (forbidding (half s side) x) (emptied (half s (other side))) (emptied-generation (half s side)) (emptied-generation (half s (other side))) y
  above-after s (Refused side g) y =
      at-halves (Above s) s side (emptied (half s side)) (half s (other side)) (emptied-generation (half s side)) (as-before s (other side)) y
  above-after s Exhausted y = same-above s (half (after t s Exhausted) y) y (giving_up-half s s.held y)

  -- what is turned down has the generation of its side, which is raised
  abbrev Turned : State O → Event O → Side → ℕ → Type 0
  Turned s e side g = (turns_down side g e ≡ 0) ⊎ ((turns_down side g e ≡ 1) × (g ≡ (half s side).generation) × ((half (after t s e) side).generation ≡ g + 1))

  named-by : (s : State O) (x side : Side) (k g : ℕ) (h' : Side → Half O) → k ≡ (half s x).generation → (h' x).generation ≡ (half s x).generation + 1 → (one_if (is_same x side && nat_eq k g) ≡ 0) ⊎ ((one_if (is_same x side && nat_eq k g) ≡ 1) × (g ≡ (half s side).generation) × ((h' side).generation ≡ g + 1))
  named-by s x side k g h' named raised =
      elim (cases_Bool (is_same x side && nat_eq k g)) [
        | inr b ↦ inl (ap (λ (c : Bool). one_if c) b)
        | inl b ↦
            let same : x ≡ side = same-side x side (and-left (is_same x side) (nat_eq k g) b) in
            let at : k ≡ g = eqb-true k g (and-right (is_same x side) (nat_eq k g) b) in
            let here : g ≡ (half s side).generation = sym at ∙ (named ∙ ap (λ (y : Side). (half s y).generation) same) in
            let up : (h' side).generation ≡ (half s side).generation + 1 = subst (λ (y : Side). (h' y).generation ≡ (half s y).generation + 1) same raised in
            inr (ap (λ (c : Bool). one_if c) b, here, omega arith)
      ]

  turned-by : (s : State O) (e : Event O) (side : Side) (g : ℕ) → HasTrialSlot s → Lawful tree t s e → Turned s e side g
  turned-by s (Received task) side g has may = inl refl
  turned-by s (Tried item outcome) side g has may = inl refl
  turned-by s Split side g has may = inl refl
  turned-by s (Asked x task) side g has may = inl refl
  turned-by s (Posted x a) side g has may = inl refl
  turned-by s (Adopted x k offer) side g has may = inl refl
  turned-by s (Agreed x k offer) side g has may = inl refl
  turned-by s (Forbidden x k offer) side g has may =
      let w = has (record { side = x; offer = offer }) may.is_trial in
      named-by s x side k g (half (after t s (Forbidden x k offer))) may.is_named
      (ap (λ (h : Half O). h.generation) (half-own s x (forbidding (half s x) offer) (emptied (half s (other x)))) ∙ filled-emptied (half s x) w)
  turned-by s (Refused x k) side g has may =
      named-by s x side k g (half (after t s (Refused x k))) may.is_named
      (ap (λ (h : Half O). h.generation) (half-own s x (emptied (half s x)) (half s (other x))) ∙ filled-emptied (half s x) (may.slot, may.has.slot))
  turned-by s Exhausted side g has may = inl refl

  -- it is never turned down once the generation is higher
  later : (s : State O) (h : List (Event O)) (side : Side) (g : ℕ) → HasTrialSlot s → IsRun tree t s h → g < (half s side).generation → times_turned_down side g h ≡ 0
  later s [] side g has run l = refl
  later s (e ∷ h) side g has run l =
      let up : (half s side).generation ≤ (half (after t s e) side).generation = above-after s e side in
      let rest : times_turned_down side g h ≡ 0 = later (after t s e) h side g (trial-after s e has run.0) run.1 (omega arith) in
      elim (turned-by s e side g has run.0) [
        | inl not_now ↦ omega arith
        | inr w ↦ absurd (let q : g ≡ (half s side).generation = w.1 in omega arith)
      ]

  -- a proposal of a side is turned down once at the most
  pub turned-once : (s : State O) (h : List (Event O)) (side : Side) (g : ℕ) → HasTrialSlot s → IsRun tree t s h → times_turned_down side g h ≤ 1
  turned-once s [] side g has run = omega arith
  turned-once s (e ∷ h) side g has run =
      let next : HasTrialSlot (after t s e) = trial-after s e has run.0 in
      elim (turned-by s e side g has run.0) [
        | inl not_now ↦ let rest : times_turned_down side g h ≤ 1 = turned-once (after t s e) h side g next run.1 in omega arith
        | inr w ↦
            let q : (half (after t s e) side).generation ≡ g + 1 = w.2 in
            let one : turns_down side g e ≡ 1 = w.0 in
            let rest : times_turned_down side g h ≡ 0 = later (after t s e) h side g next run.1 (omega arith) in
            omega arith
      ]

  pub history-once : (round name : ℕ) (h : List (Event O)) → IsRun tree t (beginning round name) h → (side : Side) (g : ℕ) → times_turned_down side g h ≤ 1
  history-once round name h run side g = turned-once (beginning round name) h side g (λ x e. absurd (none-some refl e)) run

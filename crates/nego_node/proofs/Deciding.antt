use Rattle.std.proofs.Common.{◌≡◌, ◌≢◌, ◌∙◌, ℕ, ◌<◌, ◌≤◌, Bool, true, false, not, ◌&&◌, ◌||◌, ◌⊎◌, inl, inr, Option, Some, None, is_some, nat_eq, nat_lt, List, sym, subst, ap, refl, arith}
use Rattle.std.proofs.Math.Nat.{eq-or-lt_of_le}
use Rattle.std.proofs.lemmas.Bool.{eqb-true, eq-eqb, ltb-true, lt-ltb}
use Rattle.nego_laws.specs.Tree.{Tree}
use Rattle.nego_node.specs.Truth.{entails_some}
use Rattle.nego_node.specs.Machine.{Slot, Trial, State, half, other, generation_of, answered_in, side_of, proposed_by, proposed_in, has_proposal, task_for}
use Rattle.nego_node.specs.Lawful.{HasTriedAll, LeavesFree, Has, MayAsk, MayAdopt, MayAgree, MayForbid, MayRefuse, MayGiveUp, IsSpent}
use Rattle.nego_node.specs.Sound.{Keeps}
use Rattle.nego_node.specs.Moves.{MayMove, seeks, is_exhausted, on_trial_in, is_present, is_spent}
use Rattle.nego_node.specs.Decisions.{is_same, leaves_free, has_tried_all, allows_of, allows, may_ask, may_adopt, may_agree, may_forbid, may_refuse, may_give_up, may_move}
use Rattle.nego_node.specs.declared.tasks.Task.{Task}
use Rattle.nego_node.specs.declared.tasks.Side.{Side}
use Rattle.nego_node.specs.declared.tasks.Side.TheVariants.{Left, Right}
use Rattle.nego_node.specs.declared.answers.Answer.{Answer}
use Rattle.nego_node.specs.declared.answers.Answer.TheVariants.{Proposal, Exhausted}
use Rattle.nego_node.specs.declared.moves.Move.{Move}
use Rattle.nego_node.specs.declared.moves.Move.TheVariants.{Wait, Try, Split, Ask, Adopt, Agree, Forbid, Refuse, Exhaust}
use Rattle.nego_node.proofs.Entailing.{and-left, and-right, and-both, or-cases, or-left, or-right}
use Rattle.nego_node.proofs.Sides.{none-some, same-some, other-other, half-sound, sound-for}
use Rattle.nego_node.proofs.Moving.{proposed-has}
use Rattle.nego_node.proofs.StateTests.{not-true, not-false, not-both, is-not-some, seeks-true, true-seeks, has-exhausted, has-proposal, exhausted-has, proposal-has, trial-of}

pub same-side : (a b : Side) → is_same a b ≡ true → a ≡ b
same-side Left Left e = refl
same-side Left Right e = absurd (let k : false ≡ true = e in cc)
same-side Right Left e = absurd (let k : false ≡ true = e in cc)
same-side Right Right e = refl

pub side-same : (a b : Side) → a ≡ b → is_same a b ≡ true
side-same Left b e = ap (λ (x : Side). is_same Left x) (sym e)
side-same Right b e = ap (λ (x : Side). is_same Right x) (sym e)

false-not : (b : Bool) → (b ≡ true → ⊥) → not b ≡ true
false-not true h = absurd (h refl)
false-not false h = refl

module _ {O : Type 0} where
  free-left : (o : Option (Trial O)) (side : Side) → leaves_free (side_of o) side ≡ true → LeavesFree o side
  free-left None side e = tt
  free-left (Some x) side e = same-side x.side (other side) e

  left-free : (o : Option (Trial O)) (side : Side) → LeavesFree o side → leaves_free (side_of o) side ≡ true
  left-free None side e = refl
  left-free (Some x) side e = side-same x.side (other side) e

  present-of : (g : ℕ) (o : Option (Slot O)) → is_present g o ≡ true → (k : Slot O) × (o ≡ Some k) × (k.on_trial ≡ true) × (k.asked ≡ g)
  present-of g None e = absurd (let k : false ≡ true = e in cc)
  present-of g (Some k) e = (k, refl, and-left k.on_trial (nat_eq k.asked g) e, eqb-true k.asked g (and-right k.on_trial (nat_eq k.asked g) e))

  of-present : (g : ℕ) (o : Option (Slot O)) (k : Slot O) → o ≡ Some k → k.on_trial ≡ true → k.asked ≡ g → is_present g o ≡ true
  of-present g o k is on at =
      ap (λ (o : Option (Slot O)). is_present g o) is ∙ and-both k.on_trial (nat_eq k.asked g) on (eq-eqb k.asked g at)

  slot-proposed : (o : Option (Slot O)) (x : O) → proposed_in o ≡ Some x → (k : Slot O) × (o ≡ Some k) × (proposed_by k.answer ≡ Some x)
  slot-proposed None x e = absurd (none-some refl e)
  slot-proposed (Some k) x e = (k, refl, e)

  proposed-answer : (a : Option (Answer O)) (x : O) → proposed_by a ≡ Some x → (task : Task O) × (a ≡ Some (Proposal (record { task = task; offer = x })))
  proposed-answer None x e = absurd (none-some refl e)
  proposed-answer (Some (Proposal p)) x e = (p.task, ap (λ (y : O). Some (Proposal (record { task = p.task; offer = y }))) (same-some refl e))
  proposed-answer (Some (Exhausted task)) x e = absurd (none-some refl e)

module _ {O : Type 0} (t : Tree O) (s : State O) where
  all-tried : has_tried_all t s ≡ true → (task : Task O) × HasTriedAll t s task
  all-tried e =
      let w = seeks-true s (and-left (seeks s) (nat_eq s.next (t.items s.name)) e) in
      (w.0, record { seeks = w.1; all_tried = eqb-true s.next (t.items s.name) (and-right (seeks s) (nat_eq s.next (t.items s.name)) e) })

  tried-all : (task : Task O) → HasTriedAll t s task → has_tried_all t s ≡ true
  tried-all task k = and-both (seeks s) (nat_eq s.next (t.items s.name)) (true-seeks s task k.seeks) (eq-eqb s.next (t.items s.name) k.all_tried)

  allows-true : (h : Option (Task O)) (x : Option O) (f : List O) → allows_of t s h x f ≡ true → (task : Task O) × (offer : O) × (h ≡ Some task) × (x ≡ Some offer) × (entails_some t offer task.ban ≡ false) × (entails_some t offer f ≡ false)
  allows-true None x f e = absurd (let k : false ≡ true = e in cc)
  allows-true (Some task) None f e = absurd (let k : false ≡ true = e in cc)
  allows-true (Some task) (Some x) f e =
      (task, x, refl, refl, not-true (entails_some t x task.ban) (and-left (not (entails_some t x task.ban)) (not (entails_some t x f)) e), not-true (entails_some t x f) (and-right (not (entails_some t x task.ban)) (not (entails_some t x f)) e))

  pub true-allows : (side : Side) (task : Task O) (x : O) → s.held ≡ Some task → proposed_in (half s side).slot ≡ Some x → entails_some t x task.ban ≡ false → entails_some t x (half s side).forbidden ≡ false → allows t s side ≡ true
  true-allows side task x held found a b =
      ap (λ (h : Option (Task O)). allows_of t s h (proposed_in (half s side).slot) (half s side).forbidden) held
      ∙ (ap (λ (o : Option O). allows_of t s (Some task) o (half s side).forbidden) found
      ∙ and-both (not (entails_some t x task.ban)) (not (entails_some t x (half s side).forbidden)) (not-false (entails_some t x task.ban) a) (not-false (entails_some t x (half s side).forbidden) b))

  -- the proposal that a side has, where its offer is allowed
  allowed : (side : Side) → allows t s side ≡ true → (task : Task O) × (k : Slot O) × (asked : Task O) × (x : O) × (s.held ≡ Some task) × Has s side k (Proposal (record { task = asked; offer = x })) × (entails_some t x task.ban ≡ false) × (entails_some t x (half s side).forbidden ≡ false)
  allowed side e =
      let v = allows-true s.held (proposed_in (half s side).slot) (half s side).forbidden e in
      let w = slot-proposed (half s side).slot v.1 v.3 in
      let a = proposed-answer w.0.answer v.1 w.2 in
      (v.0, w.0, a.0, v.1, v.2, record { slot = w.1; answer = a.1 }, v.4, v.5)

  ask-true : (side : Side) → may_ask t s side ≡ true → (task : Task O) × MayAsk t s side task
  ask-true side e =
      let free : Bool = leaves_free (side_of s.trial) side in
      let empty : Bool = not (is_some (half s side).slot) in
      let w = all-tried (and-left (has_tried_all t s) (s.has_split && (empty && free)) e) in
      let r = and-right (has_tried_all t s) (s.has_split && (empty && free)) e in
      let q = and-right s.has_split (empty && free) r in
      (task_for s w.0 s.trial side, record { task = w.0; seeks = w.1; has_split = and-left s.has_split (empty && free) r; is_empty = is-not-some (half s side).slot (not-true (is_some (half s side).slot) (and-left empty free q)); is_free = free-left s.trial side (and-right empty free q); is_for = refl })

  true-ask : (side : Side) (task : Task O) → MayAsk t s side task → may_ask t s side ≡ true
  true-ask side task may =
      let free : Bool = leaves_free (side_of s.trial) side in
      let empty : Bool = not (is_some (half s side).slot) in
      and-both (has_tried_all t s) (s.has_split && (empty && free)) (tried-all may.task may.seeks)
      (and-both s.has_split (empty && free) may.has_split (and-both empty free (ap (λ (o : Option (Slot O)). not (is_some o)) may.is_empty) (left-free s.trial side may.is_free)))

  adopt-true : (side : Side) → may_adopt t s side ≡ true → (generation : ℕ) × (offer : O) × MayAdopt t s side generation offer
  adopt-true side e =
      let none : Bool = not (is_some s.trial) in
      let ends : Bool = is_exhausted (answered_in (half s (other side)).slot) in
      let w = seeks-true s (and-left (seeks s) (none && (not ends && allows t s side)) e) in
      let r = and-right (seeks s) (none && (not ends && allows t s side)) e in
      let q = and-right none (not ends && allows t s side) r in
      let v = allowed side (and-right (not ends) (allows t s side) q) in
      let goes : (k : Slot O) (task : Task O) → (half s (other side)).slot ≡ Some k → k.answer ≢ Some (Exhausted task) =
      λ k task at is. not-both ends (exhausted-has s (other side) k task (record { slot = at; answer = is })) (not-true ends (and-left (not ends) (allows t s side) q))
      in
      ((half s side).generation, v.3, record { task = v.0; seeks = record { held = v.4; unanswered = w.1.unanswered }; no_trial = is-not-some s.trial (not-true (is_some s.trial) (and-left none (not ends && allows t s side) r)); slot = v.1; asked_for = v.2; has = v.5; is_named = refl; other_goes = goes; is_allowed = v.6; is_not_forbidden = v.7 })

  true-adopt : (side : Side) (g : ℕ) (x : O) → MayAdopt t s side g x → may_adopt t s side ≡ true
  true-adopt side g x may =
      let none : Bool = not (is_some s.trial) in
      let ends : Bool = is_exhausted (answered_in (half s (other side)).slot) in
      let goes : not ends ≡ true =
      false-not ends (λ h. let w = has-exhausted s (other side) h in may.other_goes w.0 w.1.0 w.1.1.slot w.1.1.answer)
      in
      and-both (seeks s) (none && (not ends && allows t s side)) (true-seeks s may.task may.seeks)
      (and-both none (not ends && allows t s side) (ap (λ (o : Option (Trial O)). not (is_some o)) may.no_trial)
      (and-both (not ends) (allows t s side) goes
      (true-allows side may.task x may.seeks.held (proposed-has t s side may.slot (record { task = may.asked_for; offer = x }) may.has) may.is_allowed may.is_not_forbidden)))

  agree-true : (o : Option Side) → side_of s.trial ≡ o → may_agree t s o ≡ true → (side : Side) × (generation : ℕ) × (offer : O) × MayAgree t s side generation offer
  agree-true None is e = absurd (let k : false ≡ true = e in cc)
  agree-true (Some a) is e =
      let side : Side = other a in
      let here : Bool = is_present (generation_of s.held) (half s side).slot in
      let w = seeks-true s (and-left (seeks s) (here && allows t s side) e) in
      let r = and-right (seeks s) (here && allows t s side) e in
      let x = trial-of s.trial a is in
      let p = present-of (generation_of s.held) (half s side).slot (and-left here (allows t s side) r) in
      let v = allowed side (and-right here (allows t s side) r) in
      let same : p.0 ≡ v.1 = same-some p.1 v.5.slot in
      let on : v.1.on_trial ≡ true = subst (λ (k : Slot O). k.on_trial ≡ true) same p.2 in
      let at : v.1.asked ≡ v.0.generation = subst (λ (k : Slot O). k.asked ≡ generation_of s.held) same p.3 ∙ ap (λ (h : Option (Task O)). generation_of h) v.4 in
      (side, (half s side).generation, v.3, record { task = v.0; seeks = record { held = v.4; unanswered = w.1.unanswered }; trial = x.0; is_trial = x.1; of_other = x.2 ∙ sym (other-other a); slot = v.1; asked_for = v.2; has = v.5; for_trial = on; in_this = at; is_named = refl; is_allowed = v.6; is_not_forbidden = v.7 })

  -- the side of the trial, and the other one
  known : (trial : Trial O) (side : Side) → s.trial ≡ Some trial → trial.side ≡ other side → side_of s.trial ≡ Some (other side)
  known trial side is at = ap (λ (o : Option (Trial O)). side_of o) is ∙ ap Some at

  true-agree : (side : Side) (g : ℕ) (x : O) → MayAgree t s side g x → may_agree t s (side_of s.trial) ≡ true
  true-agree side g x may =
      let here : Side → Bool = λ y. is_present (generation_of s.held) (half s y).slot in
      let good : seeks s && (here side && allows t s side) ≡ true =
      and-both (seeks s) (here side && allows t s side) (true-seeks s may.task may.seeks)
      (and-both (here side) (allows t s side)
      (of-present (generation_of s.held) (half s side).slot may.slot may.has.slot may.for_trial (may.in_this ∙ sym (ap (λ (h : Option (Task O)). generation_of h) may.seeks.held)))
      (true-allows side may.task x may.seeks.held (proposed-has t s side may.slot (record { task = may.asked_for; offer = x }) may.has) may.is_allowed may.is_not_forbidden))
      in
      ap (λ (o : Option Side). may_agree t s o) (known may.trial side may.is_trial may.of_other)
      ∙ (ap (λ (y : Side). seeks s && (here y && allows t s y)) (other-other side) ∙ good)

  forbid-true : (o : Option Side) → side_of s.trial ≡ o → may_forbid t s o ≡ true → (side : Side) × (generation : ℕ) × (offer : O) × MayForbid s side generation offer
  forbid-true None is e = absurd (let k : false ≡ true = e in cc)
  forbid-true (Some a) is e =
      let ends : Bool = is_exhausted (answered_in (half s (other a)).slot) in
      let on : Bool = on_trial_in (half s (other a)).slot in
      let w = seeks-true s (and-left (seeks s) (ends && on) e) in
      let r = and-right (seeks s) (ends && on) e in
      let x = trial-of s.trial a is in
      let h = has-exhausted s (other a) (and-left ends on r) in
      let for_trial : h.0.on_trial ≡ true = sym (ap (λ (o : Option (Slot O)). on_trial_in o) h.1.1.slot) ∙ and-right ends on r in
      (a, (half s a).generation, x.0.offer, record { task = w.0; seeks = w.1; is_trial = x.1 ∙ ap (λ (y : Side). Some (record { side = y; offer = x.0.offer })) x.2; is_named = refl; slot = h.0; asked_for = h.1.0; has = h.1.1; for_trial = for_trial })

  true-forbid : (side : Side) (g : ℕ) (x : O) → MayForbid s side g x → may_forbid t s (side_of s.trial) ≡ true
  true-forbid side g x may =
      let ends : Bool = is_exhausted (answered_in (half s (other side)).slot) in
      let on : Bool = on_trial_in (half s (other side)).slot in
      ap (λ (o : Option Side). may_forbid t s o) (ap (λ (o : Option (Trial O)). side_of o) may.is_trial)
      ∙ and-both (seeks s) (ends && on) (true-seeks s may.task may.seeks)
      (and-both ends on (exhausted-has s (other side) may.slot may.asked_for may.has) (ap (λ (o : Option (Slot O)). on_trial_in o) may.has.slot ∙ may.for_trial))

  spent-true : (side : Side) → s.trial ≡ None → is_spent (half s side).slot ≡ true → IsSpent s
  spent-true side none e =
      let ends : Bool = is_exhausted (answered_in (half s side).slot) in
      let on : Bool = on_trial_in (half s side).slot in
      let h = has-exhausted s side (and-left ends (not on) e) in
      record { side = side; no_trial = none; slot = h.0; asked_for = h.1.0; has = h.1.1; plain = sym (ap (λ (o : Option (Slot O)). on_trial_in o) h.1.1.slot) ∙ not-true on (and-right ends (not on) e) }

  pub true-spent : (w : IsSpent s) → is_spent (half s w.side).slot ≡ true
  true-spent w =
      let ends : Bool = is_exhausted (answered_in (half s w.side).slot) in
      let on : Bool = on_trial_in (half s w.side).slot in
      and-both ends (not on) (exhausted-has s w.side w.slot w.asked_for w.has) (not-false on (ap (λ (o : Option (Slot O)). on_trial_in o) w.has.slot ∙ w.plain))

  either-spent : (side : Side) → is_spent (half s side).slot ≡ true → is_spent s.left.slot || is_spent s.right.slot ≡ true
  either-spent Left e = or-left (is_spent s.left.slot) (is_spent s.right.slot) e
  either-spent Right e = or-right (is_spent s.left.slot) (is_spent s.right.slot) e

  give_up-true : may_give_up t s ≡ true → MayGiveUp t s
  give_up-true e =
      let leaf : Bool = not (t.parted s.name) in
      let none : Bool = not (is_some s.trial) in
      let spent : Bool = is_spent s.left.slot || is_spent s.right.slot in
      let w = all-tried (and-left (has_tried_all t s) (leaf || (none && spent)) e) in
      record {
        task = w.0;
        seeks = w.1;
        why =
            elim (or-cases leaf (none && spent) (and-right (has_tried_all t s) (leaf || (none && spent)) e)) [
              | inl l ↦ inl (not-true (t.parted s.name) l)
              | inr r ↦
                  let no : s.trial ≡ None = is-not-some s.trial (not-true (is_some s.trial) (and-left none spent r)) in
                  inr (elim (or-cases (is_spent s.left.slot) (is_spent s.right.slot) (and-right none spent r)) [ inl a ↦ spent-true Left no a | inr b ↦ spent-true Right no b ])
            ];
      }

  true-give_up : MayGiveUp t s → may_give_up t s ≡ true
  true-give_up may =
      let leaf : Bool = not (t.parted s.name) in
      let none : Bool = not (is_some s.trial) in
      let spent : Bool = is_spent s.left.slot || is_spent s.right.slot in
      and-both (has_tried_all t s) (leaf || (none && spent)) (tried-all may.task may.seeks)
      (elim may.why [
        | inl l ↦ or-left leaf (none && spent) (not-false (t.parted s.name) l)
        | inr w ↦ or-right leaf (none && spent) (and-both none spent (ap (λ (o : Option (Trial O)). not (is_some o)) w.no_trial) (either-spent w.side (true-spent w)))
      ])

module _ {O : Type 0} (tree : O → Tree O) (t : Tree O) (s : State O) (keeps : Keeps tree t s) where
  -- what was asked was asked at most in the node's held generation
  asked-most : (task : Task O) (side : Side) (k : Slot O) → s.held ≡ Some task → (half s side).slot ≡ Some k → k.asked ≤ task.generation
  asked-most task side k held at = ((half-sound tree t s task (sound-for tree t s task keeps held) side).slots k at).asked

  stale-of : (k : Slot O) (g : ℕ) → k.asked ≤ g → k.on_trial && nat_eq k.asked g ≡ false → (on : Bool) → k.on_trial ≡ on → (k.on_trial ≡ false) ⊎ (k.asked < g)
  stale-of k g most e false is = inl is
  stale-of k g most e true is =
      let differs : nat_eq k.asked g ≡ false = sym (ap (λ (b : Bool). b && nat_eq k.asked g) is) ∙ e in
      elim (eq-or-lt_of_le most) [ inl q ↦ absurd (not-both (nat_eq k.asked g) (eq-eqb k.asked g q) differs) | inr l ↦ inr l ]

  of-stale : (k : Slot O) (g : ℕ) → (k.on_trial ≡ false) ⊎ (k.asked < g) → k.on_trial && nat_eq k.asked g ≡ true → ⊥
  of-stale k g (inl off) e = not-both k.on_trial (and-left k.on_trial (nat_eq k.asked g) e) off
  of-stale k g (inr less) e =
      let q : k.asked ≡ g = eqb-true k.asked g (and-right k.on_trial (nat_eq k.asked g) e) in
      let n : ⊥ = omega (arith, less, q) in n

  refuse-true : (o : Option Side) → side_of s.trial ≡ o → may_refuse t s o ≡ true → (side : Side) × (generation : ℕ) × MayRefuse s side generation
  refuse-true None is e = absurd (let k : false ≡ true = e in cc)
  refuse-true (Some a) is e =
      let side : Side = other a in
      let has : Bool = has_proposal (half s side).slot in
      let here : Bool = is_present (generation_of s.held) (half s side).slot in
      let w = seeks-true s (and-left (seeks s) (has && not here) e) in
      let r = and-right (seeks s) (has && not here) e in
      let x = trial-of s.trial a is in
      let h = has-proposal s side (and-left has (not here) r) in
      let off : h.0.on_trial && nat_eq h.0.asked w.0.generation ≡ false =
      sym (ap (λ (y : Option (Task O)). is_present (generation_of y) (Some h.0)) w.1.held) ∙ (sym (ap (λ (y : Option (Slot O)). is_present (generation_of s.held) y) h.1.1.slot) ∙ not-true here (and-right has (not here) r))
      in
      (side, (half s side).generation, record { task = w.0; seeks = w.1; trial = x.0; is_trial = x.1; of_other = x.2 ∙ sym (other-other a); is_named = refl; slot = h.0; proposed = h.1.0; has = h.1.1; is_stale = stale-of h.0 w.0.generation (asked-most w.0 side h.0 w.1.held h.1.1.slot) off h.0.on_trial refl })

  true-refuse : (side : Side) (g : ℕ) → MayRefuse s side g → may_refuse t s (side_of s.trial) ≡ true
  true-refuse side g may =
      let has : Side → Bool = λ y. has_proposal (half s y).slot in
      let here : Side → Bool = λ y. is_present (generation_of s.held) (half s y).slot in
      let seen : here side ≡ may.slot.on_trial && nat_eq may.slot.asked may.task.generation =
      ap (λ (y : Option (Slot O)). is_present (generation_of s.held) y) may.has.slot ∙ ap (λ (y : Option (Task O)). is_present (generation_of y) (Some may.slot)) may.seeks.held
      in
      let good : seeks s && (has side && not (here side)) ≡ true =
      and-both (seeks s) (has side && not (here side)) (true-seeks s may.task may.seeks)
      (and-both (has side) (not (here side)) (proposal-has s side may.slot may.proposed may.has) (false-not (here side) (λ h. of-stale may.slot may.task.generation may.is_stale (sym seen ∙ h))))
      in
      ap (λ (o : Option Side). may_refuse t s o) (known t s may.trial side may.is_trial may.of_other)
      ∙ (ap (λ (y : Side). seeks s && (has y && not (here y))) (other-other side) ∙ good)

  -- the test of the state says what is lawful
  pub decides : (step : Move) → may_move t s step ≡ true → MayMove t s step
  decides Wait e = let k : false ≡ true = e in absurd cc
  decides Try e =
      let more : Bool = nat_lt s.next (t.items s.name) in
      let w = seeks-true s (and-left (seeks s) more e) in
      record { task = w.0; seeks = w.1; exists = ltb-true s.next (t.items s.name) (and-right (seeks s) more e) }
  decides Split e =
      let rest : Bool = t.parted s.name && not s.has_split in
      let w = all-tried t s (and-left (has_tried_all t s) rest e) in
      let r = and-right (has_tried_all t s) rest e in
      record { task = w.0; seeks = w.1; parted = and-left (t.parted s.name) (not s.has_split) r; not_yet = not-true s.has_split (and-right (t.parted s.name) (not s.has_split) r) }
  decides (Ask side) e = ask-true t s side e
  decides (Adopt side) e = adopt-true t s side e
  decides Agree e = agree-true t s (side_of s.trial) refl e
  decides Forbid e = forbid-true t s (side_of s.trial) refl e
  decides Refuse e = refuse-true (side_of s.trial) refl e
  decides Exhaust e = give_up-true t s e

  pub decided : (step : Move) → MayMove t s step → may_move t s step ≡ true
  decided Wait may = absurd may
  decided Try may = and-both (seeks s) (nat_lt s.next (t.items s.name)) (true-seeks s may.task may.seeks) (lt-ltb s.next (t.items s.name) may.exists)
  decided Split may =
      and-both (has_tried_all t s) (t.parted s.name && not s.has_split) (tried-all t s may.task may.seeks)
      (and-both (t.parted s.name) (not s.has_split) may.parted (not-false s.has_split may.not_yet))
  decided (Ask side) may = true-ask t s side may.0 may.1
  decided (Adopt side) may = true-adopt t s side may.0 may.1 may.2
  decided Agree may = true-agree t s may.0 may.1 may.2 may.3
  decided Forbid may = true-forbid t s may.0 may.1 may.2 may.3
  decided Refuse may = true-refuse may.0 may.1 may.2
  decided Exhaust may = true-give_up t s may

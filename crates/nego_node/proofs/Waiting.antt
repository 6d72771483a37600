use Rattle.std.proofs.Common.{◌≡◌, ◌≢◌, ◌∙◌, ℕ, ◌<◌, Bool, true, false, not, ◌&&◌, ◌||◌, inl, inr, Option, Some, None, is_some, nat_eq, nat_lt, List, [], ◌∷◌, ◌++◌, All, sym, subst, ap, refl, if◌then◌else◌}
use Rattle.std.proofs.lemmas.Bool.{eqb-true, eq-eqb, lt-ltb}
use Rattle.std.proofs.lemmas.List.Elements.{All-head, All-tail}
use Rattle.nego_laws.specs.Tree.{Tree, Laws, Solves}
use Rattle.nego_node.specs.Truth.{entails_some, Serves}
use Rattle.nego_node.specs.Machine.{Slot, Trial, State, half, other, part_of, generation_of, answered_in, side_of, has_proposal}
use Rattle.nego_node.specs.Proposed.{Proposed}
use Rattle.nego_node.specs.Lawful.{Has, LeavesFree}
use Rattle.nego_node.specs.Sound.{Keeps, IsSound, IsForTrial, SlotIsSound, TrialIsSound, IsBarred}
use Rattle.nego_node.specs.Moves.{MayMove, OnlyMessages, seeks, is_exhausted, on_trial_in, is_present, is_spent, next_move, move_without_trial, move_in_trial, move_when_split}
use Rattle.nego_node.specs.Decisions.{leaves_free, has_tried_all, allows, may_agree, may_forbid, may_refuse}
use Rattle.nego_node.specs.declared.tasks.Task.{Task}
use Rattle.nego_node.specs.declared.tasks.Side.{Side}
use Rattle.nego_node.specs.declared.tasks.Side.TheVariants.{Left, Right}
use Rattle.nego_node.specs.declared.answers.Answer.TheVariants.{Proposal}
use Rattle.nego_node.specs.declared.events.Event.TheVariants as event
use Rattle.nego_node.specs.declared.moves.Move.{Move}
use Rattle.nego_node.specs.declared.moves.Move.TheVariants.{Wait, Try, Split, Ask, Adopt, Agree, Forbid, Refuse, Exhaust}
use Rattle.nego_node.proofs.Entailing.{and-left, and-right, and-both, or-cases, or-left, or-right, some-left, some-right, solves-above}
use Rattle.nego_node.proofs.Sides.{none-some, same-some, other-other, half-sound, sound-for}
use Rattle.nego_node.proofs.Moving.{proposed-has}
use Rattle.nego_node.proofs.StateTests.{not-true, not-false, not-both, seeks-true, has-proposal, exhausted-has, proposal-has, true-seeks, trial-of, trial-none, tried-all}
use Rattle.nego_node.proofs.Deciding.{true-allows, true-spent, decides, side-same}

-- a fact of both answers is one of the choice
pub at-if : (P : Move → Type 0) (b : Bool) (x y : Move) → (b ≡ true → P x) → (b ≡ false → P y) → P (if b then x else y)
at-if P true x y f g = f refl
at-if P false x y f g = g refl

pub not-not : (b : Bool) → not b ≡ false → b ≡ true
not-not true h = refl
not-not false h = absurd (let k : true ≡ false = h in cc)

pub false-if : (b : Bool) → (b ≡ true → ⊥) → b ≡ false
false-if true h = absurd (h refl)
false-if false h = refl

-- The next move is lawful, unless it is to wait.
module _ {O : Type 0} (tree : O → Tree O) (t : Tree O) (laws : Laws t (λ s. tree s ≡ t)) (s : State O) (keeps : Keeps tree t s) where
  abbrev IsGood : Move → Type 0
  IsGood m = m ≢ Wait → MayMove t s m

  module _ (task : Task O) (sound : IsSound tree t s task) where
    slot-sound : (side : Side) (k : Slot O) → (half s side).slot ≡ Some k → SlotIsSound tree t s.round s.name s.trial task side (half s side) k
    slot-sound side k e = (half-sound tree t s task sound side).slots k e

    -- the proposal of a slot is for the task in it
    serving : (side : Side) (k : Slot O) (p : Proposed O) → Has s side k (Proposal p) → Serves tree t k.task p.offer
    serving side k p has =
        let said = (slot-sound side k has.slot).answered (Proposal p) has.answer in
        subst (λ (y : Task O). Serves tree t y p.offer) said.0 said.1.1

    on-trial-of : (side : Side) (o : Option (Slot O)) → s.trial ≡ None → (half s side).slot ≡ o → on_trial_in o ≡ false
    on-trial-of side None none e = refl
    on-trial-of side (Some k) none e = false-if k.on_trial (λ on. none-some none ((slot-sound side k e).for_trial on).is_trial)

    -- without a trial nothing was asked for one
    no-trial-slot : (side : Side) → s.trial ≡ None → on_trial_in (half s side).slot ≡ false
    no-trial-slot side none = on-trial-of side (half s side).slot none refl

    plain-allows : (side : Side) → s.trial ≡ None → has_proposal (half s side).slot ≡ true → allows t s side ≡ true
    plain-allows side none e =
        let h = has-proposal s side e in
        let k : Slot O = h.0 in
        let x : O = h.1.0.offer in
        let ok = slot-sound side k h.1.1.slot in
        let off : k.on_trial ≡ false = sym (ap (λ (o : Option (Slot O)). on_trial_in o) h.1.1.slot) ∙ no-trial-slot side none in
        let ban : k.task.ban ≡ task.ban ++ (half s side).forbidden = (ok.plain off).now (ok.asked_now none) in
        let free : entails_some t x (task.ban ++ (half s side).forbidden) ≡ false =
        subst (λ (b : List O). entails_some t x b ≡ false) ban (serving side k h.1.0 h.1.1).is_allowed
        in
        true-allows t s side task x sound.held (proposed-has t s side k h.1.0 h.1.1)
        (false-if (entails_some t x task.ban) (λ y. not-both (entails_some t x (task.ban ++ (half s side).forbidden)) (some-left t x task.ban (half s side).forbidden y) free))
        (false-if (entails_some t x (half s side).forbidden) (λ y. not-both (entails_some t x (task.ban ++ (half s side).forbidden)) (some-right t x task.ban (half s side).forbidden y) free))

    -- an offer that solves what forbade a member entails a member of the ban, where it entails a forbidden one
    barred : (b : ℕ) (r : O) (fs : List O) → tree r ≡ t → t.entails r task.given ≡ true → Solves t r b → All (λ f. (tree f ≡ t) × IsBarred tree t task b f) fs → entails_some t r fs ≡ true → entails_some t r task.ban ≡ true
    barred b r [] mine given solves all e = absurd (let k : false ≡ true = e in cc)
    barred b r (f ∷ fs) mine given solves all e =
        elim (or-cases (t.entails r f) (entails_some t r fs) e) [
          | inl y ↦ (All-head (λ f. (tree f ≡ t) × IsBarred tree t task b f) f fs all).1 r mine given y solves
          | inr z ↦ barred b r fs mine given solves (All-tail (λ f. (tree f ≡ t) × IsBarred tree t task b f) f fs all) z
        ]

    trial-allows : (a : Side) → side_of s.trial ≡ Some a → is_present (generation_of s.held) (half s (other a)).slot ≡ true → has_proposal (half s (other a)).slot ≡ true → allows t s (other a) ≡ true
    trial-allows a at present e =
        let side : Side = other a in
        let x = trial-of s.trial a at in
        let h = has-proposal s side e in
        let k : Slot O = h.0 in
        let r : O = h.1.0.offer in
        let here : k.on_trial && nat_eq k.asked (generation_of s.held) ≡ true = sym (ap (λ (o : Option (Slot O)). is_present (generation_of s.held) o) h.1.1.slot) ∙ present in
        let asked : k.asked ≡ task.generation = eqb-at k (and-right k.on_trial (nat_eq k.asked (generation_of s.held)) here) in
        let ok = slot-sound side k h.1.1.slot in
        let w : IsForTrial tree t s.trial task side k = ok.for_trial (and-left k.on_trial (nat_eq k.asked (generation_of s.held)) here) in
        let its : k.task.given ≡ x.0.offer = w.given ∙ ap (λ (y : Trial O). y.offer) (same-some w.is_trial x.1) in
        let now : Serves tree t k.task r = serving side k h.1.0 h.1.1 in
        let tr : TrialIsSound tree t s x.0 = sound.trial x.0 x.1 in
        let ok2 = slot-sound x.0.side tr.slot tr.is_slot in
        let first : Serves tree t tr.slot.task x.0.offer = (ok2.answered (Proposal (record { task = tr.slot.task; offer = x.0.offer })) tr.is_answer).1.1 in
        let more : t.entails r x.0.offer ≡ true = subst (λ (y : O). t.entails r y ≡ true) its now.entails_given in
        let given : t.entails x.0.offer task.given ≡ true = subst (λ (y : O). t.entails x.0.offer y ≡ true) (ok2.plain tr.is_plain).given first.entails_given in
        let there : Solves t r (part_of s.name (other side)) =
        subst (λ (y : Side). Solves t r (part_of s.name y)) (x.2 ∙ sym (other-other a))
        (subst (λ (b : ℕ). Solves t r b) ok2.node (solves-above tree t laws r x.0.offer tr.slot.task.node now.belongs first.belongs more first.solves))
        in
        let free : entails_some t r task.ban ≡ false = subst (λ (b : List O). entails_some t r b ≡ false) (w.now asked) now.is_allowed in
        true-allows t s side task r sound.held (proposed-has t s side k h.1.0 h.1.1) free
        (false-if (entails_some t r (half s side).forbidden)
        (λ y. not-both (entails_some t r task.ban)
        (barred (part_of s.name (other side)) r (half s side).forbidden now.belongs (laws.transitive r x.0.offer task.given now.belongs first.belongs sound.belongs.given more given) there (half-sound tree t s task sound side).forbidden y) free))
      where
        eqb-at : (k : Slot O) → nat_eq k.asked (generation_of s.held) ≡ true → k.asked ≡ task.generation
        eqb-at k e = eqb-true k.asked (generation_of s.held) e ∙ ap (λ (h : Option (Task O)). generation_of h) sound.held

  module _ (seek : seeks s ≡ true) (all : has_tried_all t s ≡ true) (parted : t.parted s.name ≡ true) (split : s.has_split ≡ true) where
    held : (task : Task O) × IsSound tree t s task
    held = let w = seeks-true s seek in (w.0, sound-for tree t s w.0 keeps w.1.held)

    spent-good : s.trial ≡ None → is_spent s.left.slot || is_spent s.right.slot ≡ true → MayMove t s Exhaust
    spent-good none e =
        let leaf : Bool = not (t.parted s.name) in
        let no : Bool = not (is_some s.trial) in
        let spent : Bool = is_spent s.left.slot || is_spent s.right.slot in
        decides tree t s keeps Exhaust
        (and-both (has_tried_all t s) (leaf || (no && spent)) all (or-right leaf (no && spent) (and-both no spent (ap (λ (o : Option (Trial O)). not (is_some o)) none) e)))

    adopt-good : (side : Side) → s.trial ≡ None → is_spent (half s (other side)).slot ≡ false → has_proposal (half s side).slot ≡ true → MayMove t s (Adopt side)
    adopt-good side none unspent e =
        let no : Bool = not (is_some s.trial) in
        let ends : Bool = is_exhausted (answered_in (half s (other side)).slot) in
        let on : Bool = on_trial_in (half s (other side)).slot in
        let unended : ends ≡ false =
        false-if ends (λ y. not-both (ends && not on) (and-both ends (not on) y (not-false on (no-trial-slot held.0 held.1 (other side) none))) unspent)
        in
        decides tree t s keeps (Adopt side)
        (and-both (seeks s) (no && (not ends && allows t s side)) seek
        (and-both no (not ends && allows t s side) (ap (λ (o : Option (Trial O)). not (is_some o)) none)
        (and-both (not ends) (allows t s side) (not-false ends unended) (plain-allows held.0 held.1 side none e))))

    ask-good : (side : Side) → leaves_free (side_of s.trial) side ≡ true → not (is_some (half s side).slot) ≡ true → MayMove t s (Ask side)
    ask-good side free e =
        let empty : Bool = not (is_some (half s side).slot) in
        let left : Bool = leaves_free (side_of s.trial) side in
        decides tree t s keeps (Ask side)
        (and-both (has_tried_all t s) (s.has_split && (empty && left)) all (and-both s.has_split (empty && left) split (and-both empty left e free)))

    without-good : (eager : Bool) → side_of s.trial ≡ None → IsGood (move_without_trial eager s)
    without-good eager is =
        let none : s.trial ≡ None = trial-none s.trial is in
        let free : (side : Side) → leaves_free (side_of s.trial) side ≡ true = λ side. ap (λ (o : Option Side). leaves_free o side) is in
        at-if IsGood (is_spent s.left.slot) Exhaust _ (λ e n. spent-good none (or-left (is_spent s.left.slot) (is_spent s.right.slot) e)) (λ l.
        at-if IsGood (is_spent s.right.slot) Exhaust _ (λ e n. spent-good none (or-right (is_spent s.left.slot) (is_spent s.right.slot) e)) (λ r.
        at-if IsGood (has_proposal s.left.slot) (Adopt Left) _ (λ e n. adopt-good Left none r e) (λ p.
        at-if IsGood (has_proposal s.right.slot) (Adopt Right) _ (λ e n. adopt-good Right none l e) (λ q.
        at-if IsGood (not (is_some s.left.slot)) (Ask Left) _ (λ e n. ask-good Left (free Left) e) (λ f.
        at-if IsGood (eager && not (is_some s.right.slot)) (Ask Right) Wait (λ e n. ask-good Right (free Right) (and-right eager (not (is_some s.right.slot)) e)) (λ g n. absurd (n refl)))))))

    in-trial-good : (a : Side) → side_of s.trial ≡ Some a → IsGood (move_in_trial s (other a))
    in-trial-good a is =
        let side : Side = other a in
        let here : Bool = is_present (generation_of s.held) (half s side).slot in
        let has : Bool = has_proposal (half s side).slot in
        let ends : Bool = is_exhausted (answered_in (half s side).slot) in
        let on : Bool = on_trial_in (half s side).slot in
        let free : leaves_free (side_of s.trial) side ≡ true =
        ap (λ (o : Option Side). leaves_free o side) is ∙ side-same a (other side) (sym (other-other a))
        in
        at-if IsGood (not (is_some (half s side).slot)) (Ask side) _ (λ e n. ask-good side free e) (λ f.
        at-if IsGood has (if here then Agree else Refuse) _ (λ e.
        at-if IsGood here Agree Refuse (λ h n.
        decides tree t s keeps Agree
        (ap (λ (o : Option Side). may_agree t s o) is ∙ and-both (seeks s) (here && allows t s side) seek (and-both here (allows t s side) h (trial-allows held.0 held.1 a is h e)))) (λ h n.
        decides tree t s keeps Refuse
        (ap (λ (o : Option Side). may_refuse t s o) is ∙ and-both (seeks s) (has && not here) seek (and-both has (not here) e (not-false here h))))) (λ e.
        at-if IsGood (ends && on) Forbid Wait (λ h n.
        decides tree t s keeps Forbid (ap (λ (o : Option Side). may_forbid t s o) is ∙ and-both (seeks s) (ends && on) seek h)) (λ h n. absurd (n refl))))

    split-good : (eager : Bool) (o : Option Side) → side_of s.trial ≡ o → IsGood (move_when_split eager s o)
    split-good eager None is = without-good eager is
    split-good eager (Some a) is = in-trial-good a is

  pub next-lawful : (eager : Bool) → IsGood (next_move t eager s)
  next-lawful eager =
      let more : Bool = nat_lt s.next (t.items s.name) in
      at-if IsGood (not (seeks s)) Wait _ (λ e n. absurd (n refl)) (λ e.
      let seek : seeks s ≡ true = not-not (seeks s) e in
      at-if IsGood more Try _ (λ l n. decides tree t s keeps Try (and-both (seeks s) more seek l)) (λ l.
      let w = seeks-true s seek in
      let all : has_tried_all t s ≡ true =
      and-both (seeks s) (nat_eq s.next (t.items s.name)) seek (eq-eqb s.next (t.items s.name) (tried-all t s l (sound-for tree t s w.0 keeps w.1.held).next))
      in
      at-if IsGood (not (t.parted s.name)) Exhaust _ (λ p n.
      let leaf : Bool = not (t.parted s.name) in
      let spent : Bool = not (is_some s.trial) && (is_spent s.left.slot || is_spent s.right.slot) in
      decides tree t s keeps Exhaust (and-both (has_tried_all t s) (leaf || spent) all (or-left leaf spent p))) (λ p.
      let parted : t.parted s.name ≡ true = not-not (t.parted s.name) p in
      at-if IsGood (not s.has_split) Split _ (λ h n.
      decides tree t s keeps Split
      (and-both (has_tried_all t s) (t.parted s.name && not s.has_split) all (and-both (t.parted s.name) (not s.has_split) parted h))) (λ h.
      split-good seek all parted (not-not s.has_split h) eager (side_of s.trial) refl))))

-- Who is eager waits only where nothing is lawful but to take a message.
module _ {O : Type 0} (tree : O → Tree O) (t : Tree O) (s : State O) where
  abbrev IsStuck : Move → Type 0
  IsStuck m = m ≡ Wait → OnlyMessages tree t s

  -- an event that is no message is lawful only at a node that seeks
  idle : seeks s ≡ false → OnlyMessages tree t s
  idle e (event.Received task) may = tt
  idle e (event.Posted side a) may = tt
  idle e (event.Tried item out) may = not-both (seeks s) (true-seeks s may.task may.seeks) e
  idle e event.Split may = not-both (seeks s) (true-seeks s may.task may.seeks.seeks) e
  idle e (event.Asked side task) may = not-both (seeks s) (true-seeks s may.task may.seeks.seeks) e
  idle e (event.Adopted side g x) may = not-both (seeks s) (true-seeks s may.task may.seeks) e
  idle e (event.Agreed side g x) may = not-both (seeks s) (true-seeks s may.task may.seeks) e
  idle e (event.Forbidden side g x) may = not-both (seeks s) (true-seeks s may.task may.seeks) e
  idle e (event.Refused side g) may = not-both (seeks s) (true-seeks s may.task may.seeks) e
  idle e event.Exhausted may = not-both (seeks s) (true-seeks s may.task may.seeks.seeks) e

  filled-at : (side : Side) → not (is_some (half s side).slot) ≡ false → (half s side).slot ≡ None → ⊥
  filled-at side f none = not-both (not (is_some (half s side).slot)) (ap (λ (o : Option (Slot O)). not (is_some o)) none) f

  module _ (tried : nat_lt s.next (t.items s.name) ≡ false) (parted : t.parted s.name ≡ true) (split : s.has_split ≡ true) where
    no-try : (item : ℕ) → item ≡ s.next → item < t.items s.name → ⊥
    no-try item is l = not-both (nat_lt s.next (t.items s.name)) (lt-ltb s.next (t.items s.name) (subst (λ (i : ℕ). i < t.items s.name) is l)) tried

    stuck-without : s.trial ≡ None → is_spent s.left.slot ≡ false → is_spent s.right.slot ≡ false → has_proposal s.left.slot ≡ false → has_proposal s.right.slot ≡ false → not (is_some s.left.slot) ≡ false → not (is_some s.right.slot) ≡ false → OnlyMessages tree t s
    stuck-without none l r p q f g (event.Received task) may = tt
    stuck-without none l r p q f g (event.Posted side a) may = tt
    stuck-without none l r p q f g (event.Tried item out) may = no-try item may.is_next may.exists
    stuck-without none l r p q f g event.Split may = not-both s.has_split split may.not_yet
    stuck-without none l r p q f g (event.Asked Left task) may = filled-at Left f may.is_empty
    stuck-without none l r p q f g (event.Asked Right task) may = filled-at Right g may.is_empty
    stuck-without none l r p q f g (event.Adopted Left k x) may = not-both (has_proposal s.left.slot) (proposal-has s Left may.slot (record { task = may.asked_for; offer = x }) may.has) p
    stuck-without none l r p q f g (event.Adopted Right k x) may = not-both (has_proposal s.right.slot) (proposal-has s Right may.slot (record { task = may.asked_for; offer = x }) may.has) q
    stuck-without none l r p q f g (event.Agreed side k x) may = none-some none may.is_trial
    stuck-without none l r p q f g (event.Forbidden side k x) may = none-some none may.is_trial
    stuck-without none l r p q f g (event.Refused side k) may = none-some none may.is_trial
    stuck-without none l r p q f g event.Exhausted may =
        elim may.why [ inl leaf ↦ not-both (t.parted s.name) parted leaf | inr w ↦ unspent w.side l r (true-spent t s w) ]
      where
        unspent : (side : Side) → is_spent s.left.slot ≡ false → is_spent s.right.slot ≡ false → is_spent (half s side).slot ≡ true → ⊥
        unspent Left l r e = not-both (is_spent s.left.slot) e l
        unspent Right l r e = not-both (is_spent s.right.slot) e r

    -- the side that is asked, or has answered, in the trial of side a
    its-side : (a side : Side) (x : Trial O) → side_of s.trial ≡ Some a → s.trial ≡ Some x → x.side ≡ other side → other a ≡ side
    its-side a side x is at of_other =
        let here : x.side ≡ a = same-some (ap (λ (o : Option (Trial O)). side_of o) at) is in
        ap other (sym here ∙ of_other) ∙ other-other side

    asked-side : (a side : Side) (o : Option (Trial O)) → side_of o ≡ Some a → LeavesFree o side → other a ≡ side
    asked-side a side None is free = absurd (none-some refl is)
    asked-side a side (Some x) is free = ap other (sym (same-some refl is) ∙ free) ∙ other-other side

    stuck-in : (a : Side) → side_of s.trial ≡ Some a → not (is_some (half s (other a)).slot) ≡ false → has_proposal (half s (other a)).slot ≡ false → is_exhausted (answered_in (half s (other a)).slot) && on_trial_in (half s (other a)).slot ≡ false → OnlyMessages tree t s
    stuck-in a is f p h (event.Received task) may = tt
    stuck-in a is f p h (event.Posted side x) may = tt
    stuck-in a is f p h (event.Tried item out) may = no-try item may.is_next may.exists
    stuck-in a is f p h event.Split may = not-both s.has_split split may.not_yet
    stuck-in a is f p h (event.Asked side task) may =
        filled-at (other a) f (ap (λ (y : Side). (half s y).slot) (asked-side a side s.trial is may.is_free) ∙ may.is_empty)
    stuck-in a is f p h (event.Adopted side k x) may = none-some may.no_trial (trial-of s.trial a is).1
    stuck-in a is f p h (event.Agreed side k x) may =
        not-both (has_proposal (half s (other a)).slot)
        (ap (λ (y : Side). has_proposal (half s y).slot) (its-side a side may.trial is may.is_trial may.of_other) ∙ proposal-has s side may.slot (record { task = may.asked_for; offer = x }) may.has) p
    stuck-in a is f p h (event.Forbidden side k x) may =
        let here : a ≡ side = same-some is (ap (λ (o : Option (Trial O)). side_of o) may.is_trial) in
        let ends : Side → Bool = λ y. is_exhausted (answered_in (half s (other y)).slot) in
        let on : Side → Bool = λ y. on_trial_in (half s (other y)).slot in
        not-both (ends a && on a)
        (ap (λ (y : Side). ends y && on y) here
        ∙ and-both (ends side) (on side) (exhausted-has s (other side) may.slot may.asked_for may.has) (ap (λ (o : Option (Slot O)). on_trial_in o) may.has.slot ∙ may.for_trial)) h
    stuck-in a is f p h (event.Refused side k) may =
        not-both (has_proposal (half s (other a)).slot)
        (ap (λ (y : Side). has_proposal (half s y).slot) (its-side a side may.trial is may.is_trial may.of_other) ∙ proposal-has s side may.slot may.proposed may.has) p
    stuck-in a is f p h event.Exhausted may =
        elim may.why [ inl leaf ↦ not-both (t.parted s.name) parted leaf | inr w ↦ none-some w.no_trial (trial-of s.trial a is).1 ]

    split-stuck : (o : Option Side) → side_of s.trial ≡ o → IsStuck (move_when_split true s o)
    split-stuck None is =
        at-if IsStuck (is_spent s.left.slot) Exhaust _ (λ e n. absurd (no-wait n)) (λ l.
        at-if IsStuck (is_spent s.right.slot) Exhaust _ (λ e n. absurd (no-wait n)) (λ r.
        at-if IsStuck (has_proposal s.left.slot) (Adopt Left) _ (λ e n. absurd (no-wait-2 n)) (λ p.
        at-if IsStuck (has_proposal s.right.slot) (Adopt Right) _ (λ e n. absurd (no-wait-2 n)) (λ q.
        at-if IsStuck (not (is_some s.left.slot)) (Ask Left) _ (λ e n. absurd (no-wait-3 n)) (λ f.
        at-if IsStuck (true && not (is_some s.right.slot)) (Ask Right) Wait (λ e n. absurd (no-wait-3 n)) (λ g n. stuck-without (trial-none s.trial is) l r p q f g))))))
      where
        no-wait : Exhaust ≡ Wait → ⊥
        no-wait e = cc

        no-wait-2 : {side : Side} → Adopt side ≡ Wait → ⊥
        no-wait-2 e = cc

        no-wait-3 : {side : Side} → Ask side ≡ Wait → ⊥
        no-wait-3 e = cc
    split-stuck (Some a) is =
        let here : Bool = is_present (generation_of s.held) (half s (other a)).slot in
        let ends : Bool = is_exhausted (answered_in (half s (other a)).slot) in
        let on : Bool = on_trial_in (half s (other a)).slot in
        at-if IsStuck (not (is_some (half s (other a)).slot)) (Ask (other a)) _ (λ e n. absurd (let k : Ask (other a) ≡ Wait = n in cc)) (λ f.
        at-if IsStuck (has_proposal (half s (other a)).slot) (if here then Agree else Refuse) _
        (λ e. at-if IsStuck here Agree Refuse (λ h n. absurd (let k : Agree ≡ Wait = n in cc)) (λ h n. absurd (let k : Refuse ≡ Wait = n in cc))) (λ p.
        at-if IsStuck (ends && on) Forbid Wait (λ h n. absurd (let k : Forbid ≡ Wait = n in cc)) (λ h n. stuck-in a is f p h)))

  pub next-waits : (eager : Bool) → eager ≡ true → IsStuck (next_move t eager s)
  next-waits false is = absurd (let k : false ≡ true = is in cc)
  next-waits true is =
      at-if IsStuck (not (seeks s)) Wait _ (λ e n. idle (not-true (seeks s) e)) (λ e.
      at-if IsStuck (nat_lt s.next (t.items s.name)) Try _ (λ l n. absurd (let k : Try ≡ Wait = n in cc)) (λ l.
      at-if IsStuck (not (t.parted s.name)) Exhaust _ (λ p n. absurd (let k : Exhaust ≡ Wait = n in cc)) (λ p.
      at-if IsStuck (not s.has_split) Split _ (λ h n. absurd (let k : Split ≡ Wait = n in cc)) (λ h.
      split-stuck l (not-not (t.parted s.name) p) (not-not s.has_split h) (side_of s.trial) refl))))

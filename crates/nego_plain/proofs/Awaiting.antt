use Rattle.std.proofs.Common.{◌≡◌, ◌≢◌, ◌∙◌, ℕ, Bool, true, false, not, ◌&&◌, ◌⊎◌, inl, inr, Option, Some, None, is_some, nat_lt, sym, ap, refl, subst, if◌then◌else◌}
use Rattle.nego_laws.specs.Tree.{Tree, left_of, right_of}
use Rattle.nego_node.specs.Machine.{Slot, Trial, State, half, other, side_of, answered_in, has_proposal, is_proposal, generation_of}
use Rattle.nego_node.specs.Sound.{IsSound, SlotIsSound}
use Rattle.nego_node.specs.Moves.{seeks, is_exhausted, is_spent, is_present, on_trial_in, next_move, move_without_trial, move_in_trial, move_when_split}
use Rattle.nego_node.specs.declared.tasks.Task.{Task}
use Rattle.nego_node.specs.declared.tasks.Side.{Side}
use Rattle.nego_node.specs.declared.tasks.Side.TheVariants.{Left, Right}
use Rattle.nego_node.specs.declared.answers.Answer.{Answer}
use Rattle.nego_node.specs.declared.answers.Answer.TheVariants.{Proposal, Exhausted}
use Rattle.nego_node.specs.declared.moves.Move.{Move}
use Rattle.nego_node.specs.declared.moves.Move.TheVariants.{Wait, Try, Split, Ask, Adopt, Agree, Forbid, Refuse, Exhaust}
use Rattle.nego_node.specs.Board.{BoardNode}
use Rattle.nego_node.proofs.Sides.{none-some, sound-for}
use Rattle.nego_node.proofs.StateTests.{is-some}
use Rattle.nego_plain.specs.PlainOrder.{asked_side}
use Rattle.nego_plain.specs.Width.{Sites, leaf, fork, IsSites}
use Rattle.nego_plain.specs.Family.{Family, alone, with_parts, top}
use Rattle.nego_plain.specs.Rest.{IsBounded}
use Rattle.nego_plain.specs.Fits.{IsNodeAt, IsFamily}
use Rattle.nego_plain.specs.Engine.{IsInPlain, IsSeeking, AwaitsPart}
use Rattle.nego_plain.proofs.Tests.{no-bool, false-if}

not-first : (b : Bool) (x y : Move) → (if b then x else y) ≡ Wait → x ≢ Wait → (b ≡ false) × (y ≡ Wait)
not-first true x y e f = absurd (f e)
not-first false x y e f = (refl, e)

after-false : (b : Bool) (x y : Move) → b ≡ false → (if b then x else y) ≡ Wait → y ≡ Wait
after-false true x y h e = absurd (no-bool {b = true} refl h)
after-false false x y h e = e

not-false-true : (b : Bool) → not b ≡ false → b ≡ true
not-false-true true h = refl
not-false-true false h = absurd (no-bool {b = true} refl h)

no-answer : {O : Type 0} (a : Option (Answer O)) → is_proposal a ≡ false → is_exhausted a ≡ false → a ≡ None
no-answer None h k = refl
no-answer (Some (Proposal p)) h k = absurd (no-bool {b = true} refl h)
no-answer (Some (Exhausted e)) h k = absurd (no-bool {b = true} refl k)

and-first : (a b : Bool) → a && b ≡ false → b ≡ true → a ≡ false
and-first true b h k = absurd (no-bool k h)
and-first false b h k = refl

try-wait : Try ≢ Wait
try-wait e = cc

exhaust-wait : Exhaust ≢ Wait
exhaust-wait e = cc

split-wait : Split ≢ Wait
split-wait e = cc

ask-wait : (x : Side) → Ask x ≢ Wait
ask-wait x e = cc

adopt-wait : (x : Side) → Adopt x ≢ Wait
adopt-wait x e = cc

forbid-wait : Forbid ≢ Wait
forbid-wait e = cc

either-wait : (b : Bool) → (if b then Agree else Refuse) ≢ Wait
either-wait true e = cc
either-wait false e = cc

-- a side for which a node waits
pub record Awaited {O : Type 0} (s : State O) (side : Side) : Type 0 where
  pub slot : Slot O
  pub is_slot : (half s side).slot ≡ Some slot
  pub unanswered : slot.answer ≡ None
  pub is_side : side ≡ asked_side s.trial

-- the node has parts, and waits for one of them
pub record HasAwaited {O : Type 0} (t : Tree O) (s : State O) : Type 0 where
  pub parted : t.parted s.name ≡ true
  pub has_split : s.has_split ≡ true
  pub side : ((s.right.slot ≡ None) × Awaited s Left) ⊎ Awaited s Right

module _ {O : Type 0} (tree : O → Tree O) (t : Tree O) (s : State O) (task : Task O) (sound : IsSound tree t s task) (unanswered : s.answer ≡ None) (of_left : (x : Trial O) → s.trial ≡ Some x → x.side ≡ Left) (no_right : s.trial ≡ None → s.right.slot ≡ None) (on_trial : (k : Slot O) → s.right.slot ≡ Some k → k.on_trial ≡ true) where
  -- without a trial
  left-awaited : s.trial ≡ None → move_without_trial false s ≡ Wait → Awaited s Left
  left-awaited none e =
      let a = not-first (is_spent s.left.slot) Exhaust _ e exhaust-wait in
      let b = not-first (is_spent s.right.slot) Exhaust _ a.1 exhaust-wait in
      let c = not-first (has_proposal s.left.slot) (Adopt Left) _ b.1 (adopt-wait Left) in
      let d = not-first (has_proposal s.right.slot) (Adopt Right) _ c.1 (adopt-wait Right) in
      let f = not-first (not (is_some s.left.slot)) (Ask Left) _ d.1 (ask-wait Left) in
      let have = is-some s.left.slot (not-false-true (is_some s.left.slot) f.0) in
      let k : Slot O = have.0 in
      let off : k.on_trial ≡ false = false-if k.on_trial (λ on. none-some none ((sound.left.slots k have.1).for_trial on).is_trial) in
      let spent : is_exhausted k.answer && not k.on_trial ≡ false = sym (ap (λ (o : Option (Slot O)). is_spent o) have.1) ∙ a.0 in
      let prop : is_proposal k.answer ≡ false = sym (ap (λ (o : Option (Slot O)). has_proposal o) have.1) ∙ c.0 in
      record { slot = k; is_slot = have.1; unanswered = no-answer k.answer prop (and-first (is_exhausted k.answer) (not k.on_trial) spent (ap not off)); is_side = sym (ap (λ (o : Option (Trial O)). asked_side o) none) }

  -- in a trial
  right-awaited : (x : Trial O) → s.trial ≡ Some x → move_in_trial s Right ≡ Wait → Awaited s Right
  right-awaited x tried e =
      let a = not-first (not (is_some s.right.slot)) (Ask Right) _ e (ask-wait Right) in
      let b = not-first (has_proposal s.right.slot) _ _ a.1 (either-wait (is_present (generation_of s.held) s.right.slot)) in
      let c = not-first (is_exhausted (answered_in s.right.slot) && on_trial_in s.right.slot) Forbid _ b.1 forbid-wait in
      let have = is-some s.right.slot (not-false-true (is_some s.right.slot) a.0) in
      let k : Slot O = have.0 in
      let prop : is_proposal k.answer ≡ false = sym (ap (λ (o : Option (Slot O)). has_proposal o) have.1) ∙ b.0 in
      let exh : is_exhausted k.answer && k.on_trial ≡ false = sym (ap (λ (o : Option (Slot O)). is_exhausted (answered_in o) && on_trial_in o) have.1) ∙ c.0 in
      record { slot = k; is_slot = have.1; unanswered = no-answer k.answer prop (and-first (is_exhausted k.answer) k.on_trial exh (on_trial k have.1)); is_side = sym (ap (λ (o : Option (Trial O)). asked_side o) tried ∙ ap other (of_left x tried)) }

  when-split : (o : Option (Trial O)) → s.trial ≡ o → move_when_split false s (side_of o) ≡ Wait → ((s.right.slot ≡ None) × Awaited s Left) ⊎ Awaited s Right
  when-split None e h = inl (no_right e, left-awaited e h)
  when-split (Some x) e h = inr (right-awaited x e (subst (λ (y : Side). move_in_trial s (other y) ≡ Wait) (of_left x e) h))

  pub has-awaited : next_move t false s ≡ Wait → HasAwaited t s
  has-awaited e =
      let seeking : not (seeks s) ≡ false = rw (sound.held, unanswered) refl in
      let a : _ = after-false (not (seeks s)) Wait _ seeking e in
      let b = not-first (nat_lt s.next (t.items s.name)) Try _ a try-wait in
      let c = not-first (not (t.parted s.name)) Exhaust _ b.1 exhaust-wait in
      let d = not-first (not s.has_split) Split _ c.1 split-wait in
      record { parted = not-false-true (t.parted s.name) c.0; has_split = not-false-true s.has_split d.0; side = when-split s.trial refl d.1 }

-- the part for which a node waits
pub data Waiting {O : Type 0} (tree : O → Tree O) (t : Tree O) : Family O → Type 0 where
  for_left : (n : BoardNode O) (l r : Family O) → n.state.right.slot ≡ None → AwaitsPart tree t n.state Left l → Waiting tree t (with_parts n l r)
  for_right : (n : BoardNode O) (l r : Family O) → is_some n.state.right.slot ≡ true → AwaitsPart tree t n.state Right r → Waiting tree t (with_parts n l r)

module _ {O : Type 0} (tree : O → Tree O) (t : Tree O) (round : ℕ) where
  named-at : (b : ℕ) (sh : Sites) (f : Family O) → IsFamily tree t round b sh f → IsNodeAt tree t round b (top f)
  named-at b (leaf own) (alone n) fam = fam
  named-at b (leaf own) (with_parts n l r) fam = absurd fam
  named-at b (fork own x y) (alone n) fam = fam.0
  named-at b (fork own x y) (with_parts n l r) fam = fam.0

  waiting : (b : ℕ) (sh : Sites) (f : Family O) → IsSites t b sh → IsFamily tree t round b sh f → IsBounded t sh f → IsSeeking (top f).state → next_move t false (top f).state ≡ Wait → Waiting tree t f
  waiting b (leaf own) (alone n) sites fam bounded seeking e =
      let have = is-some n.state.held seeking.0 in
      absurd (leaf-waits (next_move t false n.state) refl e)
    where
      leaf-waits : (m : Move) → next_move t false n.state ≡ m → m ≡ Wait → ⊥
      leaf-waits m f g =
          let s : State O = n.state in
          let a : _ = after-false (not (seeks s)) Wait _ (rw ((is-some n.state.held seeking.0).1, seeking.1) refl) e in
          let b = not-first (nat_lt s.next (t.items s.name)) Try _ a try-wait in
          let c = not-first (not (t.parted s.name)) Exhaust _ b.1 exhaust-wait in
          no-bool (not-false-true (t.parted s.name) c.0) (ap t.parted fam.named ∙ sites.1)
  waiting b (leaf own) (with_parts n l r) sites fam bounded seeking e = absurd fam
  waiting b (fork own x y) (alone n) sites fam bounded seeking e =
      let s : State O = n.state in
      let a : _ = after-false (not (seeks s)) Wait _ (rw ((is-some n.state.held seeking.0).1, seeking.1) refl) e in
      let b = not-first (nat_lt s.next (t.items s.name)) Try _ a try-wait in
      let c = not-first (not (t.parted s.name)) Exhaust _ b.1 exhaust-wait in
      let d = not-first (not s.has_split) Split _ c.1 split-wait in
      absurd (no-bool (not-false-true s.has_split d.0) fam.1)
  waiting b (fork own x y) (with_parts n l r) sites fam bounded seeking e =
      let s : State O = n.state in
      let have = is-some s.held seeking.0 in
      let sound : IsSound tree t s have.0 = sound-for tree t s have.0 fam.0.keeps have.1 in
      let plain = fam.1 in
      let how = has-awaited tree t s have.0 sound seeking.1 plain.of_left plain.no_right plain.on_trial e in
      let left = named-at (left_of b) x l fam.2 in
      let right = named-at (right_of b) y r fam.3 in
      elim how.side [
        | inl w ↦
            let k : Slot O = w.1.slot in
            let ok : SlotIsSound tree t s.round s.name s.trial have.0 Left s.left k = sound.left.slots k w.1.is_slot in
            for_left n l r w.0 (
            record {
              slot = k;
              waits = record { holds = seeking.0; unanswered = seeking.1; waits = e; is_side = w.1.is_side; slot = w.1.is_slot; awaited = w.1.unanswered };
              linked = plain.left;
              generation = ok.generation;
              node = ok.node ∙ (ap left_of fam.0.named ∙ sym left.named);
              of_round = ok.of_round ∙ (fam.0.of_round ∙ sym left.of_round);
              same_round = left.of_round ∙ sym fam.0.of_round;
              belongs = ok.belongs;
              plain = record { round = round; site = left_of b; sites = x; are_sites = sites.2; family = fam.2; bounded = bounded.2 };
            }
            )
        | inr w ↦
            let k : Slot O = w.slot in
            let ok : SlotIsSound tree t s.round s.name s.trial have.0 Right s.right k = sound.right.slots k w.is_slot in
            for_right n l r (ap (λ (o : Option (Slot O)). is_some o) w.is_slot) (
            record {
              slot = k;
              waits = record { holds = seeking.0; unanswered = seeking.1; waits = e; is_side = w.is_side; slot = w.is_slot; awaited = w.unanswered };
              linked = plain.right;
              generation = ok.generation;
              node = ok.node ∙ (ap right_of fam.0.named ∙ sym right.named);
              of_round = ok.of_round ∙ (fam.0.of_round ∙ sym right.of_round);
              same_round = right.of_round ∙ sym fam.0.of_round;
              belongs = ok.belongs;
              plain = record { round = round; site = right_of b; sites = y; are_sites = sites.3; family = fam.3; bounded = bounded.3 };
            }
            )
      ]

pub family-waits : {O : Type 0} (tree : O → Tree O) (t : Tree O) (f : Family O) → IsInPlain tree t f → IsSeeking (top f).state → next_move t false (top f).state ≡ Wait → Waiting tree t f
family-waits tree t f plain seeking e = waiting tree t plain.round plain.site plain.sites f plain.are_sites plain.family plain.bounded seeking e

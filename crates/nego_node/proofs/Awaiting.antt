use Rattle.std.proofs.Common.{◌≡◌, ◌≢◌, ◌∙◌, Bool, true, false, not, ◌&&◌, ◌⊎◌, inl, inr, Option, Some, None, is_some, nat_lt, sym, subst, ap, refl, if◌then◌else◌}
use Rattle.std.proofs.lemmas.Bool.{cases_Bool}
use Rattle.nego_laws.specs.Tree.{Tree}
use Rattle.nego_node.specs.Machine.{Slot, State, half, other, generation_of, answered_in, side_of, has_proposal, is_proposal}
use Rattle.nego_node.specs.Sound.{IsSound, IsQuiet, TrialIsSound, IsForTrial}
use Rattle.nego_node.specs.Moves.{seeks, is_exhausted, on_trial_in, is_present, is_spent, next_move, move_without_trial, move_in_trial, move_when_split}
use Rattle.nego_node.specs.declared.tasks.Task.{Task}
use Rattle.nego_node.specs.declared.tasks.Side.{Side}
use Rattle.nego_node.specs.declared.tasks.Side.TheVariants.{Left, Right}
use Rattle.nego_node.specs.declared.answers.Answer.{Answer}
use Rattle.nego_node.specs.declared.answers.Answer.TheVariants.{Proposal, Exhausted}
use Rattle.nego_node.specs.declared.moves.Move.{Move}
use Rattle.nego_node.specs.declared.moves.Move.TheVariants.{Wait, Try, Split, Ask, Adopt, Agree, Forbid, Refuse, Exhaust}
use Rattle.nego_node.proofs.Entailing.{and-both}
use Rattle.nego_node.proofs.Sides.{none-some, half-sound}
use Rattle.nego_node.proofs.StateTests.{not-true, not-false, not-both, is-some, trial-of, trial-none}
use Rattle.nego_node.proofs.Waiting.{at-if, not-not, false-if}

pub waits-or-not : (m : Move) → (m ≡ Wait) ⊎ (m ≢ Wait)
waits-or-not Wait = inl refl
waits-or-not Try = inr (λ e. let k : Try ≡ Wait = e in cc)
waits-or-not Split = inr (λ e. let k : Split ≡ Wait = e in cc)
waits-or-not (Ask side) = inr (λ e. let k : Ask side ≡ Wait = e in cc)
waits-or-not (Adopt side) = inr (λ e. let k : Adopt side ≡ Wait = e in cc)
waits-or-not Agree = inr (λ e. let k : Agree ≡ Wait = e in cc)
waits-or-not Forbid = inr (λ e. let k : Forbid ≡ Wait = e in cc)
waits-or-not Refuse = inr (λ e. let k : Refuse ≡ Wait = e in cc)
waits-or-not Exhaust = inr (λ e. let k : Exhaust ≡ Wait = e in cc)

-- A node that waits for a part has asked it and has no answer of it.
pub record Awaits {O : Type 0} (s : State O) : Type 0 where
  pub side : Side
  pub slot : Slot O
  pub is_slot : (half s side).slot ≡ Some slot
  pub unanswered : slot.answer ≡ None

module _ {O : Type 0} (tree : O → Tree O) (t : Tree O) (s : State O) (task : Task O) (sound : IsSound tree t s task) where
  abbrev WaitsFor : Move → Type 0
  WaitsFor m = m ≡ Wait → Awaits s

  unanswered-of : (a : Option (Answer O)) → is_proposal a ≡ false → is_exhausted a ≡ false → a ≡ None
  unanswered-of None p e = refl
  unanswered-of (Some (Proposal x)) p e = absurd (let k : true ≡ false = p in cc)
  unanswered-of (Some (Exhausted x)) p e = absurd (let k : true ≡ false = e in cc)

  -- a slot that is filled, has no proposal, and is not exhausted
  awaits-at : (side : Side) (k : Slot O) → (half s side).slot ≡ Some k → has_proposal (half s side).slot ≡ false → is_exhausted (answered_in (half s side).slot) ≡ false → Awaits s
  awaits-at side k at p e =
      record {
        side = side;
        slot = k;
        is_slot = at;
        unanswered = unanswered-of k.answer (ap (λ (o : Option (Slot O)). has_proposal o) (sym at) ∙ p) (ap (λ (o : Option (Slot O)). is_exhausted (answered_in o)) (sym at) ∙ e);
      }

  without : s.trial ≡ None → (side : Side) → is_spent (half s side).slot ≡ false → has_proposal (half s side).slot ≡ false → not (is_some (half s side).slot) ≡ false → Awaits s
  without none side unspent p f =
      let w = is-some (half s side).slot (not-not (is_some (half s side).slot) f) in
      let k : Slot O = w.0 in
      let off : on_trial_in (half s side).slot ≡ false =
      ap (λ (o : Option (Slot O)). on_trial_in o) w.1
      ∙ false-if k.on_trial (λ on.
      let q : IsForTrial tree t s.trial task side k = ((half-sound tree t s task sound side).slots k w.1).for_trial on in
      none-some none q.is_trial)
      in
      let ends : Bool = is_exhausted (answered_in (half s side).slot) in
      let on : Bool = on_trial_in (half s side).slot in
      awaits-at side k w.1 p (false-if ends (λ y. not-both (ends && not on) (and-both ends (not on) y (not-false on off)) unspent))

  awaits-without : (eager : Bool) → s.trial ≡ None → WaitsFor (move_without_trial eager s)
  awaits-without eager none =
      at-if WaitsFor (is_spent s.left.slot) Exhaust _ (λ e n. absurd (let k : Exhaust ≡ Wait = n in cc)) (λ l.
      at-if WaitsFor (is_spent s.right.slot) Exhaust _ (λ e n. absurd (let k : Exhaust ≡ Wait = n in cc)) (λ r.
      at-if WaitsFor (has_proposal s.left.slot) (Adopt Left) _ (λ e n. absurd (let k : Adopt Left ≡ Wait = n in cc)) (λ p.
      at-if WaitsFor (has_proposal s.right.slot) (Adopt Right) _ (λ e n. absurd (let k : Adopt Right ≡ Wait = n in cc)) (λ q.
      at-if WaitsFor (not (is_some s.left.slot)) (Ask Left) _ (λ e n. absurd (let k : Ask Left ≡ Wait = n in cc)) (λ f.
      at-if WaitsFor (eager && not (is_some s.right.slot)) (Ask Right) Wait (λ e n. absurd (let k : Ask Right ≡ Wait = n in cc)) (λ g n.
      without none Left l p f))))))

  awaits-in-trial : (a : Side) → side_of s.trial ≡ Some a → WaitsFor (move_in_trial s (other a))
  awaits-in-trial a is =
      let side : Side = other a in
      let here : Bool = is_present (generation_of s.held) (half s side).slot in
      let has : Bool = has_proposal (half s side).slot in
      let ends : Bool = is_exhausted (answered_in (half s side).slot) in
      let on : Bool = on_trial_in (half s side).slot in
      at-if WaitsFor (not (is_some (half s side).slot)) (Ask side) _ (λ e n. absurd (let k : Ask side ≡ Wait = n in cc)) (λ f.
      at-if WaitsFor has (if here then Agree else Refuse) _ (λ e.
      at-if WaitsFor here Agree Refuse (λ h n. absurd (let k : Agree ≡ Wait = n in cc)) (λ h n. absurd (let k : Refuse ≡ Wait = n in cc))) (λ p.
      at-if WaitsFor (ends && on) Forbid Wait (λ h n. absurd (let k : Forbid ≡ Wait = n in cc)) (λ h n.
      let w = is-some (half s side).slot (not-not (is_some (half s side).slot) f) in
      let x = trial-of s.trial a is in
      let tr : TrialIsSound tree t s x.0 = sound.trial x.0 x.1 in
      let kind = tr.other_slot w.0 (subst (λ (y : Side). (half s (other y)).slot ≡ Some w.0) (sym x.2) w.1) in
      awaits-at side w.0 w.1 p
      (elim kind [
        | inl for_trial ↦
            false-if ends (λ y. not-both (ends && on) (and-both ends on y (ap (λ (o : Option (Slot O)). on_trial_in o) w.1 ∙ for_trial)) h)
        | inr proposal ↦ absurd (not-both has (ap (λ (o : Option (Slot O)). has_proposal o) w.1 ∙ proposal) p)
      ]))))

  awaits-split : (eager : Bool) (o : Option Side) → side_of s.trial ≡ o → WaitsFor (move_when_split eager s o)
  awaits-split eager None is = awaits-without eager (trial-none s.trial is)
  awaits-split eager (Some a) is = awaits-in-trial a is

  -- a node that holds an open task waits only for a part
  pub waits-awaits : (eager : Bool) → seeks s ≡ true → WaitsFor (next_move t eager s)
  waits-awaits eager seek =
      at-if WaitsFor (not (seeks s)) Wait _ (λ e n. absurd (not-both (seeks s) seek (not-true (seeks s) e))) (λ e.
      at-if WaitsFor (nat_lt s.next (t.items s.name)) Try _ (λ l n. absurd (let k : Try ≡ Wait = n in cc)) (λ l.
      at-if WaitsFor (not (t.parted s.name)) Exhaust _ (λ p n. absurd (let k : Exhaust ≡ Wait = n in cc)) (λ p.
      at-if WaitsFor (not s.has_split) Split _ (λ h n. absurd (let k : Split ≡ Wait = n in cc)) (λ h.
      awaits-split eager (side_of s.trial) refl))))

  none-in-quiet : IsQuiet tree t s → (side : Side) → (half s side).slot ≡ None
  none-in-quiet quiet Left = quiet.no_left
  none-in-quiet quiet Right = quiet.no_right

  -- what has asked has split
  pub asked-split : (side : Side) (k : Slot O) → (half s side).slot ≡ Some k → s.has_split ≡ true
  asked-split side k at =
      elim (cases_Bool s.has_split) [
        | inl has ↦ has
        | inr unsplit ↦ absurd (none-some (none-in-quiet (sound.quiet (inl unsplit)) side) at)
      ]

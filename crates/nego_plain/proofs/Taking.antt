use Rattle.std.proofs.Common.{◌≡◌, ◌∙◌, ℕ, ◌+◌, ◌-◌, ◌*◌, ◌<◌, ◌≤◌, Bool, true, false, not, ◌&&◌, ◌||◌, ◌⊎◌, inl, inr, Option, Some, None, is_some, nat_eq, List, [], ◌∷◌, ◌++◌, sym, ap, refl, subst, if◌then◌else◌, arith}
use Rattle.std.proofs.lemmas.Bool.{eqb-true}
use Rattle.nego_laws.specs.Tree.{Tree, Laws}
use Rattle.nego_node.specs.Truth.{entails_some}
use Rattle.nego_node.specs.Proposed.{Proposed}
use Rattle.nego_node.specs.Machine.{Slot, Half, Trial, State, half, other, emptied_of, cleared, generation_of, goes_on, is_proposal, resumed, fresh, all_entail_some}
use Rattle.nego_node.specs.Lawful.{MayReceive}
use Rattle.nego_node.specs.Sound.{IsSound, IsQuiet, Belongs, Keeps}
use Rattle.nego_node.specs.Moves.{is_exhausted}
use Rattle.nego_node.specs.declared.tasks.Task.{Task}
use Rattle.nego_node.specs.declared.tasks.Side.{Side}
use Rattle.nego_node.specs.declared.answers.Answer.{Answer}
use Rattle.nego_node.specs.declared.answers.Answer.TheVariants.{Proposal, Exhausted}
use Rattle.nego_node.specs.declared.events.Event.{Event}
use Rattle.nego_node.specs.declared.events.Event.TheVariants.{Received}
use Rattle.nego_node.specs.Board.{BoardNode, with_event}
use Rattle.nego_node.proofs.Sides.{none-some, same-some, emptied-slot, emptied-generation, sound-for}
use Rattle.nego_node.proofs.Entailing.{and-right}
use Rattle.nego_node.proofs.Kept.{kept, after-round, after-name}
use Rattle.nego_plain.specs.Width.{Sites, leaf, fork, width}
use Rattle.nego_plain.specs.Family.{Family, alone, with_parts, top, with_top}
use Rattle.nego_plain.specs.Rest.{one_if, picked, whole, is_current, is_more, left_counts, right_counts, left_pends, right_pends, is_of_now, rank, rest, effort, IsBounded}
use Rattle.nego_plain.specs.Fits.{IsLinked, IsPlain, IsNodeAt, IsFamily}
use Rattle.nego_plain.proofs.Tests.{no-bool, false-if, and-false, current}
use Rattle.nego_plain.proofs.OwnMoves.{picked-same}

-- what a resumed task says of the answer
pub record Resumes {O : Type 0} (t : Tree O) (s : State O) (task : Task O) : Type 0 where
  pub old : Task O
  pub held : s.held ≡ Some old
  pub proposed : Proposed O
  pub answer : s.answer ≡ Some (Proposal proposed)
  pub bans : entails_some t proposed.offer task.ban ≡ true

pub resumes-of : {O : Type 0} (t : Tree O) (s : State O) (task : Task O) → goes_on t s.held s.answer task ≡ true → Resumes t s task
resumes-of t s task h = go s.held s.answer refl refl h
  where
    go : (a : Option (Task _)) (b : Option (Answer _)) → s.held ≡ a → s.answer ≡ b → goes_on t a b task ≡ true → Resumes t s task
    go None b e f h = absurd (no-bool h refl)
    go (Some old) None e f h = absurd (no-bool h refl)
    go (Some old) (Some (Exhausted z)) e f h = absurd (no-bool h refl)
    go (Some old) (Some (Proposal p)) e f h =
        record { old = old; held = e; proposed = p; answer = f; bans = and-right (all_entail_some t old.ban task.ban) _ (and-right (t.same old.given task.given) _ h) }

-- a node with parts that takes a fresh task
module _ {O : Type 0} (t : Tree O) (s : State O) (task : Task O) (l r : State O) (plain : IsPlain t s l r) where
  cleared-none : (h : Half O) → (cleared h).slot ≡ None
  cleared-none h = emptied-slot h

  cleared-link : (h : Half O) (c : State O) → IsLinked h c → IsLinked (cleared h) c
  cleared-link h c link =
      record {
        at_most = omega (arith, link.at_most, emptied-generation h);
        is_older = λ e. older-then h.slot refl;
        same = λ k e f. absurd (none-some (cleared-none h) e);
        answered = λ k a e f. absurd (none-some (cleared-none h) e);
      }
    where
      older-then : (o : Option (Slot O)) → h.slot ≡ o → generation_of c.held < (emptied_of h h.slot).generation
      older-then None e = rw e (link.is_older e)
      older-then (Some k) e = rw e (omega (arith, link.at_most))

  pub fresh-plain : IsPlain t (fresh s task) l r
  fresh-plain =
      record {
        has_split = plain.has_split;
        of_left = λ x e. let f : None ≡ Some x = e in absurd (none-some refl f);
        no_right = λ e. cleared-none s.right;
        on_trial = λ k e. absurd (none-some (cleared-none s.right) e);
        is_known = λ k task' e f. absurd (none-some (cleared-none s.right) e);
        left = cleared-link s.left l plain.left;
        right = cleared-link s.right r plain.right;
        goes_on = λ asks more f e. absurd (no-bool more refl);
      }

  pub fresh-counts : left_counts (fresh s task) l ≡ false
  fresh-counts = ap (λ (o : Option (Slot O)). is_current o l || false) (cleared-none s.left)

  pub fresh-pends : left_pends (fresh s task) l ≡ false
  fresh-pends = ap (λ (o : Option (Slot O)). is_current o l && is_proposal l.answer) (cleared-none s.left)

-- a node with parts that resumes
module _ {O : Type 0} (tree : O → Tree O) (t : Tree O) (s : State O) (task : Task O) (l r : State O) (plain : IsPlain t s l r) (keeps : Keeps tree t s) (may : MayReceive s task) (on : Resumes t s task) where
  sound : IsSound tree t s on.old
  sound = sound-for tree t s on.old keeps on.held

  abbrev s' : State O
  s' = resumed s task

  -- with a trial the right slot has the proposal that the node answered
  pub record IsAgain : Type 0 where
    pub trial : Trial O
    pub is_trial : s.trial ≡ Some trial
    pub slot : Slot O
    pub is_slot : s.right.slot ≡ Some slot
    pub answer : slot.answer ≡ Some (Proposal (record { task = slot.task; offer = on.proposed.offer }))

  its-own : s.answer ≡ Some (Proposal (record { task = on.old; offer = on.proposed.offer }))
  its-own =
      let e : on.proposed.task ≡ on.old = (sound.answer (Proposal on.proposed) on.answer).0 in
      on.answer ∙ ap (λ (z : Task O). Some (Proposal (record { task = z; offer = on.proposed.offer }))) e

  pub how : IsQuiet tree t s ⊎ IsAgain
  how =
      elim (sound.proposal on.proposed.offer its-own) [
        | inl q ↦ inl q.1
        | inr a ↦ inr (
            record {
              trial = a.trial;
              is_trial = a.is_trial;
              slot = a.slot;
              is_slot = ap (λ (y : Side). (half s (other y)).slot) (sym (plain.of_left a.trial a.is_trial)) ∙ a.is_slot;
              answer = a.is_answer;
            }
            )
      ]

  in-trial : (x : Trial O) → s.trial ≡ Some x → IsAgain
  in-trial x e = elim how [ inl q ↦ absurd (none-some q.no_trial e) | inr a ↦ a ]

  left-current : (a : IsAgain) → is_current s.left.slot l ≡ true
  left-current a =
      let w = sound.trial a.trial a.is_trial in
      let at : s.left.slot ≡ Some w.slot = ap (λ (y : Side). (half s y).slot) (sym (plain.of_left a.trial a.is_trial)) ∙ w.is_slot in
      current s.left.slot w.slot l at (plain.left.answered w.slot _ at w.is_answer).0

  right-current : (a : IsAgain) → is_current s.right.slot r ≡ true
  right-current a = current s.right.slot a.slot r a.is_slot (plain.right.answered a.slot _ a.is_slot a.answer).0

  stale : (a : IsAgain) → is_of_now task.generation s.right.slot ≡ false
  stale a =
      let less : a.slot.asked ≤ on.old.generation = (sound.right.slots a.slot a.is_slot).asked in
      let newer : on.old.generation < task.generation = subst (λ (o : Option (Task O)). generation_of o < task.generation) on.held may.is_newer in
      rw a.is_slot (false-if (nat_eq a.slot.asked task.generation) (λ h. let e : a.slot.asked ≡ task.generation = eqb-true a.slot.asked task.generation h in omega (arith, e, less, newer)))

  pub resumed-plain : IsPlain t s' l r
  resumed-plain =
      record {
        has_split = plain.has_split;
        of_left = plain.of_left;
        no_right = plain.no_right;
        on_trial = plain.on_trial;
        is_known = λ k task' e f.
            elim how [
              | inl q ↦ absurd (none-some q.no_right e)
              | inr a ↦
                  let same : task ≡ task' = same-some refl f in
                  let same_slot : a.slot ≡ k = same-some a.is_slot e in
                  inr (refl, record { task = a.slot.task; offer = on.proposed.offer }, ap (λ (z : Slot O). z.answer) (sym same_slot) ∙ a.answer, subst (λ (z : Task O). entails_some t on.proposed.offer z.ban ≡ true) same on.bans)
            ];
        left = plain.left;
        right = plain.right;
        goes_on = λ asks more f e.
            elim how [
              | inl q ↦ absurd (no-bool more (ap (λ (xs : List O). is_more xs) q.none_left))
              | inr a ↦ absurd (no-bool (left-current a) f)
            ];
      }

  not-exhausted : is_exhausted s.answer ≡ false
  not-exhausted = rw on.answer refl

  pub resumed-rank : rank s' l r ≡ rank s l r
  resumed-rank =
      elim how [
        | inl q ↦ rw (on.answer, q.no_trial) refl
        | inr a ↦ rw (on.answer, a.is_trial, stale a) refl
      ]

  pub resumed-right : (x : Trial O) → s.trial ≡ Some x → (right_counts t s' r ≡ right_counts t s r) × (right_pends s' r ≡ right_pends s r)
  resumed-right x e =
      let a = in-trial x e in
      let cur = right-current a in
      let first : right_pends s' r ≡ false = and-false (is_of_now task.generation s.right.slot) _ (stale a) in
      let second : right_pends s r ≡ false = and-false (not (is_some s.answer)) _ (rw on.answer refl) in
      (rw cur refl, first ∙ sym second)

-- a family whose top takes a task
pub record Takes {O : Type 0} (m : ℕ) (tree : O → Tree O) (t : Tree O) (round b : ℕ) (sh : Sites) (f : Family O) (task : Task O) (f' : Family O) : Type 0 where
  pub family : IsFamily tree t round b sh f'
  pub bounded : IsBounded t sh f'
  pub held : (top f').state.held ≡ Some task
  pub answer : (top f').state.answer ≡ None
  pub kept : goes_on t (top f).state.held (top f).state.answer task ≡ true → (rest t sh f' ≤ rest t sh f) × (effort m t sh f' ≤ effort m t sh f)

module _ {O : Type 0} (m : ℕ) (tree : O → Tree O) (t : Tree O) (laws : Laws t (λ s. tree s ≡ t)) (round : ℕ) where
  pub node-after-event : (b : ℕ) (n : BoardNode O) (task : Task O) → IsNodeAt tree t round b n → MayReceive n.state task → Belongs tree t task → IsNodeAt tree t round b (with_event t (Received task) n)
  node-after-event b n task node may belongs =
      record {
        named = after-name t n.state (Received task) ∙ node.named;
        of_round = after-round t n.state (Received task) ∙ node.of_round;
        keeps = kept tree t laws n.state (Received task) node.keeps may belongs;
      }

  -- what a family without parts keeps of its own
  leaf-kept : (own next : ℕ) (a : Option (Answer O)) → is_exhausted a ≡ false → own - next + (if is_exhausted {O = O} None then 0 else m) ≤ own - next + (if is_exhausted a then 0 else m)
  leaf-kept own next a e = rw e (omega arith)

  resumed-family : (b : ℕ) (sh : Sites) (f : Family O) (task : Task O) (h : List (Event O)) → goes_on t (top f).state.held (top f).state.answer task ≡ true → IsFamily tree t round b sh f → IsBounded t sh f → MayReceive (top f).state task → IsNodeAt tree t round b (record { state = resumed (top f).state task; history = h }) → Takes m tree t round b sh f task (with_top f (record { state = resumed (top f).state task; history = h }))
  resumed-family b (leaf own) (alone n) task h e family bounded may node =
      let on = resumes-of t n.state task e in
      record { family = node; bounded = tt; held = refl; answer = refl; kept = λ _. (omega arith, leaf-kept own n.state.next n.state.answer (rw on.answer refl)) }
  resumed-family b (leaf own) (with_parts n l r) task h e family bounded may node = absurd family
  resumed-family b (fork own x y) (alone n) task h e family bounded may node =
      record { family = (node, family.1); bounded = tt; held = refl; answer = refl; kept = λ _. (omega arith, omega arith) }
  resumed-family b (fork own x y) (with_parts n l r) task h e family bounded may node =
      let s : State O = n.state in
      let on = resumes-of t s task e in
      let cl : State O = (top l).state in
      let cr : State O = (top r).state in
      let s' : State O = resumed s task in
      let same-rank : rank s' cl cr ≡ rank s cl cr = resumed-rank tree t s task cl cr family.1 family.0.keeps may on in
      let rights : (z : Trial O) → s.trial ≡ Some z → (right_counts t s' cr ≡ right_counts t s cr) × (right_pends s' cr ≡ right_pends s cr) = resumed-right tree t s task cl cr family.1 family.0.keeps may on in
      let y1 : ℕ = picked (right_counts t s cr) (rest t y r) (width y) + one_if (right_pends s cr) in
      let y2 : ℕ = picked (right_counts t s' cr) (rest t y r) (width y) + one_if (right_pends s' cr) in
      let q1 : ℕ = picked (right_counts t s cr) (effort m t y r) (whole m y) in
      let q2 : ℕ = picked (right_counts t s' cr) (effort m t y r) (whole m y) in
      let ys : (z : Trial O) → s.trial ≡ Some z → y2 ≡ y1 = λ z f. picked-same _ _ _ _ (rest t y r) (width y) (rights z f).0 (rights z f).1 in
      let qs : (z : Trial O) → s.trial ≡ Some z → q2 ≡ q1 = λ z f. ap (λ (b : Bool). picked b (effort m t y r) (whole m y)) (rights z f).0 in
      let ye : picked (is_some s.trial) y2 0 ≡ picked (is_some s.trial) y1 0 = in-trial-same s.trial y2 y1 ys in
      let qe : picked (is_some s.trial) (q2 + m * (5 * y2)) 0 ≡ picked (is_some s.trial) (q1 + m * (5 * y1)) 0 = in-trial-same s.trial _ _ (λ z f. rw (ys z f, qs z f) refl) in
      record {
        family = (node, resumed-plain tree t s task cl cr family.1 family.0.keeps may on, family.2, family.3);
        bounded = (bounded.0, omega (arith, ye, bounded.1), bounded.2, bounded.3);
        held = refl;
        answer = refl;
        kept = λ _. (omega (arith, ye), rw same-rank (omega (arith, qe)));
      }
    where
      in-trial-same : (o : Option (Trial O)) (v w : ℕ) → ((z : Trial O) → o ≡ Some z → v ≡ w) → picked (is_some o) v 0 ≡ picked (is_some o) w 0
      in-trial-same None v w f = refl
      in-trial-same (Some z) v w f = f z refl

  fresh-family : (b : ℕ) (sh : Sites) (f : Family O) (task : Task O) (h : List (Event O)) → goes_on t (top f).state.held (top f).state.answer task ≡ false → IsFamily tree t round b sh f → IsBounded t sh f → IsNodeAt tree t round b (record { state = fresh (top f).state task; history = h }) → Takes m tree t round b sh f task (with_top f (record { state = fresh (top f).state task; history = h }))
  fresh-family b (leaf own) (alone n) task h e family bounded node =
      record { family = node; bounded = tt; held = refl; answer = refl; kept = λ g. absurd (no-bool g e) }
  fresh-family b (leaf own) (with_parts n l r) task h e family bounded node = absurd family
  fresh-family b (fork own x y) (alone n) task h e family bounded node =
      record { family = (node, family.1); bounded = tt; held = refl; answer = refl; kept = λ g. absurd (no-bool g e) }
  fresh-family b (fork own x y) (with_parts n l r) task h e family bounded node =
      let s : State O = n.state in
      let cl : State O = (top l).state in
      let cr : State O = (top r).state in
      record {
        family = (node, fresh-plain t s task cl cr family.1, family.2, family.3);
        bounded = (rw (fresh-counts t s task cl cr family.1, fresh-pends t s task cl cr family.1) (omega arith), omega arith, bounded.2, bounded.3);
        held = refl;
        answer = refl;
        kept = λ g. absurd (no-bool g e);
      }

  -- whichever it is
  by-state : (b : ℕ) (sh : Sites) (f : Family O) (task : Task O) (h : List (Event O)) (on : Bool) → goes_on t (top f).state.held (top f).state.answer task ≡ on → IsFamily tree t round b sh f → IsBounded t sh f → MayReceive (top f).state task → IsNodeAt tree t round b (record { state = if on then resumed (top f).state task else fresh (top f).state task; history = h }) → Takes m tree t round b sh f task (with_top f (record { state = if on then resumed (top f).state task else fresh (top f).state task; history = h }))
  by-state b sh f task h true e family bounded may node = resumed-family b sh f task h e family bounded may node
  by-state b sh f task h false e family bounded may node = fresh-family b sh f task h e family bounded node

  top-at : (b : ℕ) (sh : Sites) (f : Family O) → IsFamily tree t round b sh f → IsNodeAt tree t round b (top f)
  top-at b (leaf own) (alone n) family = family
  top-at b (leaf own) (with_parts n l r) family = absurd family
  top-at b (fork own x y) (alone n) family = family.0
  top-at b (fork own x y) (with_parts n l r) family = family.0

  pub takes : (b : ℕ) (sh : Sites) (f : Family O) (task : Task O) → IsFamily tree t round b sh f → IsBounded t sh f → MayReceive (top f).state task → Belongs tree t task → Takes m tree t round b sh f task (with_top f (with_event t (Received task) (top f)))
  takes b sh f task family bounded may belongs =
      by-state b sh f task ((top f).history ++ Received task ∷ []) (goes_on t (top f).state.held (top f).state.answer task) refl family bounded may (node-after-event b (top f) task (top-at b sh f family) may belongs)

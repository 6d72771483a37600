use Rattle.std.proofs.Common.{◌≡◌, ◌≢◌, ◌∙◌, ℕ, ◌+◌, ◌-◌, ◌<◌, ◌≤◌, Bool, true, false, inl, inr, Option, Some, None, List, [], ◌∷◌, ◌++◌, sym, ap, refl, subst, if◌then◌else◌, arith, IsSome}
use Rattle.nego_laws.specs.Tree.{Tree, Laws, left_of, right_of}
use Rattle.nego_node.specs.Machine.{Slot, Half, State, half, is_proposal, after, giving_up, posted_in, beginning}
use Rattle.nego_node.specs.Lawful.{Lawful, MaySplit, MayReceive, MayPost}
use Rattle.nego_node.specs.Sound.{IsSound, IsQuiet, IsTrueEvent, IsTrueAnswer}
use Rattle.nego_node.specs.Moves.{is_exhausted, next_move, IsOf}
use Rattle.nego_node.specs.declared.tasks.Task.{Task}
use Rattle.nego_node.specs.declared.tasks.Side.{Side}
use Rattle.nego_node.specs.declared.tasks.Side.TheVariants.{Left, Right}
use Rattle.nego_node.specs.declared.answers.Answer.{Answer}
use Rattle.nego_node.specs.declared.answers.Answer.TheVariants.{Exhausted}
use Rattle.nego_node.specs.declared.events.Event.{Event}
use Rattle.nego_node.specs.declared.events.Event.TheVariants as event
use Rattle.nego_node.specs.declared.moves.Move.{Move}
use Rattle.nego_node.specs.declared.moves.Move.TheVariants.{Split}
use Rattle.nego_node.specs.Board.{BoardNode, opened, with_event}
use Rattle.nego_node.proofs.Sides.{none-some, sound-for}
use Rattle.nego_node.proofs.StateTests.{is-some}
use Rattle.nego_node.proofs.KeptTrials.{has-split}
use Rattle.nego_node.proofs.Kept.{kept, after-round, after-name}
use Rattle.nego_plain.specs.Width.{Sites, leaf, fork, width, IsSites}
use Rattle.nego_plain.specs.PlainOrder.{WaitsFor}
use Rattle.nego_plain.specs.Family.{Family, alone, with_parts, top, with_top, Steps, moves, splits, takes_left, takes_right, posts_left, posts_right, below_left, below_right}
use Rattle.nego_plain.specs.Rest.{one_if, whole, cost, is_more, rest, effort, IsBounded}
use Rattle.nego_plain.specs.Fits.{IsLinked, IsNodeAt, IsFamily}
use Rattle.nego_plain.proofs.Tests.{no-bool}
use Rattle.nego_plain.proofs.Within.{within}
use Rattle.nego_plain.proofs.Taking.{Takes, takes}
use Rattle.nego_plain.proofs.TrialEnds.{takes-left-answer, takes-right-answer}
use Rattle.nego_plain.proofs.PartMoves.{PartsLower, left-takes, left-works, right-takes, right-works}
use Rattle.nego_plain.proofs.OwnMoves.{Lowers}
use Rattle.nego_plain.proofs.OwnEvents.{own-received, own-posted, own-split, own-event, tries-so}

-- what one event of the plain order does to a family
pub record Falls {O : Type 0} (m : ℕ) (tree : O → Tree O) (t : Tree O) (round b : ℕ) (sh : Sites) (f : Family O) (e : Event O) (f' : Family O) : Type 0 where
  pub family : IsFamily tree t round b sh f'
  pub bounded : IsBounded t sh f'
  pub held : (top f').state.held ≡ (top f).state.held
  pub rest : rest t sh f' + one_if (is_proposal (top f').state.answer) ≤ rest t sh f
  pub effort : effort m t sh f' + cost m e ≤ effort m t sh f

one-at-most : (b : Bool) → one_if b ≤ 1
one-at-most true = omega arith
one-at-most false = omega arith

no-more : {O : Type 0} (a : Option (Answer O)) → a ≡ None → one_if (is_proposal a) ≡ 0
no-more a e = rw e refl

module _ {O : Type 0} (m : ℕ) (tree : O → Tree O) (t : Tree O) (laws : Laws t (λ s. tree s ≡ t)) (round : ℕ) where
  own-truth : (step : Move) (e : Event O) → IsOf step e → IsTrueEvent tree t e
  own-truth step (event.Received z) is = absurd (own-received step z is)
  own-truth step (event.Tried item x) is = tt
  own-truth step event.Split is = tt
  own-truth step (event.Asked side z) is = tt
  own-truth step (event.Posted side a) is = absurd (own-posted step side a is)
  own-truth step (event.Adopted side g x) is = tt
  own-truth step (event.Agreed side g x) is = tt
  own-truth step (event.Forbidden side g x) is = tt
  own-truth step (event.Refused side g) is = tt
  own-truth step event.Exhausted is = tt

  node-after : (b : ℕ) (n : BoardNode O) (e : Event O) → IsNodeAt tree t round b n → Lawful tree t n.state e → IsTrueEvent tree t e → IsNodeAt tree t round b (with_event t e n)
  node-after b n e node lawful truth =
      record {
        named = after-name t n.state e ∙ node.named;
        of_round = after-round t n.state e ∙ node.of_round;
        keeps = kept tree t laws n.state e node.keeps lawful truth;
      }

  -- a node without parts
  module _ (b own : ℕ) (n : BoardNode O) (node : IsNodeAt tree t round b n) (items : t.items b ≡ own) (holds : IsSome n.state.held) (unsplit : n.state.has_split ≡ true → ⊥) where
    abbrev pub task : Task O
    task = (is-some n.state.held holds).0

    its-held : n.state.held ≡ Some task
    its-held = (is-some n.state.held holds).1

    its-sound : IsSound tree t n.state task
    its-sound = sound-for tree t n.state task node.keeps its-held

    no-slot : (side : Side) (k : Slot O) → (half n.state side).slot ≡ Some k → ⊥
    no-slot side k e = unsplit (has-split tree t n.state task its-sound side k e)

    -- the event tries an item, or gives up where there are no parts
    pub data OwnAlone : Event O → Type 0 where
      tried : {e : Event O} (a : Option (Answer O)) → n.state.next < own → is_exhausted a ≡ false → n.state.answer ≡ None → after t n.state e ≡ record n.state { next = n.state.next + 1; answer = a } → cost m e ≡ 1 → OwnAlone e
      gave_up : {e : Event O} → t.parted b ≡ false → n.state.answer ≡ None → after t n.state e ≡ record n.state { answer = Some (Exhausted task) } → cost m e ≡ m → OwnAlone e

    pub alone-event : (step : Move) (e : Event O) → step ≢ Split → IsOf step e → Lawful tree t n.state e → OwnAlone e
    alone-event step (event.Received z) not_split is lawful = absurd (own-received step z is)
    alone-event step (event.Tried item x) not_split is lawful =
        let how = tries-so n.state task x its-held lawful.seeks.unanswered in
        let less : n.state.next < t.items n.state.name = subst (λ (i : ℕ). i < t.items n.state.name) lawful.is_next lawful.exists in
        tried how.answer (subst (λ (i : ℕ). n.state.next < i) (ap t.items node.named ∙ items) less) how.lives lawful.seeks.unanswered how.is refl
    alone-event step event.Split not_split is lawful = absurd (not_split (own-split O step is))
    alone-event step (event.Asked side z) not_split is lawful = absurd (unsplit lawful.has_split)
    alone-event step (event.Posted side a) not_split is lawful = absurd (own-posted step side a is)
    alone-event step (event.Adopted side g x) not_split is lawful = absurd (no-slot side lawful.slot lawful.has.slot)
    alone-event step (event.Agreed side g x) not_split is lawful = absurd (no-slot side lawful.slot lawful.has.slot)
    alone-event step (event.Forbidden side g x) not_split is lawful = absurd (no-slot _ lawful.slot lawful.has.slot)
    alone-event step (event.Refused side g) not_split is lawful = absurd (no-slot side lawful.slot lawful.has.slot)
    alone-event step event.Exhausted not_split is lawful =
        let e : giving_up n.state n.state.held ≡ record n.state { answer = Some (Exhausted task) } = ap (λ (h : Option (Task O)). giving_up n.state h) its-held in
        elim lawful.why [
          | inl p ↦ gave_up (subst (λ (c : ℕ). t.parted c ≡ false) node.named p) lawful.seeks.seeks.unanswered e refl
          | inr spent ↦ absurd (no-slot spent.side spent.slot spent.has.slot)
        ]

  leaf-falls : (b own : ℕ) (n : BoardNode O) (e : Event O) (s' : State O) (h : List (Event O)) → IsNodeAt tree t round b (record { state = s'; history = h }) → s'.held ≡ n.state.held → (own - s'.next + one_if (is_proposal s'.answer) ≤ own - n.state.next) → (own - s'.next + (if is_exhausted s'.answer then 0 else m) + cost m e ≤ own - n.state.next + (if is_exhausted n.state.answer then 0 else m)) → Falls m tree t round b (leaf own) (alone n) e (alone (record { state = s'; history = h }))
  leaf-falls b own n e s' h node held less fall = record { family = node; bounded = tt; held = held; rest = less; effort = fall }

  leaf-moves : (b own : ℕ) (n : BoardNode O) (step : Move) (e : Event O) → t.items b ≡ own → t.parted b ≡ false → IsNodeAt tree t round b n → IsSome n.state.held → step ≢ Split → IsOf step e → Lawful tree t n.state e → Falls m tree t round b (leaf own) (alone n) e (alone (with_event t e n))
  leaf-moves b own n step e items parted node holds not_split is lawful =
      let after-it = node-after b n e node lawful (own-truth step e is) in
      go (alone-event b own n node items holds unsplit step e not_split is lawful) after-it
    where
      unsplit : n.state.has_split ≡ true → ⊥
      unsplit h =
          let have = is-some n.state.held holds in
          no-bool ((sound-for tree t n.state have.0 node.keeps have.1).split h) (ap t.parted node.named ∙ parted)

      go : OwnAlone b own n node items holds unsplit e → IsNodeAt tree t round b (with_event t e n) → Falls m tree t round b (leaf own) (alone n) e (alone (with_event t e n))
      go (tried a less lives none same costs) at =
          subst (λ (z : State O). IsNodeAt tree t round b (record { state = z; history = n.history ++ e ∷ [] }) → Falls m tree t round b (leaf own) (alone n) e (alone (record { state = z; history = n.history ++ e ∷ [] }))) (sym same)
          (λ node'. leaf-falls b own n e _ _ node' refl (omega (arith, less, one-at-most (is_proposal a))) (rw (lives, none, costs) (omega (arith, less)))) at
      go (gave_up no_parts none same costs) at =
          subst (λ (z : State O). IsNodeAt tree t round b (record { state = z; history = n.history ++ e ∷ [] }) → Falls m tree t round b (leaf own) (alone n) e (alone (record { state = z; history = n.history ++ e ∷ [] }))) (sym same)
          (λ node'. leaf-falls b own n e _ _ node' refl (omega arith) (rw (none, costs) (omega arith))) at

  fork-moves : (b own : ℕ) (x y : Sites) (n : BoardNode O) (step : Move) (e : Event O) → t.items b ≡ own → t.parted b ≡ true → IsNodeAt tree t round b n → n.state.has_split ≡ false → IsSome n.state.held → step ≢ Split → IsOf step e → Lawful tree t n.state e → Falls m tree t round b (fork own x y) (alone n) e (alone (with_event t e n))
  fork-moves b own x y n step e items parted node not_yet holds not_split is lawful =
      let after-it = node-after b n e node lawful (own-truth step e is) in
      go (alone-event b own n node items holds (λ h. no-bool h not_yet) step e not_split is lawful) after-it
    where
      go : OwnAlone b own n node items holds (λ h. no-bool h not_yet) e → IsNodeAt tree t round b (with_event t e n) → Falls m tree t round b (fork own x y) (alone n) e (alone (with_event t e n))
      go (tried a less lives none same costs) at =
          subst (λ (z : State O). IsNodeAt tree t round b (record { state = z; history = n.history ++ e ∷ [] }) → Falls m tree t round b (fork own x y) (alone n) e (alone (record { state = z; history = n.history ++ e ∷ [] }))) (sym same)
          (λ node'. record { family = (node', not_yet); bounded = tt; held = refl; rest = omega (arith, less, one-at-most (is_proposal a)); effort = rw costs (omega (arith, less)) }) at
      go (gave_up no_parts none same costs) at = absurd (no-bool parted no_parts)

  -- a node that splits
  split-falls : (b own : ℕ) (x y : Sites) (n : BoardNode O) → t.parted b ≡ true → IsNodeAt tree t round b n → MaySplit t n.state → Falls m tree t round b (fork own x y) (alone n) event.Split (with_parts (with_event t event.Split n) (alone (opened round (left_of n.state.name))) (alone (opened round (right_of n.state.name))))
  split-falls b own x y n parted node may =
      let s : State O = n.state in
      let task : Task O = may.task in
      let sound : IsSound tree t s task = sound-for tree t s task node.keeps may.seeks.seeks.held in
      let q : IsQuiet tree t s = sound.quiet (inl may.not_yet) in
      let none : s.answer ≡ None = may.seeks.seeks.unanswered in
      record {
        family = (
          node-after b n event.Split node may tt,
          record {
            has_split = refl;
            of_left = λ z e. absurd (none-some q.no_trial e);
            no_right = λ e. q.no_right;
            on_trial = λ k e. absurd (none-some q.no_right e);
            is_known = λ k z e f. absurd (none-some q.no_right e);
            left = new-link s.left (left_of s.name) q.no_left sound.left.generation;
            right = new-link s.right (right_of s.name) q.no_right sound.right.generation;
            goes_on = λ z more f e. absurd (no-bool more (ap (λ (xs : List O). is_more xs) q.none_left));
          },
          new-family (left_of b) (left_of s.name) x (ap left_of node.named),
          new-family (right_of b) (right_of s.name) y (ap right_of node.named),
        );
        bounded = (rw (q.no_trial, q.no_left, q.none_left) (omega arith), rw q.no_trial (omega arith), new-bound x (left_of s.name), new-bound y (right_of s.name));
        held = refl;
        rest = rw (q.no_trial, q.no_left, q.none_left, none) (omega arith);
        effort = rw (q.no_trial, q.no_left, q.none_left, none) (omega arith);
      }
    where
      new-link : (h : Half O) (c : ℕ) → h.slot ≡ None → 1 ≤ h.generation → IsLinked h (beginning round c)
      new-link h c none least =
          record {
            at_most = omega arith;
            is_older = λ e. omega (arith, least);
            same = λ k e f. absurd (none-some none e);
            answered = λ k a e f. absurd (none-some none e);
          }

      new-family : (c d : ℕ) (sh : Sites) → d ≡ c → IsFamily tree t round c sh (alone (opened round d))
      new-family c d (leaf own') e = record { named = e; of_round = refl; keeps = inl refl }
      new-family c d (fork own' x' y') e = (record { named = e; of_round = refl; keeps = inl refl }, refl)

      new-bound : (sh : Sites) (d : ℕ) → IsBounded t sh (alone (opened round d))
      new-bound (leaf own') d = tt
      new-bound (fork own' x' y') d = tt

  top-at : (b : ℕ) (sh : Sites) (f : Family O) → IsFamily tree t round b sh f → IsNodeAt tree t round b (top f)
  top-at b (leaf own) (alone n) family = family
  top-at b (leaf own) (with_parts n l r) family = absurd family
  top-at b (fork own x y) (alone n) family = family.0
  top-at b (fork own x y) (with_parts n l r) family = family.0

  -- what a part answers is true
  part-truth : (b : ℕ) (sh : Sites) (f : Family O) (task : Task O) (a : Answer O) → IsFamily tree t round b sh f → (top f).state.held ≡ Some task → (top f).state.answer ≡ Some a → IsTrueAnswer tree t a
  part-truth b sh f task a family held said = ((sound-for tree t (top f).state task (top-at b sh f family).keeps held).answer a said).1

  -- a node with parts
  module _ (b own : ℕ) (x y : Sites) (n : BoardNode O) (l r : Family O) (sites : IsSites t b (fork own x y)) (family : IsFamily tree t round b (fork own x y) (with_parts n l r)) (bounded : IsBounded t (fork own x y) (with_parts n l r)) where
    abbrev Fall : Event O → Family O → Type 0
    Fall e f' = Falls m tree t round b (fork own x y) (with_parts n l r) e f'

    sound-now : (task : Task O) → n.state.held ≡ Some task → IsSound tree t n.state task
    sound-now task held = sound-for tree t n.state task family.0.keeps held

    parts-move : (step : Move) (e : Event O) → IsSome n.state.held → next_move t false n.state ≡ step → step ≢ Split → IsOf step e → Lawful tree t n.state e → Fall e (with_parts (with_event t e n) l r)
    parts-move step e holds next not_split is lawful =
        let have = is-some n.state.held holds in
        let right = within m t y r bounded.3 in
        let low = own-event tree t laws n.state have.0 (sound-now have.0 have.1) (top l).state (top r).state family.1 m own (width x) (width y) (whole m x) (whole m y) (rest t x l) (rest t y r) (effort m t x l) (effort m t y r) bounded.0 bounded.1 step e next not_split is (sym sites.0 ∙ sym (ap t.items family.0.named)) (ap t.parted family.0.named ∙ sites.1) right.0 right.1 lawful in
        record {
          family = (node-after b n e family.0 lawful (own-truth step e is), low.0.plain, family.2, family.3);
          bounded = (low.0.left_bound, low.0.right_bound, bounded.2, bounded.3);
          held = low.1;
          rest = low.0.rest;
          effort = low.0.effort;
        }

    left-move : (k : Slot O) (l' : Family O) (c : ℕ) (e : Event O) → cost m e ≡ c → n.state.answer ≡ None → IsFamily tree t round (left_of b) x l' → IsBounded t x l' → PartsLower t n.state (top l).state (top r).state (top l').state (top r).state m own (width x) (width y) (whole m x) (whole m y) (rest t x l) (rest t y r) (effort m t x l) (effort m t y r) (rest t x l') (rest t y r) (effort m t x l') (effort m t y r) c → Fall e (with_parts n l' r)
    left-move k l' c e same none fl bl low =
        record {
          family = (family.0, low.plain, fl, family.3);
          bounded = (low.left_bound, low.right_bound, bl, bounded.3);
          held = refl;
          rest = omega (arith, low.rest, no-more n.state.answer none);
          effort = rw same low.effort;
        }

    right-move : (k : Slot O) (r' : Family O) (c : ℕ) (e : Event O) → cost m e ≡ c → n.state.answer ≡ None → IsFamily tree t round (right_of b) y r' → IsBounded t y r' → PartsLower t n.state (top l).state (top r).state (top l).state (top r').state m own (width x) (width y) (whole m x) (whole m y) (rest t x l) (rest t y r) (effort m t x l) (effort m t y r) (rest t x l) (rest t y r') (effort m t x l) (effort m t y r') c → Fall e (with_parts n l r')
    right-move k r' c e same none fr br low =
        record {
          family = (family.0, low.plain, family.2, fr);
          bounded = (low.left_bound, low.right_bound, bounded.2, br);
          held = refl;
          rest = omega (arith, low.rest, no-more n.state.answer none);
          effort = rw same low.effort;
        }

    left-taking : (k : Slot O) → WaitsFor t n.state Left k → (top l).state.held ≢ Some k.task → MayReceive (top l).state k.task → Fall (event.Received k.task) (with_parts n (with_top l (with_event t (event.Received k.task) (top l))) r)
    left-taking k waits differs may =
        let have = is-some n.state.held waits.holds in
        let sound = sound-now have.0 have.1 in
        let l' : Family O = with_top l (with_event t (event.Received k.task) (top l)) in
        let got : Takes m tree t round (left_of b) x l k.task l' = takes m tree t laws round (left_of b) x l k.task family.2 bounded.2 may (sound.left.slots k waits.slot).belongs in
        let full = within m t x l' got.bounded in
        left-move k l' m (event.Received k.task) refl waits.unanswered got.family got.bounded
        (left-takes tree t n.state have.0 sound (top l).state (top r).state family.1 m own (width x) (width y) (whole m x) (whole m y) (rest t x l) (rest t y r) (effort m t x l) (effort m t y r) bounded.0 bounded.1 k (top l').state (rest t x l') (effort m t x l') waits.unanswered waits.slot waits.awaited differs got.held got.answer full.0 full.1 got.kept)

    right-taking : (k : Slot O) → WaitsFor t n.state Right k → (top r).state.held ≢ Some k.task → MayReceive (top r).state k.task → Fall (event.Received k.task) (with_parts n l (with_top r (with_event t (event.Received k.task) (top r))))
    right-taking k waits differs may =
        let have = is-some n.state.held waits.holds in
        let sound = sound-now have.0 have.1 in
        let r' : Family O = with_top r (with_event t (event.Received k.task) (top r)) in
        let got : Takes m tree t round (right_of b) y r k.task r' = takes m tree t laws round (right_of b) y r k.task family.3 bounded.3 may (sound.right.slots k waits.slot).belongs in
        let full = within m t y r' got.bounded in
        right-move k r' m (event.Received k.task) refl waits.unanswered got.family got.bounded
        (right-takes tree t n.state have.0 sound (top l).state (top r).state family.1 m own (width x) (width y) (whole m x) (whole m y) (rest t x l) (rest t y r) (effort m t x l) (effort m t y r) bounded.0 bounded.1 k (top r').state (rest t y r') (effort m t y r') waits.unanswered waits.slot waits.awaited differs got.held got.answer full.0 full.1 got.kept)

    left-working : (k : Slot O) (l' : Family O) (e : Event O) → WaitsFor t n.state Left k → (top l).state.held ≡ Some k.task → (top l).state.answer ≡ None → Falls m tree t round (left_of b) x l e l' → Fall e (with_parts n l' r)
    left-working k l' e waits held quiet fell =
        let have = is-some n.state.held waits.holds in
        left-move k l' (cost m e) e refl waits.unanswered fell.family fell.bounded
        (left-works tree t n.state have.0 (sound-now have.0 have.1) (top l).state (top r).state family.1 m own (width x) (width y) (whole m x) (whole m y) (rest t x l) (rest t y r) (effort m t x l) (effort m t y r) bounded.0 bounded.1 k (top l').state (cost m e) (rest t x l') (effort m t x l') waits.unanswered waits.slot waits.awaited held quiet fell.held fell.rest fell.effort)

    right-working : (k : Slot O) (r' : Family O) (e : Event O) → WaitsFor t n.state Right k → (top r).state.held ≡ Some k.task → (top r).state.answer ≡ None → Falls m tree t round (right_of b) y r e r' → Fall e (with_parts n l r')
    right-working k r' e waits held quiet fell =
        let have = is-some n.state.held waits.holds in
        right-move k r' (cost m e) e refl waits.unanswered fell.family fell.bounded
        (right-works tree t n.state have.0 (sound-now have.0 have.1) (top l).state (top r).state family.1 m own (width x) (width y) (whole m x) (whole m y) (rest t x l) (rest t y r) (effort m t x l) (effort m t y r) bounded.0 bounded.1 k (top r').state (cost m e) (rest t y r') (effort m t y r') waits.unanswered waits.slot waits.awaited held quiet fell.held fell.rest fell.effort)

    posted : (side : Side) (a : Answer O) (s' : State O) → after t n.state (event.Posted side a) ≡ s' → s'.answer ≡ None → s'.held ≡ n.state.held → MayPost n.state side a → IsTrueAnswer tree t a → Lowers t (top l).state (top r).state m own (width x) (width y) (whole m x) (whole m y) (rest t x l) (rest t y r) (effort m t x l) (effort m t y r) 0 m n.state s' → Fall (event.Posted side a) (with_parts (with_event t (event.Posted side a) n) l r)
    posted side a s' same none held may truth low =
        subst (λ (z : State O). IsNodeAt tree t round b (record { state = z; history = n.history ++ event.Posted side a ∷ [] }) → Fall (event.Posted side a) (with_parts (record { state = z; history = n.history ++ event.Posted side a ∷ [] }) l r)) (sym same)
        (λ at.
        record {
          family = (at, low.plain, family.2, family.3);
          bounded = (low.left_bound, low.right_bound, bounded.2, bounded.3);
          held = held;
          rest = omega (arith, low.rest, no-more s'.answer none);
          effort = low.effort;
        })
        (node-after b n (event.Posted side a) family.0 may truth)

    left-posting : (k : Slot O) (a : Answer O) → WaitsFor t n.state Left k → (top l).state.held ≡ Some k.task → (top l).state.answer ≡ Some a → MayPost n.state Left a → Fall (event.Posted Left a) (with_parts (with_event t (event.Posted Left a) n) l r)
    left-posting k a waits held said may =
        let have = is-some n.state.held waits.holds in
        let s : State O = n.state in
        let s' : State O = record s { left = record s.left { slot = Some (record k { answer = Some a }) } } in
        posted Left a s' (ap (λ (o : Option (Slot O)). record s { left = posted_in s.left o a }) waits.slot) waits.unanswered refl may (part-truth (left_of b) x l k.task a family.2 held said)
        (takes-left-answer tree t laws s have.0 (sound-now have.0 have.1) (top l).state (top r).state family.1 m own (width x) (width y) (whole m x) (whole m y) (rest t x l) (rest t y r) (effort m t x l) (effort m t y r) bounded.0 bounded.1 k a waits.unanswered waits.slot waits.awaited held said)

    right-posting : (k : Slot O) (a : Answer O) → WaitsFor t n.state Right k → (top r).state.held ≡ Some k.task → (top r).state.answer ≡ Some a → MayPost n.state Right a → Fall (event.Posted Right a) (with_parts (with_event t (event.Posted Right a) n) l r)
    right-posting k a waits held said may =
        let have = is-some n.state.held waits.holds in
        let s : State O = n.state in
        let s' : State O = record s { right = record s.right { slot = Some (record k { answer = Some a }) } } in
        posted Right a s' (ap (λ (o : Option (Slot O)). record s { right = posted_in s.right o a }) waits.slot) waits.unanswered refl may (part-truth (right_of b) y r k.task a family.3 held said)
        (takes-right-answer tree t laws s have.0 (sound-now have.0 have.1) (top l).state (top r).state family.1 m own (width x) (width y) (whole m x) (whole m y) (rest t x l) (rest t y r) (effort m t x l) (effort m t y r) bounded.0 bounded.1 k a waits.unanswered waits.slot waits.awaited held said)

  -- what is left falls with each event of the plain order
  pub falls : (b : ℕ) (sh : Sites) {f f' : Family O} {e : Event O} → IsSites t b sh → IsFamily tree t round b sh f → IsBounded t sh f → Steps tree t round f e f' → Falls m tree t round b sh f e f'
  falls b (leaf own) sites family bounded (moves (alone n) step e holds next not_wait not_split is lawful) =
      leaf-moves b own n step e sites.0 sites.1 family holds not_split is lawful
  falls b (leaf own) sites family bounded (moves (with_parts n l r) step e holds next not_wait not_split is lawful) = absurd family
  falls b (fork own x y) sites family bounded (moves (alone n) step e holds next not_wait not_split is lawful) =
      fork-moves b own x y n step e sites.0 sites.1 family.0 family.1 holds not_split is lawful
  falls b (fork own x y) sites family bounded (moves (with_parts n l r) step e holds next not_wait not_split is lawful) = parts-move b own x y n l r sites family bounded step e holds next not_split is lawful
  falls b (leaf own) sites family bounded (splits n holds next may) = absurd (no-bool may.parted (ap t.parted family.named ∙ sites.1))
  falls b (fork own x y) sites family bounded (splits n holds next may) = split-falls b own x y n sites.1 family.0 may
  falls b (leaf own) sites family bounded (takes_left n l r k waits differs may) = absurd family
  falls b (fork own x y) sites family bounded (takes_left n l r k waits differs may) = left-taking b own x y n l r sites family bounded k waits differs may
  falls b (leaf own) sites family bounded (takes_right n l r k waits differs may) = absurd family
  falls b (fork own x y) sites family bounded (takes_right n l r k waits differs may) = right-taking b own x y n l r sites family bounded k waits differs may
  falls b (leaf own) sites family bounded (posts_left n l r k a waits held said may) = absurd family
  falls b (fork own x y) sites family bounded (posts_left n l r k a waits held said may) = left-posting b own x y n l r sites family bounded k a waits held said may
  falls b (leaf own) sites family bounded (posts_right n l r k a waits held said may) = absurd family
  falls b (fork own x y) sites family bounded (posts_right n l r k a waits held said may) = right-posting b own x y n l r sites family bounded k a waits held said may
  falls b (leaf own) sites family bounded (below_left n l r l' k e waits held quiet step) = absurd family
  falls b (fork own x y) sites family bounded (below_left n l r l' k e waits held quiet step) =
      left-working b own x y n l r sites family bounded k l' e waits held quiet (falls (left_of b) x sites.2 family.2 bounded.2 step)
  falls b (leaf own) sites family bounded (below_right n l r r' k e waits held quiet step) = absurd family
  falls b (fork own x y) sites family bounded (below_right n l r r' k e waits held quiet step) =
      right-working b own x y n l r sites family bounded k r' e waits held quiet (falls (right_of b) y sites.3 family.3 bounded.3 step)

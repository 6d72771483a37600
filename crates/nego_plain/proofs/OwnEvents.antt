use Rattle.std.proofs.Common.{◌≡◌, ◌≢◌, ◌∙◌, ℕ, ◌+◌, ◌<◌, ◌≤◌, Bool, true, false, inl, inr, Option, Some, None, is_some, List, [], ◌∷◌, ◌++◌, sym, ap, refl, subst, arith}
use Rattle.nego_laws.specs.Tree.{Tree, Laws}
use Rattle.nego_node.specs.Machine.{Slot, Half, Trial, State, is_proposal, kept_for_trial, emptied, emptied_of, proposing, giving_up, after_trying, after, has_proposal}
use Rattle.nego_node.specs.Lawful.{Lawful, MayTry, MayAsk, MayAdopt, MayAgree, MayForbid, MayRefuse, MayGiveUp, IsSpent}
use Rattle.nego_node.specs.Sound.{IsSound, IsQuiet}
use Rattle.nego_node.specs.Moves.{is_exhausted, next_move, IsOf}
use Rattle.nego_node.specs.declared.tasks.Task.{Task}
use Rattle.nego_node.specs.declared.tasks.Side.{Side}
use Rattle.nego_node.specs.declared.tasks.Side.TheVariants.{Left, Right}
use Rattle.nego_node.specs.declared.answers.Answer.{Answer}
use Rattle.nego_node.specs.declared.answers.Answer.TheVariants.{Proposal, Exhausted}
use Rattle.nego_node.specs.declared.events.Outcome.{Outcome}
use Rattle.nego_node.specs.declared.events.Outcome.TheVariants as outcome
use Rattle.nego_node.specs.declared.events.Event.{Event}
use Rattle.nego_node.specs.declared.events.Event.TheVariants as event
use Rattle.nego_node.specs.declared.moves.Move.{Move}
use Rattle.nego_node.specs.declared.moves.Move.TheVariants.{Wait, Try, Split, Ask, Adopt, Agree, Forbid, Refuse, Exhaust}
use Rattle.nego_node.proofs.Sides.{none-some}
use Rattle.nego_plain.specs.Rest.{one_if, picked, cost, is_more, rank}
use Rattle.nego_plain.specs.Fits.{IsPlain}
use Rattle.nego_plain.proofs.Tests.{no-bool, IsAskRight, no-ask}
use Rattle.nego_plain.proofs.OwnMoves.{left-right, has_left, has_right, Lowers, asks-left, asks-right, adopts, agrees}
use Rattle.nego_plain.proofs.TrialEnds.{forbade, forbids, refuses, gives-up}

-- the event of a move is no message, and Split is that of Split
pub own-received : {O : Type 0} (step : Move) (task : Task O) → IsOf step (event.Received task) → ⊥
own-received Wait task h = h
own-received Try task h = let e = h.2 in cc
own-received Split task h = cc
own-received (Ask side) task h = let e = h.1 in cc
own-received (Adopt side) task h = let e = h.2 in cc
own-received Agree task h = let e = h.3 in cc
own-received Forbid task h = let e = h.3 in cc
own-received Refuse task h = let e = h.2 in cc
own-received Exhaust task h = cc

pub own-posted : {O : Type 0} (step : Move) (side : Side) (a : Answer O) → IsOf step (event.Posted side a) → ⊥
own-posted Wait x a h = h
own-posted Try x a h = let e = h.2 in cc
own-posted Split x a h = cc
own-posted (Ask side) x a h = let e = h.1 in cc
own-posted (Adopt side) x a h = let e = h.2 in cc
own-posted Agree x a h = let e = h.3 in cc
own-posted Forbid x a h = let e = h.3 in cc
own-posted Refuse x a h = let e = h.2 in cc
own-posted Exhaust x a h = cc

pub own-split : (O : Type 0) (step : Move) → IsOf {O = O} step event.Split → step ≡ Split
own-split O Wait h = absurd h
own-split O Try h = let e = h.2 in cc
own-split O Split h = refl
own-split O (Ask side) h = let e = h.1 in cc
own-split O (Adopt side) h = let e = h.2 in cc
own-split O Agree h = let e = h.3 in cc
own-split O Forbid h = let e = h.3 in cc
own-split O Refuse h = let e = h.2 in cc
own-split O Exhaust h = cc

asked-side : {O : Type 0} {x y : Side} {a b : Task O} → event.Asked x a ≡ event.Asked y b → x ≡ y
asked-side e = cc

own-asks : {O : Type 0} (step : Move) (task : Task O) → IsOf step (event.Asked Right task) → IsAskRight step ≡ true
own-asks Wait task h = absurd h
own-asks Try task h = let e = h.2 in cc
own-asks Split task h = cc
own-asks (Ask Left) task h = absurd (left-right (sym (asked-side h.1)))
own-asks (Ask Right) task h = refl
own-asks (Adopt side) task h = let e = h.2 in cc
own-asks Agree task h = let e = h.3 in cc
own-asks Forbid task h = let e = h.3 in cc
own-asks Refuse task h = let e = h.2 in cc
own-asks Exhaust task h = cc

-- what an attempt changes
pub record Tries {O : Type 0} (s s' : State O) : Type 0 where
  pub answer : Option (Answer O)
  pub is : s' ≡ record s { next = s.next + 1; answer = answer }
  pub lives : is_exhausted answer ≡ false

pub tries-so : {O : Type 0} (s : State O) (task : Task O) (x : Outcome O) → s.held ≡ Some task → s.answer ≡ None → Tries s (after_trying (record s { next = s.next + 1 }) x)
tries-so s task outcome.None held none = record { answer = s.answer; is = refl; lives = rw none refl }
tries-so s task (outcome.Banned o) held none = record { answer = s.answer; is = refl; lives = rw none refl }
tries-so {O} s task (outcome.Offer o) held none =
    record {
      answer = Some (Proposal (record { task = task; offer = o }));
      is = ap (λ (h : Option (Task O)). proposing (record s { next = s.next + 1 }) h o) held;
      lives = refl;
    }

one-at-most : (b : Bool) → one_if b ≤ 1
one-at-most true = omega arith
one-at-most false = omega arith

module _ {O : Type 0} (tree : O → Tree O) (t : Tree O) (laws : Laws t (λ s. tree s ≡ t)) (s : State O) (task : Task O) (sound : IsSound tree t s task) (l r : State O) (plain : IsPlain t s l r) (m own wa wb fa fb ra rb ea eb : ℕ) (left_bound : has_left t l r m own wa wb fa fb ra rb ea eb s + one_if (is_some s.trial) ≤ wa) (right_bound : picked (is_some s.trial) (has_right t l r m own wa wb fa fb ra rb ea eb s) 0 ≤ wb) where
  -- the sums fall by what the event costs, and by one more for a proposal
  abbrev pub Lower : ℕ → State O → Type 0
  Lower c z = Lowers t l r m own wa wb fa fb ra rb ea eb (one_if (is_proposal z.answer)) c s z × (z.held ≡ s.held)

  moved : (c : ℕ) (z z' : State O) → z' ≡ z → Lower c z → Lower c z'
  moved c z z' e h = subst (λ (y : State O). Lower c y) (sym e) h

  silent : (c : ℕ) (z : State O) → z.answer ≡ None → z.held ≡ s.held → Lowers t l r m own wa wb fa fb ra rb ea eb 0 c s z → Lower c z
  silent c z none held low =
      (subst (λ (n : ℕ). Lowers t l r m own wa wb fa fb ra rb ea eb n c s z) (sym (ap (λ (a : Option (Answer O)). one_if (is_proposal a)) none)) low, held)

  -- an item is tried while the parts are quiet
  tries : (a : Option (Answer O)) → is_exhausted a ≡ false → s.answer ≡ None → s.next < own → IsQuiet tree t s → Lower 1 (record s { next = s.next + 1; answer = a })
  tries a lives none less q =
      let s' : State O = record s { next = s.next + 1; answer = a } in
      let same : rank s' l r ≡ rank s l r = rw (lives, q.no_trial, none) refl in
      let tr : is_some s.trial ≡ false = ap (λ (o : Option (Trial O)). is_some o) q.no_trial in (
        record {
          plain =
              record {
                has_split = plain.has_split;
                of_left = plain.of_left;
                no_right = plain.no_right;
                on_trial = plain.on_trial;
                is_known = λ k task' e f. absurd (none-some q.no_right e);
                left = plain.left;
                right = plain.right;
                goes_on = λ asks more f e. absurd (no-bool more (ap (λ (xs : List O). is_more xs) q.none_left));
              };
          rest = rw tr (omega (arith, one-at-most (is_proposal a), less));
          effort = rw (same, tr) (omega (arith, less));
          left_bound = left_bound;
          right_bound = rw tr (omega arith);
        },
        refl,
      )

  kept-none : (h : Half O) → h.slot ≡ None → kept_for_trial h ≡ h
  kept-none h e = rw (ap (λ (o : Option (Slot O)). has_proposal o) e) (ap (λ (o : Option (Slot O)). emptied_of h o) e)

  emptied-some : (h : Half O) (k : Slot O) → h.slot ≡ Some k → emptied h ≡ record { forbidden = h.forbidden; generation = h.generation + 1; slot = None }
  emptied-some h k e = ap (λ (o : Option (Slot O)). emptied_of h o) e

  left-side : (x : Side) → (z : Trial O) → s.trial ≡ Some z → z.side ≡ x → x ≡ Left
  left-side x z e f = sym f ∙ plain.of_left z e

  abbrev Goal : Event O → Type 0
  Goal e = Lower (cost m e) (after t s e)

  asks : (side : Side) (asked : Task O) → (side ≡ Right → (x : Trial O) × (s.trial ≡ Some x)) → MayAsk t s side asked → Goal (event.Asked side asked)
  asks Left asked trial may =
      let none : s.answer ≡ None = may.seeks.seeks.unanswered in
      silent m _ none refl (asks-left tree t s task sound l r plain m own wa wb fa fb ra rb ea eb left_bound right_bound asked none may)
  asks Right asked trial may =
      let none : s.answer ≡ None = may.seeks.seeks.unanswered in
      let x = trial refl in
      silent m _ none refl (asks-right tree t s task sound l r plain m own wa wb fa fb ra rb ea eb left_bound right_bound asked x.0 x.1 none may)

  adopted : (side : Side) (g : ℕ) (offer : O) → rb ≤ wb → eb ≤ fb → MayAdopt t s side g offer → Goal (event.Adopted side g offer)
  adopted Left g offer lr le may =
      let none : s.answer ≡ None = may.seeks.unanswered in
      let e : kept_for_trial s.right ≡ s.right = kept-none s.right (plain.no_right may.no_trial) in
      moved m (record s { trial = Some (record { side = Left; offer = offer }) }) _ (ap (λ (h : Half O). record s { right = h; trial = Some (record { side = Left; offer = offer }) }) e)
      (silent m _ none refl (adopts tree t s task sound l r plain m own wa wb fa fb ra rb ea eb left_bound right_bound offer g lr le may))
  adopted Right g offer lr le may = absurd (none-some (plain.no_right may.no_trial) may.has.slot)

  agreed : (side : Side) (g : ℕ) (offer : O) → MayAgree t s side g offer → Goal (event.Agreed side g offer)
  agreed Left g offer may = absurd (left-right (sym (plain.of_left may.trial may.is_trial) ∙ may.of_other))
  agreed Right g offer may =
      let a : Answer O = Proposal (record { task = task; offer = offer }) in
      let e : proposing s s.held offer ≡ record s { answer = Some a } =
      ap (λ (h : Option (Task O)). proposing s h offer) sound.held in
      moved m (record s { answer = Some a }) _ e
      (agrees tree t s task sound l r plain m own wa wb fa fb ra rb ea eb left_bound right_bound a offer g refl may, refl)

  forbidden : (side : Side) (g : ℕ) (offer : O) → MayForbid s side g offer → Goal (event.Forbidden side g offer)
  forbidden Right g offer may = absurd (left-right (sym (plain.of_left _ may.is_trial)))
  forbidden Left g offer may =
      let none : s.answer ≡ None = may.seeks.unanswered in
      let w = sound.trial _ may.is_trial in
      let a : emptied s.left ≡ record { forbidden = s.left.forbidden; generation = s.left.generation + 1; slot = None } = emptied-some s.left w.slot w.is_slot in
      let b : emptied s.right ≡ record { forbidden = s.right.forbidden; generation = s.right.generation + 1; slot = None } = emptied-some s.right may.slot may.has.slot in
      let e : after t s (event.Forbidden Left g offer) ≡ forbade tree t laws s task sound l r plain m own wa wb fa fb ra rb ea eb left_bound right_bound offer =
      ap (λ (h : Half O). record s { left = record h { forbidden = s.left.forbidden ++ offer ∷ [] }; right = emptied s.right; trial = None }) a
      ∙ ap (λ (h : Half O). record s { left = record { forbidden = s.left.forbidden ++ offer ∷ []; generation = s.left.generation + 1; slot = None }; right = h; trial = None }) b in
      moved m _ _ e (silent m _ none refl (forbids tree t laws s task sound l r plain m own wa wb fa fb ra rb ea eb left_bound right_bound offer g may))

  refused-so : (side : Side) (g : ℕ) → MayRefuse s side g → Goal (event.Refused side g)
  refused-so Left g may = absurd (left-right (sym (plain.of_left may.trial may.is_trial) ∙ may.of_other))
  refused-so Right g may =
      let none : s.answer ≡ None = may.seeks.unanswered in
      let b : emptied s.right ≡ record { forbidden = s.right.forbidden; generation = s.right.generation + 1; slot = None } = emptied-some s.right may.slot may.has.slot in
      moved m _ _ (ap (λ (h : Half O). record s { right = h }) b)
      (silent m _ none refl (refuses tree t laws s task sound l r plain m own wa wb fa fb ra rb ea eb left_bound right_bound g may))

  exhausted : t.parted s.name ≡ true → MayGiveUp t s → Goal event.Exhausted
  exhausted parted may =
      let none : s.answer ≡ None = may.seeks.seeks.unanswered in
      let e : giving_up s s.held ≡ record s { answer = Some (Exhausted task) } =
      ap (λ (h : Option (Task O)). giving_up s h) sound.held in
      let why : IsSpent s = elim may.why [ inl p ↦ absurd (no-bool parted p) | inr spent ↦ spent ] in
      moved m (record s { answer = Some (Exhausted task) }) _ e (gives-up tree t laws s task sound l r plain m own wa wb fa fb ra rb ea eb left_bound right_bound task none why, refl)

  tried : (item : ℕ) (x : Outcome O) → own ≡ t.items s.name → MayTry tree t s item x → Goal (event.Tried item x)
  tried item x same may =
      let none : s.answer ≡ None = may.seeks.unanswered in
      let less : s.next < t.items s.name = subst (λ (i : ℕ). i < t.items s.name) may.is_next may.exists in
      let how = tries-so s task x sound.held none in
      moved 1 _ _ how.is (tries how.answer how.lives none (rw same less) (sound.quiet (inr less)))

  -- every move of the node's own
  pub own-event : (step : Move) (e : Event O) → next_move t false s ≡ step → step ≢ Split → IsOf step e → own ≡ t.items s.name → t.parted s.name ≡ true → rb ≤ wb → eb ≤ fb → Lawful tree t s e → Goal e
  own-event step (event.Received z) next not_split is items parted lr le lawful = absurd (own-received step z is)
  own-event step (event.Tried item x) next not_split is items parted lr le lawful = tried item x items lawful
  own-event step event.Split next not_split is items parted lr le lawful = absurd (not_split (own-split O step is))
  own-event step (event.Asked side z) next not_split is items parted lr le lawful =
      asks side z (λ e. trial-there s.trial refl (own-asks step z (subst (λ (y : Side). IsOf step (event.Asked y z)) e is))) lawful
    where
      trial-there : (o : Option (Trial O)) → s.trial ≡ o → IsAskRight step ≡ true → (x : Trial O) × (s.trial ≡ Some x)
      trial-there None e h = absurd (no-bool h (ap (λ (y : Move). IsAskRight y) (sym next) ∙ no-ask t s e))
      trial-there (Some x) e h = (x, e)
  own-event step (event.Posted side a) next not_split is items parted lr le lawful = absurd (own-posted step side a is)
  own-event step (event.Adopted side g x) next not_split is items parted lr le lawful = adopted side g x lr le lawful
  own-event step (event.Agreed side g x) next not_split is items parted lr le lawful = agreed side g x lawful
  own-event step (event.Forbidden side g x) next not_split is items parted lr le lawful = forbidden side g x lawful
  own-event step (event.Refused side g) next not_split is items parted lr le lawful = refused-so side g lawful
  own-event step event.Exhausted next not_split is items parted lr le lawful = exhausted parted lawful

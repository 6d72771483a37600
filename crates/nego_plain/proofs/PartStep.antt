use Rattle.std.proofs.Common.{◌≡◌, ◌≢◌, ◌∙◌, ℕ, ◌<◌, ◌≤◌, Bool, true, false, Option, Some, None, is_some, sym, ap, refl, subst, MatchBool, IsSome, arith}
use Rattle.nego_laws.specs.Tree.{Tree, Laws}
use Rattle.nego_node.specs.Machine.{Slot, half, generation_of, asked_in}
use Rattle.nego_node.specs.Lawful.{MayReceive, MayPost, task_of}
use Rattle.nego_node.specs.Moves.{next_move}
use Rattle.nego_node.specs.declared.tasks.Task.{Task}
use Rattle.nego_node.specs.declared.tasks.Side.{Side}
use Rattle.nego_node.specs.declared.tasks.Side.TheVariants.{Left, Right}
use Rattle.nego_node.specs.declared.answers.Answer.{Answer}
use Rattle.nego_node.specs.declared.events.Event.{Event}
use Rattle.nego_node.specs.declared.events.Event.TheVariants.{Received, Posted}
use Rattle.nego_node.specs.declared.moves.Move.TheVariants as step
use Rattle.nego_node.specs.Board.{BoardNode, opened, with_event}
use Rattle.nego_node.specs.Lawful.{MaySplit}
use Rattle.nego_node.specs.declared.events.Event.TheVariants.{Split}
use Rattle.nego_laws.specs.Tree.{left_of, right_of}
use Rattle.nego_node.proofs.Sides.{same-some}
use Rattle.nego_plain.specs.PlainOrder.{WaitsFor, tried_in}
use Rattle.nego_plain.specs.Family.{Family, alone, with_parts, top, with_top, Steps}
use Rattle.nego_plain.specs.Family as family
use Rattle.nego_plain.specs.Engine.{IsInPlain, IsSeeking, AwaitsPart, DidStep, IsLimited, stays, goes, DidPlay, DidWork, DidPartPlay, join}
use Rattle.nego_plain.specs.Views.{board_node, family_below}
use Rattle.nego_plain.specs.Width.{Sites, leaf, fork}
use Rattle.nego_plain.specs.Fits.{IsFamily}
use Rattle.nego_plain.specs.declared.tries.Tries.{Tries}
use Rattle.nego_plain.specs.declared.family.Below.{Below, Nothing, Parts'}
use Rattle.nego_plain.proofs.Tests.{no-bool}
use Rattle.nego_plain.proofs.Awaiting.{Waiting, family-waits, for_left, for_right}
use Rattle.nego_plain.proofs.Joining.{top-below, with-top-below}
use Rattle.nego_plain.proofs.Working.{top-join, part-lower, worked}

pub match-weaker : {P Q P' Q' : Type 0} (b : Bool) → (P → P') → (Q → Q') → MatchBool b P Q → MatchBool b P' Q'
match-weaker true f g h = f h
match-weaker false f g h = g h

-- where a node waits, it has parts
pub waits-parts : {F O S : Type 0} (tree : O → Tree O) (t : Tree O) (n : BoardNode O) (b : Below F O S) → IsInPlain tree t (family_below n b) → IsSeeking n.state → next_move t false n.state ≡ step.Wait → b ≡ Nothing → ⊥
waits-parts tree t n b plain seeks next e =
    none n (family-waits tree t (alone n) (subst (λ (z : Below _ _ _). IsInPlain tree t (family_below n z)) e plain) seeks next)
  where
    none : (m : BoardNode _) → Waiting tree t (alone m) → ⊥
    none m w = elim w [ ]

module _ {O : Type 0} (tree : O → Tree O) (t : Tree O) where
  part-right : (f : Family O) (n : BoardNode O) (l r : Family O) → Waiting tree t f → f ≡ with_parts n l r → is_some n.state.right.slot ≡ true → AwaitsPart tree t n.state Right r
  part-right f n l r (for_left m a b none waits) e there = absurd (let same : m ≡ n = ap top e in no-bool there (ap (λ (z : BoardNode O). is_some z.state.right.slot) (sym same) ∙ ap (λ (o : Option (Slot O)). is_some o) none))
  part-right f n l r (for_right m a b some waits) e there = right-of e waits
    where
      right-of : with_parts m a b ≡ with_parts n l r → AwaitsPart tree t m.state Right b → AwaitsPart tree t n.state Right r
      right-of e w = subst (λ (z : BoardNode O). AwaitsPart tree t z.state Right r) (ap top e) (subst (λ (z : Family O). AwaitsPart tree t m.state Right z) (ap (λ (z : Family O). elim z as (λ _. Family O) [ alone i ↦ b | with_parts i j k ↦ k ]) e) w)

  part-left : (f : Family O) (n : BoardNode O) (l r : Family O) → Waiting tree t f → f ≡ with_parts n l r → is_some n.state.right.slot ≡ false → AwaitsPart tree t n.state Left l
  part-left f n l r (for_right m a b some waits) e there = absurd (let same : m ≡ n = ap top e in no-bool some (ap (λ (z : BoardNode O). is_some z.state.right.slot) same ∙ there))
  part-left f n l r (for_left m a b none waits) e there = left-of e waits
    where
      left-of : with_parts m a b ≡ with_parts n l r → AwaitsPart tree t m.state Left a → AwaitsPart tree t n.state Left l
      left-of e w = subst (λ (z : BoardNode O). AwaitsPart tree t z.state Left l) (ap top e) (subst (λ (z : Family O). AwaitsPart tree t m.state Left z) (ap (λ (z : Family O). elim z as (λ _. Family O) [ alone i ↦ a | with_parts i j k ↦ j ]) e) w)

  -- the part for which a node with these parts waits
  pub awaits-right : (f : Family O) (n : BoardNode O) (l r : Family O) → f ≡ with_parts n l r → IsInPlain tree t f → IsSeeking n.state → next_move t false n.state ≡ step.Wait → is_some n.state.right.slot ≡ true → AwaitsPart tree t n.state Right r
  awaits-right f n l r e plain seeks next there =
      part-right (with_parts n l r) n l r (family-waits tree t (with_parts n l r) (subst (λ (z : Family O). IsInPlain tree t z) e plain) seeks next) refl there

  pub awaits-left : (f : Family O) (n : BoardNode O) (l r : Family O) → f ≡ with_parts n l r → IsInPlain tree t f → IsSeeking n.state → next_move t false n.state ≡ step.Wait → is_some n.state.right.slot ≡ false → AwaitsPart tree t n.state Left l
  awaits-left f n l r e plain seeks next there =
      part-left (with_parts n l r) n l r (family-waits tree t (with_parts n l r) (subst (λ (z : Family O). IsInPlain tree t z) e plain) seeks next) refl there

  -- one event is a run of events
  pub one-event : (round : ℕ) (f f' : Family O) (tries tries' : Tries) → (top f).state.answer ≡ None → DidStep tree t round f f' tries tries' → DidPlay tree t round true f f' tries tries'
  one-event round f f' tries tries' none did =
      record { events = 1; plays = goes f tries stays none did; some = λ e. omega arith; stopped = λ e. absurd (no-bool {b = true} refl e) }

  pub played-by : (round : ℕ) (f f' : Family O) (tries tries' : Tries) → (top f).state.answer ≡ None → (moved : Bool) → MatchBool moved (DidStep tree t round f f' tries tries') (IsLimited t f f' tries tries') → DidPlay tree t round moved f f' tries tries'
  played-by round f f' tries tries' none true did = one-event round f f' tries tries' none did
  played-by round f f' tries tries' none false lim =
      subst (λ (z : Family O). DidPlay tree t round false f z tries tries') (sym lim.same)
      (subst (λ (z : Tries). DidPlay tree t round false f f tries z) (sym lim.same_tries)
      (record { events = 0; plays = stays; some = λ e. absurd (no-bool e refl); stopped = λ e. record { unanswered = none; next = lim.next; reached = lim.reached } }))

  pub did-split : (f f' : Family O) (n n' : BoardNode O) (l r : Family O) (tries : Tries) → f ≡ alone n → f' ≡ with_parts n' l r → IsSeeking n.state → next_move t false n.state ≡ step.Split → MaySplit t n.state → n' ≡ with_event t Split n → l ≡ alone (opened n.state.round (left_of n.state.name)) → r ≡ alone (opened n.state.round (right_of n.state.name)) → DidStep tree t n.state.round f f' tries tries
  did-split f f' n n' l r tries e e' seeks next may en el er =
      let is : f' ≡ with_parts (with_event t Split n) (alone (opened n.state.round (left_of n.state.name))) (alone (opened n.state.round (right_of n.state.name))) =
      e' ∙ (ap (λ (z : BoardNode O). with_parts z l r) en ∙ (ap (λ (z : Family O). with_parts (with_event t Split n) z r) el ∙ ap (λ (z : Family O). with_parts (with_event t Split n) (alone (opened n.state.round (left_of n.state.name))) z) er)) in
      record {
        event = Split;
        steps = subst (λ (z : Family O). Steps tree t n.state.round z Split f') (sym e) (subst (λ (z : Family O). Steps tree t n.state.round (alone n) Split z) (sym is) (family.splits n seeks.0 next may));
        same_limit = refl;
        made = refl;
        allowed = λ h. absurd (let k : 0 ≡ 1 = h in cc);
      }

-- at a part
module _ {O : Type 0} (tree : O → Tree O) (t : Tree O) (n : BoardNode O) (side : Side) (c : Family O) (awaits : AwaitsPart tree t n.state side c) (asked : Task O) (is_asked : asked_in (half n.state side).slot ≡ Some asked) where
  one-there : (n' : BoardNode O) (c' : Family O) (tries : Tries) (e : Event O) → tried_in e ≡ 0 → ((other : Family O) → Steps tree t n.state.round (join side n c other) e (join side n' c' other)) → DidPartPlay tree t n.state.round side true n n' c c' tries tries
  one-there n' c' tries e free steps other =
      one-event tree t n.state.round (join side n c other) (join side n' c' other) tries tries (ap (λ (z : BoardNode O). z.state.answer) (top-join tree t n.state.round side n c other) ∙ awaits.waits.unanswered)
      (record { event = e; steps = steps other; same_limit = refl; made = rw free refl; allowed = λ h. absurd (let k : 0 ≡ 1 = sym free ∙ h in cc) })

  is-slot : awaits.slot.task ≡ asked
  is-slot = same-some (ap (λ (o : Option (Slot O)). asked_in o) awaits.waits.slot) is_asked

  old : asked.generation ≡ (half n.state side).generation
  old = ap (λ (z : Task O). z.generation) (sym is-slot) ∙ awaits.generation

  pub may-receive : generation_of (top c).state.held ≢ asked.generation → MayReceive (top c).state asked
  may-receive differs =
      record {
        round = ap (λ (z : Task O). z.round) (sym is-slot) ∙ awaits.of_round;
        node = ap (λ (z : Task O). z.node) (sym is-slot) ∙ awaits.node;
        is_newer = newer (generation_of (top c).state.held) asked.generation (omega (arith, awaits.linked.at_most, old)) differs;
      }
    where
      newer : (a b : ℕ) → a ≤ b → a ≢ b → a < b
      newer a b h d = omega (arith, h, d)

  pub did-take : (tries : Tries) (c' : Family O) → generation_of (top c).state.held ≢ asked.generation → c' ≡ with_top c (with_event t (Received asked) (top c)) → DidPartPlay tree t n.state.round side true n n c c' tries tries
  did-take tries c' differs e =
      one-there n c' tries (Received asked) refl (λ other.
      subst (λ (z : Family O). Steps tree t n.state.round (join side n c other) (Received asked) (join side n z other)) (sym e)
      (subst (λ (z : Task O). Steps tree t n.state.round (join side n c other) (Received z) (join side n (with_top c (with_event t (Received z) (top c))) other)) is-slot
      (taking side awaits.waits (λ h. differs (ap (λ (o : Option (Task O)). generation_of o) h ∙ ap (λ (z : Task O). z.generation) is-slot)) (subst (λ (z : Task O). MayReceive (top c).state z) (sym is-slot) (may-receive differs)) other)))
    where
      taking : (at : Side) → WaitsFor t n.state at awaits.slot → (top c).state.held ≢ Some awaits.slot.task → MayReceive (top c).state awaits.slot.task → (other : Family O) → Steps tree t n.state.round (join at n c other) (Received awaits.slot.task) (join at n (with_top c (with_event t (Received awaits.slot.task) (top c))) other)
      taking Left waits d may other = family.takes_left n c other awaits.slot waits d may
      taking Right waits d may other = family.takes_right n other c awaits.slot waits d may

  pub holds : generation_of (top c).state.held ≡ asked.generation → (top c).state.held ≡ Some awaits.slot.task
  holds same = awaits.linked.same awaits.slot awaits.waits.slot (same ∙ old)

  pub did-work : (laws : Laws t (λ s. tree s ≡ t)) (tries tries' : Tries) (c' : Family O) (round : ℕ) (ended : Bool) → round ≡ (top c).state.round → generation_of (top c).state.held ≡ asked.generation → (top c).state.answer ≡ None → DidWork tree t round ended c c' tries tries' → DidPartPlay tree t n.state.round side ended n n c c' tries tries'
  did-work laws tries tries' c' round ended e same none did =
      worked tree t laws n.state.round n side c awaits.slot awaits.waits (holds same) awaits.plain (sym awaits.same_round) c' tries tries' ended none
      (subst (λ (i : ℕ). DidWork tree t i ended c c' tries tries') (e ∙ awaits.same_round) did)

  pub its-task : (a : Answer O) → generation_of (top c).state.held ≡ asked.generation → (top c).state.held ≡ Some (task_of a) → task_of a ≡ awaits.slot.task
  its-task a same held = same-some held (holds same)

  pub may-post : (a : Answer O) → generation_of (top c).state.held ≡ asked.generation → (top c).state.held ≡ Some (task_of a) → MayPost n.state side a
  may-post a same held = record { slot = awaits.slot; is_slot = awaits.waits.slot; is_same = sym (its-task a same held); unanswered = awaits.waits.awaited }

  pub post-generation : (a : Answer O) → generation_of (top c).state.held ≡ asked.generation → (top c).state.held ≡ Some (task_of a) → (task_of a).generation ≡ (half n.state side).generation
  post-generation a same held = ap (λ (z : Task O). z.generation) (its-task a same held) ∙ awaits.generation

  pub did-post : (a : Answer O) (n' : BoardNode O) (tries : Tries) → generation_of (top c).state.held ≡ asked.generation → (top c).state.held ≡ Some (task_of a) → (top c).state.answer ≡ Some a → n' ≡ with_event t (Posted side a) n → DidPartPlay tree t n.state.round side true n n' c c tries tries
  did-post a n' tries same held said e =
      one-there n' c tries (Posted side a) refl (λ other.
      subst (λ (z : BoardNode O). Steps tree t n.state.round (join side n c other) (Posted side a) (join side z c other)) (sym e)
      (posting side awaits.waits (may-post a same held) other))
    where
      posting : (at : Side) → WaitsFor t n.state at awaits.slot → MayPost n.state at a → (other : Family O) → Steps tree t n.state.round (join at n c other) (Posted at a) (join at (with_event t (Posted at a) n) c other)
      posting Left waits may other = family.posts_left n c other awaits.slot a waits (holds same) said may
      posting Right waits may other = family.posts_right n other c awaits.slot a waits (holds same) said may

pub try-differs : step.Try ≢ step.Wait
try-differs e = cc

pub split-differs : step.Split ≢ step.Wait
split-differs e = cc

-- a node that has not split has opened nothing
pub unsplit : {F O S : Type 0} (tree : O → Tree O) (t : Tree O) (n : BoardNode O) (b : Below F O S) → IsInPlain tree t (family_below n b) → n.state.has_split ≡ false → family_below n b ≡ alone n
unsplit tree t n Nothing plain none = refl
unsplit tree t n (Parts' p m a q k b) plain none = absurd (split-there plain.sites plain.family)
  where
    split-there : (sh : Sites) → IsFamily tree t plain.round plain.site sh (with_parts n (family_below (board_node m) a) (family_below (board_node k) b)) → ⊥
    split-there (leaf own) fam = fam
    split-there (fork own x y) fam = no-bool fam.1.has_split none

-- the same at a part of the program
module _ {F O S : Type 0} (tree : O → Tree O) (t : Tree O) (n : BoardNode O) (side : Side) (m : BoardNode O) (below : Below F O S) (awaits : AwaitsPart tree t n.state side (family_below m below)) (asked : Task O) (is_asked : asked_in (half n.state side).slot ≡ Some asked) where
  abbrev its : Family O
  its = family_below m below

  at : top its ≡ m
  at = top-below m below

  back : (P : BoardNode O → Type 0) → P m → P (top its)
  back P h = subst P (sym at) h

  pub hand-lawful : generation_of m.state.held ≢ asked.generation → MayReceive m.state asked
  hand-lawful differs = subst (λ (z : BoardNode O). MayReceive z.state asked) at (may-receive tree t n side its awaits asked is_asked (back (λ z. generation_of z.state.held ≢ asked.generation) differs))

  pub hand-did : (tries : Tries) (m' : BoardNode O) → generation_of m.state.held ≢ asked.generation → m' ≡ with_event t (Received asked) m → DidPartPlay tree t n.state.round side true n n its (family_below m' below) tries tries
  hand-did tries m' differs e =
      did-take tree t n side its awaits asked is_asked tries (family_below m' below) (back (λ z. generation_of z.state.held ≢ asked.generation) differs)
      (sym (ap (λ (z : BoardNode O). with_top its (with_event t (Received asked) z)) at ∙ (ap (λ (z : BoardNode O). with_top its z) (sym e) ∙ with-top-below m m' below)))

  pub part-holds : generation_of m.state.held ≡ asked.generation → IsSome m.state.held
  part-holds same =
      subst (λ (z : BoardNode O). IsSome z.state.held) at (ap (λ (o : Option (Task O)). is_some o) (holds tree t n side its awaits asked is_asked (back (λ z. generation_of z.state.held ≡ asked.generation) same)))

  pub work-did : (laws : Laws t (λ s. tree s ≡ t)) (tries tries' : Tries) (c' : Family O) (ended : Bool) → generation_of m.state.held ≡ asked.generation → m.state.answer ≡ None → DidWork tree t m.state.round ended its c' tries tries' → DidPartPlay tree t n.state.round side ended n n its c' tries tries'
  work-did laws tries tries' c' ended same none did =
      did-work tree t n side its awaits asked is_asked laws tries tries' c' m.state.round ended (ap (λ (z : BoardNode O). z.state.round) (sym at)) (back (λ z. generation_of z.state.held ≡ asked.generation) same) (back (λ z. z.state.answer ≡ None) none) did

  pub give-lawful : (a : Answer O) → generation_of m.state.held ≡ asked.generation → m.state.held ≡ Some (task_of a) → MayPost n.state side a
  give-lawful a same held = may-post tree t n side its awaits asked is_asked a (back (λ z. generation_of z.state.held ≡ asked.generation) same) (back (λ z. z.state.held ≡ Some (task_of a)) held)

  pub give-generation : (a : Answer O) → generation_of m.state.held ≡ asked.generation → m.state.held ≡ Some (task_of a) → (task_of a).generation ≡ (half n.state side).generation
  give-generation a same held = post-generation tree t n side its awaits asked is_asked a (back (λ z. generation_of z.state.held ≡ asked.generation) same) (back (λ z. z.state.held ≡ Some (task_of a)) held)

  pub give-did : (a : Answer O) (n' : BoardNode O) (tries : Tries) → generation_of m.state.held ≡ asked.generation → m.state.held ≡ Some (task_of a) → m.state.answer ≡ Some a → n' ≡ with_event t (Posted side a) n → DidPartPlay tree t n.state.round side true n n' its its tries tries
  give-did a n' tries same held said e =
      did-post tree t n side its awaits asked is_asked a n' tries (back (λ z. generation_of z.state.held ≡ asked.generation) same) (back (λ z. z.state.held ≡ Some (task_of a)) held) (back (λ z. z.state.answer ≡ Some a) said) e

-- a part has a lesser height
pub lower-part : {F O S : Type 0} (tree : O → Tree O) (t : Tree O) (laws : Laws t (λ s. tree s ≡ t)) (side : Side) (f : Family O) (n m : BoardNode O) (below : Below F O S) (other : Family O) → f ≡ join side n (family_below m below) other → IsInPlain tree t f → t.height m.state.name < t.height n.state.name
lower-part {O = O} tree t laws side f n m below other e plain =
    subst (λ (z : BoardNode O). t.height z.state.name < t.height n.state.name) (top-below m below)
    (part-lower tree t laws side n (family_below m below) other (subst (λ (z : Family O). IsInPlain tree t z) e plain))

pub top-quiet : {F O S : Type 0} (n : BoardNode O) (below : Below F O S) → n.state.answer ≡ None → (top (family_below n below)).state.answer ≡ None
top-quiet n below none = subst (λ (z : BoardNode _). z.state.answer ≡ None) (sym (top-below n below)) none

pub top-answered : {F O S : Type 0} (n : BoardNode O) (below : Below F O S) → IsSome n.state.answer → IsSome (top (family_below n below)).state.answer
top-answered n below some = subst (λ (z : BoardNode _). IsSome z.state.answer) (sym (top-below n below)) some

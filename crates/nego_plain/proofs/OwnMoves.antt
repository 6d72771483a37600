use Rattle.std.proofs.Common.{◌≡◌, ◌∙◌, ℕ, ◌+◌, ◌-◌, ◌*◌, ◌≤◌, Bool, true, false, not, inl, inr, Option, Some, None, is_some, sym, ap, refl, subst, arith, mul-add}
use Rattle.std.proofs.lemmas.Bool.{eq-eqb}
use Rattle.nego_laws.specs.Tree.{Tree}
use Rattle.nego_node.specs.Proposed.{Proposed}
use Rattle.nego_node.specs.Machine.{Slot, Trial, State, half, generation_of, is_proposal, task_for, with_half, filled}
use Rattle.nego_node.specs.Lawful.{LeavesFree, MayAsk, MayAdopt, MayAgree}
use Rattle.nego_node.specs.Sound.{IsSound, TrialIsSound}
use Rattle.nego_node.specs.Moves.{is_exhausted}
use Rattle.nego_node.specs.declared.tasks.Task.{Task}
use Rattle.nego_node.specs.declared.tasks.Side.{Side}
use Rattle.nego_node.specs.declared.tasks.Side.TheVariants.{Left, Right}
use Rattle.nego_node.specs.declared.answers.Answer.{Answer}
use Rattle.nego_node.specs.declared.answers.Answer.TheVariants.{Proposal, Exhausted}
use Rattle.nego_node.proofs.Sides.{none-some, same-some}
use Rattle.nego_plain.specs.Rest.{one_if, picked, is_current, left_counts, right_counts, left_pends, right_pends, is_of_now, asking, rank, due}
use Rattle.nego_plain.specs.Fits.{IsPlain}
use Rattle.nego_plain.proofs.Sums.{rest_of, effort_of, on_left, on_right, on_adopting}
use Rattle.nego_plain.proofs.Tests.{no-bool, and-false, and-second, older, current}

pub left-right : Left ≡ Right → ⊥
left-right e = cc

-- the sums of a node, where l and r are the states of its parts, which have ra and rb left and efforts ea and eb
module _ {O : Type 0} (t : Tree O) (l r : State O) (m own wa wb fa fb ra rb ea eb : ℕ) where
  abbrev pub has_left : State O → ℕ
  has_left s = picked (left_counts s l) ra wa + one_if (left_pends s l)

  abbrev pub effort_left : State O → ℕ
  effort_left s = picked (left_counts s l) ea fa

  abbrev pub has_right : State O → ℕ
  has_right s = picked (right_counts t s r) rb wb + one_if (right_pends s r)

  abbrev pub effort_right : State O → ℕ
  effort_right s = picked (right_counts t s r) eb fb

  abbrev pub rest_at : State O → ℕ
  rest_at s = rest_of (own - s.next) wb (has_left s) (is_some s.trial) (has_right s)

  abbrev pub effort_at : State O → ℕ
  effort_at s = effort_of m (own - s.next) (fb + m * (5 * wb + 8)) (rank s l r) (effort_left s) (has_left s) (is_some s.trial) (effort_right s) (has_right s)

  -- from s to s' the sums fall
  pub record Lowers (made cost : ℕ) (s s' : State O) : Type 0 where
    pub plain : IsPlain t s' l r
    pub rest : rest_at s' + made ≤ rest_at s
    pub effort : effort_at s' + cost ≤ effort_at s
    pub left_bound : has_left s' + one_if (is_some s'.trial) ≤ wa
    pub right_bound : picked (is_some s'.trial) (has_right s') 0 ≤ wb

pub picked-same : (c d p q : Bool) (x y : ℕ) → c ≡ d → p ≡ q → picked c x y + one_if p ≡ picked d x y + one_if q
picked-same c d p q x y e f = rw (e, f) refl

-- the rank by its cases
module _ {O : Type 0} (s l r : State O) where
  pub rank-plain : s.answer ≡ None → s.trial ≡ None → rank s l r ≡ 2 + asking s.left.slot l
  rank-plain a e = rw (a, e) refl

  pub rank-trial : (x : Trial O) → s.answer ≡ None → s.trial ≡ Some x → is_of_now (generation_of s.held) s.right.slot ≡ true → rank s l r ≡ 6 + asking s.right.slot r
  rank-trial x a e now = rw (a, e, now) refl

  pub rank-stale : (x : Trial O) → s.answer ≡ None → s.trial ≡ Some x → is_of_now (generation_of s.held) s.right.slot ≡ false → rank s l r ≡ 10
  rank-stale x a e now = rw (a, e, now) refl

pub asking-answered : {O : Type 0} (k : Slot O) (c : State O) (a : Answer O) → k.answer ≡ Some a → asking (Some k) c ≡ 0
asking-answered k c a e = rw e refl

pub asking-awaited : {O : Type 0} (k : Slot O) (c : State O) → k.answer ≡ None → is_current (Some k) c ≡ true → asking (Some k) c ≡ 1
asking-awaited k c e f = rw (e, f) refl

pub asking-asked : {O : Type 0} (k : Slot O) (c : State O) → k.answer ≡ None → is_current (Some k) c ≡ false → asking (Some k) c ≡ 2
asking-asked k c e f = rw (e, f) refl

-- what is asked of a side whose slot is empty
pub due-empty : {O : Type 0} (s : State O) (side : Side) (o : Option (Slot O)) (h : Option (Task O)) (task : Task O) → o ≡ None → h ≡ Some task → due s side o h ≡ Some (task_for s task s.trial side)
due-empty s side o h task e f = rw (e, f) refl

pub due-filled : {O : Type 0} (s : State O) (side : Side) (o : Option (Slot O)) (h : Option (Task O)) (k : Slot O) → o ≡ Some k → due s side o h ≡ Some k.task
due-filled s side o h k e = rw e refl

module _ {O : Type 0} (tree : O → Tree O) (t : Tree O) (s : State O) (task : Task O) (sound : IsSound tree t s task) (l r : State O) (plain : IsPlain t s l r) (m own wa wb fa fb ra rb ea eb : ℕ) (left_bound : has_left t l r m own wa wb fa fb ra rb ea eb s + one_if (is_some s.trial) ≤ wa) (right_bound : picked (is_some s.trial) (has_right t l r m own wa wb fa fb ra rb ea eb s) 0 ≤ wb) where
  abbrev Low : ℕ → ℕ → State O → Type 0
  Low made cost s' = Lowers t l r m own wa wb fa fb ra rb ea eb made cost s s'

  abbrev x_of : State O → ℕ
  x_of = has_left t l r m own wa wb fa fb ra rb ea eb

  abbrev y_of : State O → ℕ
  y_of = has_right t l r m own wa wb fa fb ra rb ea eb

  abbrev p_of : State O → ℕ
  p_of = effort_left t l r m own wa wb fa fb ra rb ea eb

  abbrev q_of : State O → ℕ
  q_of = effort_right t l r m own wa wb fa fb ra rb ea eb

  no-left-trial : LeavesFree s.trial Left → s.trial ≡ None
  no-left-trial free = go s.trial refl free
    where
      go : (o : Option (Trial O)) → s.trial ≡ o → LeavesFree o Left → s.trial ≡ None
      go None e f = e
      go (Some x) e f = absurd (left-right (sym (plain.of_left x e) ∙ f))

  -- asks the left part
  pub asks-left : (asked : Task O) → s.answer ≡ None → MayAsk t s Left asked → Low 0 m (with_half s Left (filled s Left asked))
  asks-left asked none may =
      let free : s.trial ≡ None = no-left-trial may.is_free in
      let held : s.held ≡ Some task = sound.held in
      let s' : State O = with_half s Left (filled s Left asked) in
      let k : Slot O = record { task = asked; asked = generation_of s.held; on_trial = is_some s.trial; answer = None } in
      let same_task : may.task ≡ task = same-some may.seeks.seeks.held held in
      let is_for : asked ≡ task_for s task None Left = may.is_for ∙ (ap (λ (o : Option (Trial O)). task_for s may.task o Left) free ∙ ap (λ (x : Task O). task_for s x None Left) same_task) in
      let age : asked.generation ≡ s.left.generation = ap (λ (x : Task O). x.generation) is_for in
      let young : is_current (Some k) l ≡ false = older (Some k) l (λ j e. let q : k ≡ j = same-some refl e in omega (arith, plain.left.is_older may.is_empty, age, ap (λ (x : Slot O). x.task.generation) q)) in
      let counts : left_counts s' l ≡ left_counts s l = rw (young, may.is_empty) refl in
      let pends : left_pends s' l ≡ left_pends s l = rw (young, may.is_empty) refl in
      let x : x_of s' ≡ x_of s = picked-same _ _ _ _ ra wa counts pends in
      let p : p_of s' ≡ p_of s = ap (λ (b : Bool). picked b ea fa) counts in
      let was : rank s l r ≡ 5 = rank-plain s l r none free ∙ ap (λ (o : Option (Slot O)). 2 + asking o l) may.is_empty in
      let is : rank s' l r ≡ 4 = rank-plain s' l r none free ∙ ap (λ (n : ℕ). 2 + n) (asking-asked k l refl young) in
      let tr : is_some s.trial ≡ false = ap (λ (o : Option (Trial O)). is_some o) free in
      let sums = on_left m wb fb (own - s.next) m (rank s l r) (rank s' l r) (p_of s) (p_of s') (x_of s) (x_of s') (y_of s) (y_of s') (q_of s) (q_of s') (is_some s.trial) (is_some s'.trial) tr tr (omega (arith, x)) (rw (was, is) (omega (arith, p))) in
      record {
        plain =
            record {
              has_split = plain.has_split;
              of_left = plain.of_left;
              no_right = plain.no_right;
              on_trial = plain.on_trial;
              is_known = plain.is_known;
              left =
                  record {
                    at_most = plain.left.at_most;
                    is_older = λ e. let q : Some k ≡ None = e in absurd (none-some q refl);
                    same = λ j e f. absurd (omega (arith, plain.left.is_older may.is_empty, f));
                    answered = λ j a e f. let q : k ≡ j = same-some refl e in absurd (none-some (ap (λ (y : Slot O). y.answer) (sym q)) f);
                  };
              right = plain.right;
              goes_on = λ asks more cold e. plain.goes_on asks more (rw may.is_empty refl) (due-empty s Left s.left.slot s.held task may.is_empty held ∙ (ap (λ (y : Task O). Some y) (sym (may.is_for ∙ ap (λ (y : Task O). task_for s y s.trial Left) same_task)) ∙ e));
            };
        rest = omega (arith, sums.0);
        effort = sums.1;
        left_bound = rw x left_bound;
        right_bound = rw tr (omega arith);
      }

  -- a trial is of the left side, and its offer the proposal there
  pub left-trial : (x : Trial O) → s.trial ≡ Some x → (k : Slot O) × (s.left.slot ≡ Some k) × (k.on_trial ≡ false) × (k.answer ≡ Some (Proposal (record { task = k.task; offer = x.offer })))
  left-trial x e =
      let w : TrialIsSound tree t s x = sound.trial x e in
      (w.slot, ap (λ (y : Side). (half s y).slot) (sym (plain.of_left x e)) ∙ w.is_slot, w.is_plain, w.is_answer)

  -- in a trial the left part has its task
  pub current-in-trial : (x : Trial O) → s.trial ≡ Some x → is_current s.left.slot l ≡ true
  current-in-trial x e = let w = left-trial x e in current s.left.slot w.0 l w.1 (plain.left.answered w.0 _ w.1 w.3).0

  -- a slot that has no proposal was asked under the held task
  pub of-now : (k : Slot O) → s.right.slot ≡ Some k → ((p : Proposed O) → k.answer ≡ Some (Proposal p) → ⊥) → is_of_now (generation_of s.held) s.right.slot ≡ true
  of-now k e lacks =
      elim (plain.is_known k task e sound.held) [
        | inl same ↦ rw (e, sound.held) (eq-eqb k.asked task.generation same)
        | inr known ↦ absurd (lacks known.1 known.2)
      ]

  -- the right part is not asked before a trial
  pub in-trial : (k : Slot O) → s.right.slot ≡ Some k → (x : Trial O) × (s.trial ≡ Some x)
  in-trial k e = go s.trial refl
    where
      go : (o : Option (Trial O)) → s.trial ≡ o → (x : Trial O) × (s.trial ≡ Some x)
      go None f = absurd (none-some (plain.no_right f) e)
      go (Some x) f = (x, f)

  pub no-trial : (k : Slot O) → s.left.slot ≡ Some k → k.answer ≡ None → s.trial ≡ None
  no-trial k e none = go s.trial refl
    where
      go : (o : Option (Trial O)) → s.trial ≡ o → s.trial ≡ None
      go None f = f
      go (Some x) f =
          let w = left-trial x f in
          let q : w.0 ≡ k = same-some w.1 e in
          absurd (none-some none (ap (λ (y : Slot O). y.answer) (sym q) ∙ w.3))

  -- asks the right part in a trial
  pub asks-right : (asked : Task O) (x : Trial O) → s.trial ≡ Some x → s.answer ≡ None → MayAsk t s Right asked → Low 0 m (with_half s Right (filled s Right asked))
  asks-right asked x in_trial none may =
      let held : s.held ≡ Some task = sound.held in
      let s' : State O = with_half s Right (filled s Right asked) in
      let k : Slot O = record { task = asked; asked = generation_of s.held; on_trial = is_some s.trial; answer = None } in
      let same_task : may.task ≡ task = same-some may.seeks.seeks.held held in
      let is_for : asked ≡ task_for s task (Some x) Right = may.is_for ∙ (ap (λ (o : Option (Trial O)). task_for s may.task o Right) in_trial ∙ ap (λ (y : Task O). task_for s y (Some x) Right) same_task) in
      let age : asked.generation ≡ s.right.generation = ap (λ (y : Task O). y.generation) is_for in
      let young : is_current (Some k) r ≡ false = older (Some k) r (λ j e. let q : k ≡ j = same-some refl e in omega (arith, plain.right.is_older may.is_empty, age, ap (λ (y : Slot O). y.task.generation) q)) in
      let owed : due s Right s.right.slot s.held ≡ Some asked = due-empty s Right s.right.slot s.held task may.is_empty held ∙ ap (λ (y : Task O). Some y) (sym (may.is_for ∙ ap (λ (y : Task O). task_for s y s.trial Right) same_task)) in
      let cold : is_current s.right.slot r ≡ false = ap (λ (o : Option (Slot O)). is_current o r) may.is_empty in
      let counts : right_counts t s' r ≡ right_counts t s r = rw (young, cold, owed) refl in
      let pends' : right_pends s' r ≡ false = and-second (not (is_some s.answer)) _ (and-second (is_of_now (generation_of s.held) (Some k)) _ (and-false (is_current (Some k) r) (is_proposal r.answer) young)) in
      let pends : right_pends s r ≡ false = and-second (not (is_some s.answer)) _ (and-second (is_of_now (generation_of s.held) s.right.slot) _ (and-false (is_current s.right.slot r) (is_proposal r.answer) cold)) in
      let y : y_of s' ≡ y_of s = picked-same _ _ _ _ rb wb counts (pends' ∙ sym pends) in
      let q : q_of s' ≡ q_of s = ap (λ (b : Bool). picked b eb fb) counts in
      let was : rank s l r ≡ 9 = rank-trial s l r x none in_trial (ap (λ (o : Option (Slot O)). is_of_now (generation_of s.held) o) may.is_empty) ∙ ap (λ (o : Option (Slot O)). 6 + asking o r) may.is_empty in
      let is : rank s' l r ≡ 8 = rank-trial s' l r x none in_trial (eq-eqb (generation_of s.held) (generation_of s.held) refl) ∙ ap (λ (n : ℕ). 6 + n) (asking-asked k r refl young) in
      let tr : is_some s.trial ≡ true = ap (λ (o : Option (Trial O)). is_some o) in_trial in
      let sums = on_right m wb fb (own - s.next) m 0 (rank s l r) (rank s' l r) (p_of s) (p_of s') (x_of s) (x_of s') (y_of s) (y_of s') (q_of s) (q_of s') (is_some s.trial) (is_some s'.trial) tr tr (omega arith) (omega arith) (omega (arith, y)) (rw (was, is, y) (omega (arith, q))) in
      record {
        plain =
            record {
              has_split = plain.has_split;
              of_left = plain.of_left;
              no_right = λ e. absurd (none-some e in_trial);
              on_trial = λ j e. let f : k ≡ j = same-some refl e in ap (λ (z : Slot O). z.on_trial) (sym f) ∙ tr;
              is_known = λ j task' e f. let g : k ≡ j = same-some refl e in inl (ap (λ (z : Slot O). z.asked) (sym g) ∙ ap (λ (o : Option (Task O)). generation_of o) f);
              left = plain.left;
              right =
                  record {
                    at_most = plain.right.at_most;
                    is_older = λ e. let f : Some k ≡ None = e in absurd (none-some f refl);
                    same = λ j e f. absurd (omega (arith, plain.right.is_older may.is_empty, f));
                    answered = λ j a e f. let g : k ≡ j = same-some refl e in absurd (none-some (ap (λ (z : Slot O). z.answer) (sym g)) f);
                  };
              goes_on = λ asks more f e. absurd (no-bool (current-in-trial x in_trial) f);
            };
        rest = sums.0;
        effort = sums.1;
        left_bound = left_bound;
        right_bound = subst (λ (b : Bool). picked b (y_of s') 0 ≤ wb) (sym tr) (let was_bound : picked true (y_of s) 0 ≤ wb = subst (λ (b : Bool). picked b (y_of s) 0 ≤ wb) tr right_bound in omega (arith, was_bound, y));
      }

  -- puts the left part's proposal to the right part
  pub adopts : (offer : O) (generation : ℕ) → rb ≤ wb → eb ≤ fb → MayAdopt t s Left generation offer → Low 0 m (record s { trial = Some (record { side = Left; offer = offer }) })
  adopts offer generation less_rest less_effort may =
      let x : Trial O = record { side = Left; offer = offer } in
      let s' : State O = record s { trial = Some x } in
      let none : s.answer ≡ None = may.seeks.unanswered in
      let k : Slot O = may.slot in
      let link = plain.left.answered k _ may.has.slot may.has.answer in
      let cur : is_current s.left.slot l ≡ true = current s.left.slot k l may.has.slot link.0 in
      let free : s.right.slot ≡ None = plain.no_right may.no_trial in
      let tr : is_some s.trial ≡ false = ap (λ (o : Option (Trial O)). is_some o) may.no_trial in
      let cold : is_current s.right.slot r ≡ false = ap (λ (o : Option (Slot O)). is_current o r) free in
      let prop : is_proposal l.answer ≡ true = ap (λ (a : Option (Answer O)). is_proposal a) link.1 in
      let pends : left_pends s l ≡ true = rw (tr, cur, prop) refl in
      let x0 : x_of s' + 1 ≤ x_of s = rw pends (omega arith) in
      let rp : right_pends s' r ≡ false = and-second (not (is_some s.answer)) _ (and-second (is_of_now (generation_of s.held) s.right.slot) _ (and-false (is_current s.right.slot r) (is_proposal r.answer) cold)) in
      let y0 : y_of s' ≤ wb = rw rp (at-most-picked (right_counts t s' r) rb wb less_rest) in
      let q0 : q_of s' ≤ fb = at-most-picked' (right_counts t s' r) eb fb less_effort in
      let was : rank s l r ≡ 2 = rank-plain s l r none may.no_trial ∙ (ap (λ (o : Option (Slot O)). 2 + asking o l) may.has.slot ∙ ap (λ (n : ℕ). 2 + n) (asking-answered k l _ may.has.answer)) in
      let is : rank s' l r ≡ 9 = rank-trial s' l r x none refl (ap (λ (o : Option (Slot O)). is_of_now (generation_of s.held) o) free) ∙ ap (λ (o : Option (Slot O)). 6 + asking o r) free in
      let sums = on_adopting m wb fb (own - s.next) (rank s l r) (rank s' l r) (p_of s) (p_of s') (x_of s) (x_of s') (y_of s) (y_of s') (q_of s) (q_of s') (is_some s.trial) true tr refl x0 (omega arith) (rw (was, is) (omega arith)) y0 q0 in
      record {
        plain =
            record {
              has_split = plain.has_split;
              of_left = λ z e. let f : x ≡ z = same-some refl e in ap (λ (z : Trial O). z.side) (sym f);
              no_right = λ e. let f : Some x ≡ None = e in absurd (none-some f refl);
              on_trial = plain.on_trial;
              is_known = plain.is_known;
              left = plain.left;
              right = plain.right;
              goes_on = λ asks more f e. absurd (no-bool cur f);
            };
        rest = omega (arith, sums.0);
        effort = sums.1;
        left_bound = omega (arith, x0, left_bound);
        right_bound = y0;
      }
    where
      at-most-picked : (b : Bool) (v w : ℕ) → v ≤ w → picked b v w + one_if false ≤ w
      at-most-picked true v w h = omega (arith, h)
      at-most-picked false v w h = omega arith

      at-most-picked' : (b : Bool) (v w : ℕ) → v ≤ w → picked b v w ≤ w
      at-most-picked' true v w h = h
      at-most-picked' false v w h = omega arith

  -- agrees with the right part
  pub agrees : (a : Answer O) (offer : O) (generation : ℕ) → is_proposal (Some a) ≡ true → MayAgree t s Right generation offer → Low 1 m (record s { answer = Some a })
  agrees a offer generation is_one may =
      let s' : State O = record s { answer = Some a } in
      let none : s.answer ≡ None = may.seeks.unanswered in
      let same_task : may.task ≡ task = same-some may.seeks.held sound.held in
      let k : Slot O = may.slot in
      let link = plain.right.answered k _ may.has.slot may.has.answer in
      let cur : is_current s.right.slot r ≡ true = current s.right.slot k r may.has.slot link.0 in
      let tr : is_some s.trial ≡ true = ap (λ (o : Option (Trial O)). is_some o) may.is_trial in
      let prop : is_proposal r.answer ≡ true = ap (λ (b : Option (Answer O)). is_proposal b) link.1 in
      let now : is_of_now (generation_of s.held) s.right.slot ≡ true = rw (may.has.slot, sound.held) (eq-eqb k.asked task.generation (may.in_this ∙ ap (λ (z : Task O). z.generation) same_task)) in
      let pends : right_pends s r ≡ true = rw (none, now, cur, prop) refl in
      let y0 : y_of s ≡ y_of s' + 1 = rw (pends) (omega arith) in
      let was : rank s l r ≡ 6 = rank-trial s l r may.trial none may.is_trial now ∙ (ap (λ (o : Option (Slot O)). 6 + asking o r) may.has.slot ∙ ap (λ (n : ℕ). 6 + n) (asking-answered k r _ may.has.answer)) in
      let no : is_exhausted (Some a) ≡ false = proposal-lives a is_one in
      let is : rank s' l r ≡ 10 = rw (no, may.is_trial) refl in
      let five : m * (5 * (y_of s' + 1)) ≡ m * (5 * y_of s') + m * 5 = times-five m (y_of s') in
      let sums = on_right m wb fb (own - s.next) m 1 (rank s l r) (rank s' l r) (p_of s) (p_of s') (x_of s) (x_of s') (y_of s) (y_of s') (q_of s) (q_of s') (is_some s.trial) (is_some s'.trial) tr tr (omega arith) (omega arith) (omega (arith, y0)) (rw (was, is, y0, five) (omega arith)) in
      record {
        plain =
            record {
              has_split = plain.has_split;
              of_left = plain.of_left;
              no_right = plain.no_right;
              on_trial = plain.on_trial;
              is_known = λ j task' e f. let g : k ≡ j = same-some may.has.slot e in let w : may.task ≡ task' = same-some may.seeks.held f in inl (ap (λ (z : Slot O). z.asked) (sym g) ∙ (may.in_this ∙ ap (λ (z : Task O). z.generation) w));
              left = plain.left;
              right = plain.right;
              goes_on = λ asks more f e. absurd (no-bool (current-in-trial may.trial may.is_trial) f);
            };
        rest = sums.0;
        effort = sums.1;
        left_bound = left_bound;
        right_bound = subst (λ (b : Bool). picked b (y_of s') 0 ≤ wb) (sym tr) (let was_bound : picked true (y_of s) 0 ≤ wb = subst (λ (b : Bool). picked b (y_of s) 0 ≤ wb) tr right_bound in omega (arith, was_bound, y0));
      }
    where
      proposal-lives : (b : Answer O) → is_proposal (Some b) ≡ true → is_exhausted (Some b) ≡ false
      proposal-lives (Proposal p) e = refl
      proposal-lives (Exhausted z) e = absurd (no-bool e refl)

      times-five : (n y : ℕ) → n * (5 * (y + 1)) ≡ n * (5 * y) + n * 5
      times-five n y = ap (λ (z : ℕ). n * z) (let z : 5 * (y + 1) ≡ 5 * y + 5 = omega arith in z) ∙ mul-add n (5 * y) 5

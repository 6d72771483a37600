use Rattle.std.proofs.Common.{◌≡◌, ◌≢◌, ◌∙◌, ℕ, ◌+◌, ◌-◌, ◌*◌, ◌≤◌, Bool, true, false, not, Option, Some, None, is_some, nat_eq, sym, ap, refl, arith}
use Rattle.std.proofs.lemmas.Bool.{eqb-true}
use Rattle.std.proofs.lemmas.Nat.{mul-le}
use Rattle.nego_laws.specs.Tree.{Tree}
use Rattle.nego_node.specs.Machine.{Slot, Half, Trial, State, generation_of, goes_on, is_proposal}
use Rattle.nego_node.specs.Sound.{IsSound}
use Rattle.nego_node.specs.declared.tasks.Task.{Task}
use Rattle.nego_node.specs.declared.tasks.Side.TheVariants.{Left, Right}
use Rattle.nego_node.proofs.Sides.{none-some, same-some}
use Rattle.nego_plain.specs.Rest.{one_if, picked, is_current, is_more, right_counts, left_pends, right_pends, is_of_now, asking, rank, due}
use Rattle.nego_plain.specs.Fits.{IsLinked, IsPlain}
use Rattle.nego_plain.proofs.Sums.{on_left, on_right}
use Rattle.nego_plain.proofs.Tests.{no-bool, false-if, and-false, and-second, current}
use Rattle.nego_plain.proofs.OwnMoves.{has_left, has_right, effort_left, effort_right, rest_at, effort_at, rank-plain, rank-trial, asking-awaited, asking-asked, due-filled, of-now, in-trial, no-trial}

-- from the parts l and r with ra, rb, ea and eb to l' and r' with ra', rb', ea' and eb' the sums of a node fall
pub record PartsLower {O : Type 0} (t : Tree O) (s l r l' r' : State O) (m own wa wb fa fb ra rb ea eb ra' rb' ea' eb' cost : ℕ) : Type 0 where
  pub plain : IsPlain t s l' r'
  pub rest : rest_at t l' r' m own wa wb fa fb ra' rb' ea' eb' s ≤ rest_at t l r m own wa wb fa fb ra rb ea eb s
  pub effort : effort_at t l' r' m own wa wb fa fb ra' rb' ea' eb' s + cost ≤ effort_at t l r m own wa wb fa fb ra rb ea eb s
  pub left_bound : has_left t l' r' m own wa wb fa fb ra' rb' ea' eb' s + one_if (is_some s.trial) ≤ wa
  pub right_bound : picked (is_some s.trial) (has_right t l' r' m own wa wb fa fb ra' rb' ea' eb' s) 0 ≤ wb

picked-less : (b : Bool) (v v' w w' : ℕ) → (b ≡ true → v' ≤ v) → v' ≤ w → v' ≤ picked b v w
picked-less true v v' w w' h k = h refl
picked-less false v v' w w' h k = k

module _ {O : Type 0} (tree : O → Tree O) (t : Tree O) (s : State O) (task : Task O) (sound : IsSound tree t s task) (l r : State O) (plain : IsPlain t s l r) (m own wa wb fa fb ra rb ea eb : ℕ) (left_bound : has_left t l r m own wa wb fa fb ra rb ea eb s + one_if (is_some s.trial) ≤ wa) (right_bound : picked (is_some s.trial) (has_right t l r m own wa wb fa fb ra rb ea eb s) 0 ≤ wb) where
  abbrev x_of : ℕ
  x_of = has_left t l r m own wa wb fa fb ra rb ea eb s

  abbrev y_of : ℕ
  y_of = has_right t l r m own wa wb fa fb ra rb ea eb s

  abbrev p_of : ℕ
  p_of = effort_left t l r m own wa wb fa fb ra rb ea eb s

  abbrev q_of : ℕ
  q_of = effort_right t l r m own wa wb fa fb ra rb ea eb s

  -- a part that does not hold the task of its slot has not its generation
  not-current : (h : Half O) (c : State O) (k : Slot O) → IsLinked h c → k.task.generation ≡ h.generation → h.slot ≡ Some k → c.held ≢ Some k.task → is_current h.slot c ≡ false
  not-current h c k link same e differs =
      rw e (false-if (nat_eq (generation_of c.held) k.task.generation) (λ f. differs (link.same k e (eqb-true (generation_of c.held) k.task.generation f ∙ same))))

  -- a part that holds the task of its slot, which has no answer yet, is linked
  linked-now : (h : Half O) (c : State O) (k : Slot O) → k.task.generation ≡ h.generation → h.slot ≡ Some k → k.answer ≡ None → c.held ≡ Some k.task → IsLinked h c
  linked-now h c k same e none held =
      let g : generation_of c.held ≡ h.generation = ap (λ (o : Option (Task O)). generation_of o) held ∙ same in
      record {
        at_most = omega (arith, g);
        is_older = λ f. absurd (none-some f e);
        same = λ j f w. let q : k ≡ j = same-some e f in held ∙ ap (λ (z : Slot O). Some z.task) q;
        answered = λ j a f w. let q : k ≡ j = same-some e f in absurd (none-some none (ap (λ (z : Slot O). z.answer) q ∙ w));
      }

  with-left : (l' : State O) (k : Slot O) → s.left.slot ≡ Some k → k.answer ≡ None → l'.held ≡ Some k.task → IsPlain t s l' r
  with-left l' k at waits held =
      record {
        has_split = plain.has_split;
        of_left = plain.of_left;
        no_right = plain.no_right;
        on_trial = plain.on_trial;
        is_known = plain.is_known;
        left = linked-now s.left l' k (sound.left.slots k at).generation at waits held;
        right = plain.right;
        goes_on = λ asks more f e. absurd (no-bool (current s.left.slot k l' at held) f);
      }

  with-right : (r' : State O) (k : Slot O) → s.right.slot ≡ Some k → k.answer ≡ None → r'.held ≡ Some k.task → IsPlain t s l r'
  with-right r' k at waits held =
      record {
        has_split = plain.has_split;
        of_left = plain.of_left;
        no_right = plain.no_right;
        on_trial = plain.on_trial;
        is_known = plain.is_known;
        left = plain.left;
        right = linked-now s.right r' k (sound.right.slots k at).generation at waits held;
        goes_on = plain.goes_on;
      }

  -- the left part takes what it is asked
  pub left-takes : (k : Slot O) (l' : State O) (ra' ea' : ℕ) → s.answer ≡ None → s.left.slot ≡ Some k → k.answer ≡ None → l.held ≢ Some k.task → l'.held ≡ Some k.task → l'.answer ≡ None → ra' ≤ wa → ea' ≤ fa → (goes_on t l.held l.answer k.task ≡ true → (ra' ≤ ra) × (ea' ≤ ea)) → PartsLower t s l r l' r m own wa wb fa fb ra rb ea eb ra' rb ea' eb m
  left-takes k l' ra' ea' none at waits differs held quiet lr le kept =
      let free : s.trial ≡ None = no-trial tree t s task sound l r plain m own wa wb fa fb ra rb ea eb left_bound right_bound k at waits in
      let tr : is_some s.trial ≡ false = ap (λ (o : Option (Trial O)). is_some o) free in
      let cold : is_current s.left.slot l ≡ false = not-current s.left l k plain.left (sound.left.slots k at).generation at differs in
      let warm : is_current s.left.slot l' ≡ true = current s.left.slot k l' at held in
      let still : left_pends s l ≡ false = and-second (not (is_some s.trial)) _ (and-false (is_current s.left.slot l) (is_proposal l.answer) cold) in
      let still' : left_pends s l' ≡ false = and-second (not (is_some s.trial)) _ (and-second (is_current s.left.slot l') (is_proposal l'.answer) (ap (λ (o : Option _). is_proposal o) quiet)) in
      let on : is_more s.left.forbidden ≡ true → goes_on t l.held l.answer k.task ≡ true = λ more. plain.goes_on k.task more cold (due-filled s Left s.left.slot s.held k at) in
      let x : has_left t l' r m own wa wb fa fb ra' rb ea' eb s ≤ x_of = rw (still, still', cold, warm) (omega (arith, picked-less (is_more s.left.forbidden) ra ra' wa 0 (λ more. (kept (on more)).0) lr)) in
      let p : effort_left t l' r m own wa wb fa fb ra' rb ea' eb s ≤ p_of = rw (cold, warm) (picked-less (is_more s.left.forbidden) ea ea' fa 0 (λ more. (kept (on more)).1) le) in
      let was : rank s l r ≡ 4 = rank-plain s l r none free ∙ (ap (λ (o : Option (Slot O)). 2 + asking o l) at ∙ ap (λ (n : ℕ). 2 + n) (asking-asked k l waits (ap (λ (o : Option (Slot O)). is_current o l) (sym at) ∙ cold))) in
      let is : rank s l' r ≡ 3 = rank-plain s l' r none free ∙ (ap (λ (o : Option (Slot O)). 2 + asking o l') at ∙ ap (λ (n : ℕ). 2 + n) (asking-awaited k l' waits (ap (λ (o : Option (Slot O)). is_current o l') (sym at) ∙ warm))) in
      let sums = on_left m wb fb (own - s.next) m (rank s l r) (rank s l' r) p_of (effort_left t l' r m own wa wb fa fb ra' rb ea' eb s) x_of (has_left t l' r m own wa wb fa fb ra' rb ea' eb s) y_of y_of q_of q_of (is_some s.trial) (is_some s.trial) tr tr x (rw (was, is) (omega (arith, p))) in
      record {
        plain = with-left l' k at waits held;
        rest = sums.0;
        effort = sums.1;
        left_bound = omega (arith, x, left_bound);
        right_bound = right_bound;
      }

  -- the left part, which has its task, goes on
  pub left-works : (k : Slot O) (l' : State O) (cost ra' ea' : ℕ) → s.answer ≡ None → s.left.slot ≡ Some k → k.answer ≡ None → l.held ≡ Some k.task → l.answer ≡ None → l'.held ≡ l.held → ra' + one_if (is_proposal l'.answer) ≤ ra → ea' + cost ≤ ea → PartsLower t s l r l' r m own wa wb fa fb ra rb ea eb ra' rb ea' eb cost
  left-works k l' cost ra' ea' none at waits held quiet same lr le =
      let free : s.trial ≡ None = no-trial tree t s task sound l r plain m own wa wb fa fb ra rb ea eb left_bound right_bound k at waits in
      let tr : is_some s.trial ≡ false = ap (λ (o : Option (Trial O)). is_some o) free in
      let warm : is_current s.left.slot l ≡ true = current s.left.slot k l at held in
      let warm' : is_current s.left.slot l' ≡ true = current s.left.slot k l' at (same ∙ held) in
      let still : left_pends s l ≡ false = and-second (not (is_some s.trial)) _ (and-second (is_current s.left.slot l) (is_proposal l.answer) (ap (λ (o : Option _). is_proposal o) quiet)) in
      let now : left_pends s l' ≡ is_proposal l'.answer = rw (tr, warm') refl in
      let x : has_left t l' r m own wa wb fa fb ra' rb ea' eb s ≤ x_of = rw (still, now, warm, warm') (omega (arith, lr)) in
      let p : effort_left t l' r m own wa wb fa fb ra' rb ea' eb s + cost ≤ p_of = rw (warm, warm') le in
      let was : rank s l r ≡ 3 = rank-plain s l r none free ∙ (ap (λ (o : Option (Slot O)). 2 + asking o l) at ∙ ap (λ (n : ℕ). 2 + n) (asking-awaited k l waits (ap (λ (o : Option (Slot O)). is_current o l) (sym at) ∙ warm))) in
      let is : rank s l' r ≡ 3 = rank-plain s l' r none free ∙ (ap (λ (o : Option (Slot O)). 2 + asking o l') at ∙ ap (λ (n : ℕ). 2 + n) (asking-awaited k l' waits (ap (λ (o : Option (Slot O)). is_current o l') (sym at) ∙ warm'))) in
      let sums = on_left m wb fb (own - s.next) cost (rank s l r) (rank s l' r) p_of (effort_left t l' r m own wa wb fa fb ra' rb ea' eb s) x_of (has_left t l' r m own wa wb fa fb ra' rb ea' eb s) y_of y_of q_of q_of (is_some s.trial) (is_some s.trial) tr tr x (rw (was, is) (omega (arith, p))) in
      record {
        plain = with-left l' k at waits (same ∙ held);
        rest = sums.0;
        effort = sums.1;
        left_bound = omega (arith, x, left_bound);
        right_bound = right_bound;
      }

  in-bound : (y' : ℕ) → y' ≤ y_of → picked (is_some s.trial) y' 0 ≤ wb
  in-bound y' h = go (is_some s.trial) right_bound
    where
      go : (b : Bool) → picked b y_of 0 ≤ wb → picked b y' 0 ≤ wb
      go true w = omega (arith, h, w)
      go false w = omega arith

  -- the right part takes what it is asked
  pub right-takes : (k : Slot O) (r' : State O) (rb' eb' : ℕ) → s.answer ≡ None → s.right.slot ≡ Some k → k.answer ≡ None → r.held ≢ Some k.task → r'.held ≡ Some k.task → r'.answer ≡ None → rb' ≤ wb → eb' ≤ fb → (goes_on t r.held r.answer k.task ≡ true → (rb' ≤ rb) × (eb' ≤ eb)) → PartsLower t s l r l r' m own wa wb fa fb ra rb ea eb ra rb' ea eb' m
  right-takes k r' rb' eb' none at waits differs held quiet lr le kept =
      let have = in-trial tree t s task sound l r plain m own wa wb fa fb ra rb ea eb left_bound right_bound k at in
      let tr : is_some s.trial ≡ true = ap (λ (o : Option (Trial O)). is_some o) have.1 in
      let cold : is_current s.right.slot r ≡ false = not-current s.right r k plain.right (sound.right.slots k at).generation at differs in
      let warm : is_current s.right.slot r' ≡ true = current s.right.slot k r' at held in
      let owed : due s Right s.right.slot s.held ≡ Some k.task = due-filled s Right s.right.slot s.held k at in
      let now : is_of_now (generation_of s.held) s.right.slot ≡ true = of-now tree t s task sound l r plain m own wa wb fa fb ra rb ea eb left_bound right_bound k at (λ p e. none-some waits e) in
      let still : right_pends s r ≡ false = and-second (not (is_some s.answer)) _ (and-second (is_of_now (generation_of s.held) s.right.slot) _ (and-false (is_current s.right.slot r) (is_proposal r.answer) cold)) in
      let still' : right_pends s r' ≡ false = and-second (not (is_some s.answer)) _ (and-second (is_of_now (generation_of s.held) s.right.slot) _ (and-second (is_current s.right.slot r') (is_proposal r'.answer) (ap (λ (o : Option _). is_proposal o) quiet))) in
      let counts : right_counts t s r ≡ goes_on t r.held r.answer k.task = rw (cold, owed) refl in
      let counts' : right_counts t s r' ≡ true = rw warm refl in
      let y : has_right t l r' m own wa wb fa fb ra rb' ea eb' s ≤ y_of = rw (counts, counts', still, still') (omega (arith, picked-less (goes_on t r.held r.answer k.task) rb rb' wb 0 (λ on. (kept on).0) lr)) in
      let q : effort_right t l r' m own wa wb fa fb ra rb' ea eb' s ≤ q_of = rw (counts, counts') (picked-less (goes_on t r.held r.answer k.task) eb eb' fb 0 (λ on. (kept on).1) le) in
      let was : rank s l r ≡ 8 = rank-trial s l r have.0 none have.1 now ∙ (ap (λ (o : Option (Slot O)). 6 + asking o r) at ∙ ap (λ (n : ℕ). 6 + n) (asking-asked k r waits (ap (λ (o : Option (Slot O)). is_current o r) (sym at) ∙ cold))) in
      let is : rank s l r' ≡ 7 = rank-trial s l r' have.0 none have.1 now ∙ (ap (λ (o : Option (Slot O)). 6 + asking o r') at ∙ ap (λ (n : ℕ). 6 + n) (asking-awaited k r' waits (ap (λ (o : Option (Slot O)). is_current o r') (sym at) ∙ warm))) in
      let sums = on_right m wb fb (own - s.next) m 0 (rank s l r) (rank s l r') p_of p_of x_of x_of y_of (has_right t l r' m own wa wb fa fb ra rb' ea eb' s) q_of (effort_right t l r' m own wa wb fa fb ra rb' ea eb' s) (is_some s.trial) (is_some s.trial) tr tr (omega arith) (omega arith) (omega (arith, y)) (rw (was, is) (omega (arith, q, times-five m y_of (has_right t l r' m own wa wb fa fb ra rb' ea eb' s) 0 y))) in
      record {
        plain = with-right r' k at waits held;
        rest = omega (arith, sums.0);
        effort = sums.1;
        left_bound = left_bound;
        right_bound = in-bound (has_right t l r' m own wa wb fa fb ra rb' ea eb' s) y;
      }
    where
      times-five : (n y y' z : ℕ) → y' ≤ y → n * (5 * y') ≤ n * (5 * y)
      times-five n y y' z h = mul-le n (5 * y') n (5 * y) (omega arith) (omega (arith, h))

  -- the right part, which has its task, goes on
  pub right-works : (k : Slot O) (r' : State O) (cost rb' eb' : ℕ) → s.answer ≡ None → s.right.slot ≡ Some k → k.answer ≡ None → r.held ≡ Some k.task → r.answer ≡ None → r'.held ≡ r.held → rb' + one_if (is_proposal r'.answer) ≤ rb → eb' + cost ≤ eb → PartsLower t s l r l r' m own wa wb fa fb ra rb ea eb ra rb' ea eb' cost
  right-works k r' cost rb' eb' none at waits held quiet same lr le =
      let have = in-trial tree t s task sound l r plain m own wa wb fa fb ra rb ea eb left_bound right_bound k at in
      let tr : is_some s.trial ≡ true = ap (λ (o : Option (Trial O)). is_some o) have.1 in
      let warm : is_current s.right.slot r ≡ true = current s.right.slot k r at held in
      let warm' : is_current s.right.slot r' ≡ true = current s.right.slot k r' at (same ∙ held) in
      let now : is_of_now (generation_of s.held) s.right.slot ≡ true = of-now tree t s task sound l r plain m own wa wb fa fb ra rb ea eb left_bound right_bound k at (λ p e. none-some waits e) in
      let still : right_pends s r ≡ false = and-second (not (is_some s.answer)) _ (and-second (is_of_now (generation_of s.held) s.right.slot) _ (and-second (is_current s.right.slot r) (is_proposal r.answer) (ap (λ (o : Option _). is_proposal o) quiet))) in
      let pends : right_pends s r' ≡ is_proposal r'.answer = rw (none, now, warm') refl in
      let counts : right_counts t s r ≡ true = rw warm refl in
      let counts' : right_counts t s r' ≡ true = rw warm' refl in
      let y : has_right t l r' m own wa wb fa fb ra rb' ea eb' s ≤ y_of = rw (counts, counts', still, pends) (omega (arith, lr)) in
      let q : effort_right t l r' m own wa wb fa fb ra rb' ea eb' s + cost ≤ q_of = rw (counts, counts') le in
      let was : rank s l r ≡ 7 = rank-trial s l r have.0 none have.1 now ∙ (ap (λ (o : Option (Slot O)). 6 + asking o r) at ∙ ap (λ (n : ℕ). 6 + n) (asking-awaited k r waits (ap (λ (o : Option (Slot O)). is_current o r) (sym at) ∙ warm))) in
      let is : rank s l r' ≡ 7 = rank-trial s l r' have.0 none have.1 now ∙ (ap (λ (o : Option (Slot O)). 6 + asking o r') at ∙ ap (λ (n : ℕ). 6 + n) (asking-awaited k r' waits (ap (λ (o : Option (Slot O)). is_current o r') (sym at) ∙ warm'))) in
      let five : m * (5 * has_right t l r' m own wa wb fa fb ra rb' ea eb' s) ≤ m * (5 * y_of) = mul-le m (5 * has_right t l r' m own wa wb fa fb ra rb' ea eb' s) m (5 * y_of) (omega arith) (omega (arith, y)) in
      let sums = on_right m wb fb (own - s.next) cost 0 (rank s l r) (rank s l r') p_of p_of x_of x_of y_of (has_right t l r' m own wa wb fa fb ra rb' ea eb' s) q_of (effort_right t l r' m own wa wb fa fb ra rb' ea eb' s) (is_some s.trial) (is_some s.trial) tr tr (omega arith) (omega arith) (omega (arith, y)) (rw (was, is) (omega (arith, q, five))) in
      record {
        plain = with-right r' k at waits (same ∙ held);
        rest = omega (arith, sums.0);
        effort = sums.1;
        left_bound = left_bound;
        right_bound = in-bound (has_right t l r' m own wa wb fa fb ra rb' ea eb' s) y;
      }

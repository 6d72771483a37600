use Rattle.std.proofs.Common.{◌≡◌, ◌∙◌, ℕ, ◌+◌, ◌-◌, ◌<◌, ◌≤◌, Bool, true, false, not, inl, inr, Option, Some, None, is_some, nat_eq, List, [], ◌∷◌, ◌++◌, sym, ap, refl, subst, arith, append_assoc}
use Rattle.std.proofs.lemmas.Bool.{eqb-true}
use Rattle.nego_laws.specs.Tree.{Tree, Laws}
use Rattle.nego_node.specs.Truth.{entails_some}
use Rattle.nego_node.specs.Proposed.{Proposed}
use Rattle.nego_node.specs.Machine.{Slot, Half, Trial, State, half, generation_of, goes_on, task_for, all_entail_some}
use Rattle.nego_node.specs.Lawful.{MayForbid, MayRefuse, IsSpent}
use Rattle.nego_node.specs.Sound.{IsSound, SlotIsSound}
use Rattle.nego_node.specs.declared.tasks.Task.{Task}
use Rattle.nego_node.specs.declared.tasks.Side.{Side}
use Rattle.nego_node.specs.declared.tasks.Side.TheVariants.{Left, Right}
use Rattle.nego_node.specs.declared.answers.Answer.{Answer}
use Rattle.nego_node.specs.declared.answers.Answer.TheVariants.{Proposal, Exhausted}
use Rattle.nego_node.proofs.Sides.{none-some, same-some}
use Rattle.nego_node.proofs.Entailing.{and-both, or-left, some-right, all-left}
use Rattle.nego_plain.specs.Rest.{one_if, picked, is_current, left_counts, right_counts, left_pends, right_pends, is_of_now, asking, rank, due, would_go_on}
use Rattle.nego_plain.specs.Fits.{IsLinked, IsPlain}
use Rattle.nego_plain.proofs.Sums.{on_left, on_right, on_forbidding}
use Rattle.nego_plain.proofs.Tests.{no-bool, false-if, and-false, and-second, current, more-end}
use Rattle.nego_plain.proofs.OwnMoves.{has_left, has_right, effort_left, effort_right, Lowers, rank-plain, rank-trial, rank-stale, asking-answered, asking-awaited, picked-same, due-empty, due-filled, left-trial, current-in-trial, of-now, in-trial, no-trial}

-- a part that proposed an offer goes on with a task of the same given offer that bans what its task did and the offer
pub would-go-on : {O : Type 0} (tree : O → Tree O) (t : Tree O) (laws : Laws t (λ s. tree s ≡ t)) (c : State O) (old asked : Task O) (p : Proposed O) → c.held ≡ Some old → c.answer ≡ Some (Proposal p) → tree old.given ≡ t → old.given ≡ asked.given → all_entail_some t old.ban asked.ban ≡ true → entails_some t p.offer asked.ban ≡ true → goes_on t c.held c.answer asked ≡ true
would-go-on tree t laws c old asked p held said mine given all some =
    let same : t.same old.given asked.given ≡ true = (laws.same_is_equal old.given asked.given mine (ap tree (sym given) ∙ mine)).1 given in
    rw (held, said) (and-both _ _ same (and-both _ _ all some))

module _ {O : Type 0} (tree : O → Tree O) (t : Tree O) (laws : Laws t (λ s. tree s ≡ t)) (s : State O) (task : Task O) (sound : IsSound tree t s task) (l r : State O) (plain : IsPlain t s l r) (m own wa wb fa fb ra rb ea eb : ℕ) (left_bound : has_left t l r m own wa wb fa fb ra rb ea eb s + one_if (is_some s.trial) ≤ wa) (right_bound : picked (is_some s.trial) (has_right t l r m own wa wb fa fb ra rb ea eb s) 0 ≤ wb) where
  abbrev Low : ℕ → ℕ → State O → Type 0
  Low made cost s' = Lowers t l r m own wa wb fa fb ra rb ea eb made cost s s'

  abbrev x_of : State O → ℕ
  x_of = has_left t l r m own wa wb fa fb ra rb ea eb

  abbrev y_of : State O → ℕ
  y_of = has_right t l r m own wa wb fa fb ra rb ea eb

  abbrev p_of : State O → ℕ
  p_of = effort_left t l r m own wa wb fa fb ra rb ea eb

  abbrev q_of : State O → ℕ
  q_of = effort_right t l r m own wa wb fa fb ra rb ea eb

  abbrev pub forbade : O → State O
  forbade offer =
      record s {
        left = record { forbidden = s.left.forbidden ++ offer ∷ []; generation = s.left.generation + 1; slot = None };
        right = record { forbidden = s.right.forbidden; generation = s.right.generation + 1; slot = None };
        trial = None;
      }

  -- the left part would go on once its offer is forbidden
  left-again : (x : Trial O) → s.trial ≡ Some x → goes_on t l.held l.answer (task_for (forbade x.offer) task None Left) ≡ true
  left-again x e =
      let w = left-trial tree t s task sound l r plain m own wa wb fa fb ra rb ea eb left_bound right_bound x e in
      let k : Slot O = w.0 in
      let link = plain.left.answered k _ w.1 w.3 in
      let ok : SlotIsSound tree t s.round s.name s.trial task Left s.left k = sound.left.slots k w.1 in
      let way = ok.plain w.2 in
      let truth = (ok.answered _ w.3).1 in
      let mine : tree x.offer ≡ t = truth.1.belongs in
      let ban : all_entail_some t k.task.ban (task.ban ++ (s.left.forbidden ++ x.offer ∷ [])) ≡ true =
      subst (λ (z : List O). all_entail_some t k.task.ban z ≡ true) (append_assoc task.ban s.left.forbidden (x.offer ∷ [])) (all-left t k.task.ban (task.ban ++ s.left.forbidden) (x.offer ∷ []) way.ban) in
      let own_ban : entails_some t x.offer (task.ban ++ (s.left.forbidden ++ x.offer ∷ [])) ≡ true =
      some-right t x.offer task.ban (s.left.forbidden ++ x.offer ∷ []) (some-right t x.offer s.left.forbidden (x.offer ∷ []) (or-left (t.entails x.offer x.offer) false (laws.reflexive x.offer mine))) in
      would-go-on tree t laws l k.task (task_for (forbade x.offer) task None Left) (record { task = k.task; offer = x.offer }) link.0 link.1 ok.belongs.given way.given ban own_ban

  -- forbids the offer of the trial
  pub forbids : (offer : O) (generation : ℕ) → MayForbid s Left generation offer → Low 0 m (forbade offer)
  forbids offer generation may =
      let x : Trial O = record { side = Left; offer = offer } in
      let s' : State O = forbade offer in
      let none : s.answer ≡ None = may.seeks.unanswered in
      let tr : is_some s.trial ≡ true = ap (λ (o : Option (Trial O)). is_some o) may.is_trial in
      let cur : is_current s.left.slot l ≡ true = current-in-trial tree t s task sound l r plain m own wa wb fa fb ra rb ea eb left_bound right_bound x may.is_trial in
      let counts : left_counts s l ≡ true = rw cur refl in
      let counts' : left_counts s' l ≡ true = more-end s.left.forbidden offer in
      let pends : left_pends s l ≡ false = rw tr refl in
      let x0 : x_of s' ≡ x_of s = picked-same (left_counts s' l) (left_counts s l) false (left_pends s l) ra wa (counts' ∙ sym counts) (sym pends) in
      let p0 : p_of s' ≡ p_of s = ap (λ (b : Bool). picked b ea fa) (counts' ∙ sym counts) in
      let now : is_of_now (generation_of s.held) s.right.slot ≡ true = of-now tree t s task sound l r plain m own wa wb fa fb ra rb ea eb left_bound right_bound may.slot may.has.slot (λ p e. none-proposed e may.has.answer) in
      let was : rank s l r ≡ 6 = rank-trial s l r x none may.is_trial now ∙ (ap (λ (o : Option (Slot O)). 6 + asking o r) may.has.slot ∙ ap (λ (n : ℕ). 6 + n) (asking-answered may.slot r _ may.has.answer)) in
      let is : rank s' l r ≡ 5 = rank-plain s' l r none refl in
      let sums = on_forbidding m wb fb (own - s.next) (rank s l r) (rank s' l r) (p_of s) (p_of s') (x_of s) (x_of s') (y_of s) (y_of s') (q_of s) (q_of s') (is_some s.trial) false tr refl (omega (arith, x0)) (omega (arith, p0)) (rw (was, is) (omega arith)) in
      record {
        plain =
            record {
              has_split = plain.has_split;
              of_left = λ z e. let f : None ≡ Some z = e in absurd (none-some refl f);
              no_right = λ e. refl;
              on_trial = λ k e. let f : None ≡ Some k = e in absurd (none-some refl f);
              is_known = λ k task' e f. let g : None ≡ Some k = e in absurd (none-some refl g);
              left = emptied-link s.left l (s.left.forbidden ++ offer ∷ []) plain.left;
              right = emptied-link s.right r s.right.forbidden plain.right;
              goes_on = λ asks more f e. let q : task_for s' task None Left ≡ asks = same-some (due-empty s' Left None s.held task refl sound.held) e in subst (λ (z : Task O). goes_on t l.held l.answer z ≡ true) q (left-again x may.is_trial);
            };
        rest = omega (arith, sums.0);
        effort = sums.1;
        left_bound = omega (arith, x0, left_bound);
        right_bound = omega arith;
      }
    where
      none-proposed : {a : Option (Answer O)} {p : Proposed O} {z : Task O} → a ≡ Some (Proposal p) → a ≡ Some (Exhausted z) → ⊥
      none-proposed e f = let q = same-some e f in cc

      emptied-link : (h : Half O) (c : State O) (fs : List O) → IsLinked h c → IsLinked (record { forbidden = fs; generation = h.generation + 1; slot = None }) c
      emptied-link h c fs link =
          record {
            at_most = omega (arith, link.at_most);
            is_older = λ e. omega (arith, link.at_most);
            same = λ k e f. let g : None ≡ Some k = e in absurd (none-some refl g);
            answered = λ k a e f. let g : None ≡ Some k = e in absurd (none-some refl g);
          }

  abbrev pub refused : State O
  refused = record s { right = record { forbidden = s.right.forbidden; generation = s.right.generation + 1; slot = None } }

  -- turns down what the right part proposed before the node was asked anew
  pub refuses : (generation : ℕ) → MayRefuse s Right generation → Low 0 m refused
  refuses generation may =
      let s' : State O = refused in
      let x : Trial O = may.trial in
      let k : Slot O = may.slot in
      let none : s.answer ≡ None = may.seeks.unanswered in
      let same_task : may.task ≡ task = same-some may.seeks.held sound.held in
      let link = plain.right.answered k _ may.has.slot may.has.answer in
      let cur : is_current s.right.slot r ≡ true = current s.right.slot k r may.has.slot link.0 in
      let tr : is_some s.trial ≡ true = ap (λ (o : Option (Trial O)). is_some o) may.is_trial in
      let on : k.on_trial ≡ true = plain.on_trial k may.has.slot in
      let stale : k.asked < task.generation = elim may.is_stale [ inl off ↦ absurd (no-bool on off) | inr less ↦ subst (λ (z : Task O). k.asked < z.generation) same_task less ] in
      let old : is_of_now (generation_of s.held) s.right.slot ≡ false = rw (may.has.slot, sound.held) (false-if (nat_eq k.asked task.generation) (λ h. let e : k.asked ≡ task.generation = eqb-true k.asked task.generation h in omega (arith, e, stale))) in
      let banned : entails_some t may.proposed.offer task.ban ≡ true = elim (plain.is_known k task may.has.slot sound.held) [
        | inl e ↦ absurd (omega (arith, e, stale))
        | inr known ↦ let q : known.1 ≡ may.proposed = proposal-same known.2 may.has.answer in subst (λ (z : Proposed O). entails_some t z.offer task.ban ≡ true) q known.3
      ] in
      let ok : SlotIsSound tree t s.round s.name s.trial task Right s.right k = sound.right.slots k may.has.slot in
      let way = ok.for_trial on in
      let same_trial : way.trial ≡ x = same-some way.is_trial may.is_trial in
      let given : k.task.given ≡ x.offer = way.given ∙ ap (λ (z : Trial O). z.offer) same_trial in
      let asks : Task O = task_for s' task (Some x) Right in
      let again : goes_on t r.held r.answer asks ≡ true = would-go-on tree t laws r k.task asks may.proposed link.0 link.1 ok.belongs.given given way.ban banned in
      let owed : due s' Right None s.held ≡ Some asks = due-empty s' Right None s.held task refl sound.held ∙ ap (λ (o : Option (Trial O)). Some (task_for s' task o Right)) may.is_trial in
      let counts : right_counts t s r ≡ true = rw cur refl in
      let counts' : right_counts t s' r ≡ true = ap (λ (o : Option (Task O)). would_go_on t r o) owed ∙ again in
      let pends : right_pends s r ≡ false = and-second (not (is_some s.answer)) _ (and-false (is_of_now (generation_of s.held) s.right.slot) _ old) in
      let pends' : right_pends s' r ≡ false = and-second (not (is_some s.answer)) false refl in
      let y0 : y_of s' ≡ y_of s = picked-same (right_counts t s' r) (right_counts t s r) (right_pends s' r) (right_pends s r) rb wb (counts' ∙ sym counts) (pends' ∙ sym pends) in
      let q0 : q_of s' ≡ q_of s = ap (λ (b : Bool). picked b eb fb) (counts' ∙ sym counts) in
      let was : rank s l r ≡ 10 = rank-stale s l r x none may.is_trial old in
      let is : rank s' l r ≡ 9 = rank-trial s' l r x none may.is_trial refl in
      let sums = on_right m wb fb (own - s.next) m 0 (rank s l r) (rank s' l r) (p_of s) (p_of s') (x_of s) (x_of s') (y_of s) (y_of s') (q_of s) (q_of s') (is_some s.trial) (is_some s'.trial) tr tr (omega arith) (omega arith) (omega (arith, y0)) (rw (was, is, y0) (omega (arith, q0))) in
      record {
        plain =
            record {
              has_split = plain.has_split;
              of_left = plain.of_left;
              no_right = λ e. refl;
              on_trial = λ j e. let f : None ≡ Some j = e in absurd (none-some refl f);
              is_known = λ j task' e f. let g : None ≡ Some j = e in absurd (none-some refl g);
              left = plain.left;
              right =
                  record {
                    at_most = omega (arith, plain.right.at_most);
                    is_older = λ e. omega (arith, plain.right.at_most);
                    same = λ j e f. let g : None ≡ Some j = e in absurd (none-some refl g);
                    answered = λ j a e f. let g : None ≡ Some j = e in absurd (none-some refl g);
                  };
              goes_on = λ z more f e. absurd (no-bool (current-in-trial tree t s task sound l r plain m own wa wb fa fb ra rb ea eb left_bound right_bound x may.is_trial) f);
            };
        rest = sums.0;
        effort = sums.1;
        left_bound = left_bound;
        right_bound = subst (λ (b : Bool). picked b (y_of s') 0 ≤ wb) (sym tr) (let was_bound : picked true (y_of s) 0 ≤ wb = subst (λ (b : Bool). picked b (y_of s) 0 ≤ wb) tr right_bound in omega (arith, was_bound, y0));
      }
    where
      proposal-same : {a : Option (Answer O)} {p q : Proposed O} → a ≡ Some (Proposal p) → a ≡ Some (Proposal q) → p ≡ q
      proposal-same e f = let g = same-some e f in cc

  -- the left part has no offer that serves
  pub gives-up : (z : Task O) → s.answer ≡ None → IsSpent s → Low 0 m (record s { answer = Some (Exhausted z) })
  gives-up z none why =
      let s' : State O = record s { answer = Some (Exhausted z) } in
      let tr : is_some s.trial ≡ false = ap (λ (o : Option (Trial O)). is_some o) why.no_trial in
      let free : s.right.slot ≡ None = plain.no_right why.no_trial in
      let at : s.left.slot ≡ Some why.slot = on-left why.side why.has.slot in
      let was : rank s l r ≡ 2 = rank-plain s l r none why.no_trial ∙ (ap (λ (o : Option (Slot O)). 2 + asking o l) at ∙ ap (λ (n : ℕ). 2 + n) (asking-answered why.slot l _ why.has.answer)) in
      let sums = on_left m wb fb (own - s.next) m (rank s l r) (rank s' l r) (p_of s) (p_of s') (x_of s) (x_of s') (y_of s) (y_of s') (q_of s) (q_of s') (is_some s.trial) (is_some s'.trial) tr tr (omega arith) (rw was (omega arith)) in
      record {
        plain =
            record {
              has_split = plain.has_split;
              of_left = plain.of_left;
              no_right = plain.no_right;
              on_trial = plain.on_trial;
              is_known = λ k task' e f. absurd (none-some free e);
              left = plain.left;
              right = plain.right;
              goes_on = λ asks more f e. plain.goes_on asks more f (due-filled s Left s.left.slot s.held why.slot at ∙ (sym (due-filled s' Left s.left.slot s.held why.slot at) ∙ e));
            };
        rest = omega (arith, sums.0);
        effort = sums.1;
        left_bound = left_bound;
        right_bound = rw tr (omega arith);
      }
    where
      on-left : (side : Side) → (half s side).slot ≡ Some why.slot → s.left.slot ≡ Some why.slot
      on-left Left e = e
      on-left Right e = absurd (none-some (plain.no_right why.no_trial) e)

  -- the node takes the answer of the left part
  pub takes-left-answer : (k : Slot O) (a : Answer O) → s.answer ≡ None → s.left.slot ≡ Some k → k.answer ≡ None → l.held ≡ Some k.task → l.answer ≡ Some a → Low 0 m (record s { left = record s.left { slot = Some (record k { answer = Some a }) } })
  takes-left-answer k a none at waits held said =
      let k' : Slot O = record k { answer = Some a } in
      let s' : State O = record s { left = record s.left { slot = Some k' } } in
      let free : s.trial ≡ None = no-trial tree t s task sound l r plain m own wa wb fa fb ra rb ea eb left_bound right_bound k at waits in
      let tr : is_some s.trial ≡ false = ap (λ (o : Option (Trial O)). is_some o) free in
      let cur : is_current s.left.slot l ≡ true = current s.left.slot k l at held in
      let cur' : is_current (Some k') l ≡ true = current (Some k') k' l refl held in
      let x0 : x_of s' ≡ x_of s = picked-same (left_counts s' l) (left_counts s l) (left_pends s' l) (left_pends s l) ra wa (rw (cur, cur') refl) (rw (cur, cur') refl) in
      let p0 : p_of s' ≡ p_of s = ap (λ (b : Bool). picked b ea fa) (let e : left_counts s' l ≡ left_counts s l = rw (cur, cur') refl in e) in
      let was : rank s l r ≡ 3 = rank-plain s l r none free ∙ (ap (λ (o : Option (Slot O)). 2 + asking o l) at ∙ ap (λ (n : ℕ). 2 + n) (asking-awaited k l waits (ap (λ (o : Option (Slot O)). is_current o l) (sym at) ∙ cur))) in
      let is : rank s' l r ≡ 2 = rank-plain s' l r none free in
      let sums = on_left m wb fb (own - s.next) m (rank s l r) (rank s' l r) (p_of s) (p_of s') (x_of s) (x_of s') (y_of s) (y_of s') (q_of s) (q_of s') (is_some s.trial) (is_some s'.trial) tr tr (omega (arith, x0)) (rw (was, is) (omega (arith, p0))) in
      record {
        plain =
            record {
              has_split = plain.has_split;
              of_left = plain.of_left;
              no_right = plain.no_right;
              on_trial = plain.on_trial;
              is_known = plain.is_known;
              left =
                  record {
                    at_most = plain.left.at_most;
                    is_older = λ e. let f : Some k' ≡ None = e in absurd (none-some f refl);
                    same = λ j e f. let g : k' ≡ j = same-some refl e in plain.left.same k at f ∙ ap (λ (z : Slot O). Some z.task) g;
                    answered = λ j b e f. let g : k' ≡ j = same-some refl e in (held ∙ ap (λ (z : Slot O). Some z.task) g, said ∙ (ap (λ (z : Slot O). z.answer) g ∙ f));
                  };
              right = plain.right;
              goes_on = λ asks more f e. absurd (no-bool cur' f);
            };
        rest = omega (arith, sums.0);
        effort = sums.1;
        left_bound = rw x0 left_bound;
        right_bound = rw tr (omega arith);
      }

  -- the node takes the answer of the right part
  pub takes-right-answer : (k : Slot O) (a : Answer O) → s.answer ≡ None → s.right.slot ≡ Some k → k.answer ≡ None → r.held ≡ Some k.task → r.answer ≡ Some a → Low 0 m (record s { right = record s.right { slot = Some (record k { answer = Some a }) } })
  takes-right-answer k a none at waits held said =
      let k' : Slot O = record k { answer = Some a } in
      let s' : State O = record s { right = record s.right { slot = Some k' } } in
      let have = in-trial tree t s task sound l r plain m own wa wb fa fb ra rb ea eb left_bound right_bound k at in
      let x : Trial O = have.0 in
      let tr : is_some s.trial ≡ true = ap (λ (o : Option (Trial O)). is_some o) have.1 in
      let cur : is_current s.right.slot r ≡ true = current s.right.slot k r at held in
      let cur' : is_current (Some k') r ≡ true = current (Some k') k' r refl held in
      let now : is_of_now (generation_of s.held) s.right.slot ≡ true = of-now tree t s task sound l r plain m own wa wb fa fb ra rb ea eb left_bound right_bound k at (λ p e. none-some waits e) in
      let now' : is_of_now (generation_of s.held) (Some k') ≡ true = ap (λ (o : Option (Slot O)). is_of_now (generation_of s.held) o) (sym at) ∙ now in
      let counts : right_counts t s' r ≡ right_counts t s r = rw (cur, cur') refl in
      let pends : right_pends s' r ≡ right_pends s r = rw (cur, cur', now, now') refl in
      let y0 : y_of s' ≡ y_of s = picked-same (right_counts t s' r) (right_counts t s r) (right_pends s' r) (right_pends s r) rb wb counts pends in
      let q0 : q_of s' ≡ q_of s = ap (λ (b : Bool). picked b eb fb) counts in
      let was : rank s l r ≡ 7 = rank-trial s l r x none have.1 now ∙ (ap (λ (o : Option (Slot O)). 6 + asking o r) at ∙ ap (λ (n : ℕ). 6 + n) (asking-awaited k r waits (ap (λ (o : Option (Slot O)). is_current o r) (sym at) ∙ cur))) in
      let is : rank s' l r ≡ 6 = rank-trial s' l r x none have.1 now' in
      let sums = on_right m wb fb (own - s.next) m 0 (rank s l r) (rank s' l r) (p_of s) (p_of s') (x_of s) (x_of s') (y_of s) (y_of s') (q_of s) (q_of s') (is_some s.trial) (is_some s'.trial) tr tr (omega arith) (omega arith) (omega (arith, y0)) (rw (was, is, y0) (omega (arith, q0))) in
      record {
        plain =
            record {
              has_split = plain.has_split;
              of_left = plain.of_left;
              no_right = λ e. absurd (none-some e have.1);
              on_trial = λ j e. let g : k' ≡ j = same-some refl e in ap (λ (z : Slot O). z.on_trial) (sym g) ∙ plain.on_trial k at;
              is_known = λ j task' e f. let g : k' ≡ j = same-some refl e in elim (plain.is_known k task' at f) [ inl h ↦ inl (ap (λ (z : Slot O). z.asked) (sym g) ∙ h) | inr h ↦ absurd (none-some waits h.2) ];
              left = plain.left;
              right =
                  record {
                    at_most = plain.right.at_most;
                    is_older = λ e. let f : Some k' ≡ None = e in absurd (none-some f refl);
                    same = λ j e f. let g : k' ≡ j = same-some refl e in plain.right.same k at f ∙ ap (λ (z : Slot O). Some z.task) g;
                    answered = λ j b e f. let g : k' ≡ j = same-some refl e in (held ∙ ap (λ (z : Slot O). Some z.task) g, said ∙ (ap (λ (z : Slot O). z.answer) g ∙ f));
                  };
              goes_on = λ z more f e. absurd (no-bool (current-in-trial tree t s task sound l r plain m own wa wb fa fb ra rb ea eb left_bound right_bound x have.1) f);
            };
        rest = sums.0;
        effort = sums.1;
        left_bound = left_bound;
        right_bound = subst (λ (b : Bool). picked b (y_of s') 0 ≤ wb) (sym tr) (let was_bound : picked true (y_of s) 0 ≤ wb = subst (λ (b : Bool). picked b (y_of s) 0 ≤ wb) tr right_bound in omega (arith, was_bound, y0));
      }

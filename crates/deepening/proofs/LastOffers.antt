-- The offer with which a node answers is that of the last event of its history.
use Rattle.std.proofs.Common.{◌≡◌, ◌∙◌, ℕ, ◌<◌, ◌+◌, Bool, true, false, Option, Some, None, List, [], ◌∷◌, ◌++◌, sym, ap, refl, subst, arith, if◌then◌else◌}
use Rattle.std.specs.Prelude.{IsSome}
use Rattle.nego_laws.specs.Tree.{Tree}
use Rattle.nego_node.specs.Proposed.{Proposed}
use Rattle.nego_node.specs.Machine.{Slot, Half, Trial, State, half, other, after, beginning, resumed, fresh, emptied, kept_for_trial, forbidding, posted_in, filled, answered_in, proposing, giving_up, proposed_by, goes_on}
use Rattle.nego_node.specs.Lawful.{Lawful, IsRun, replay, LeavesFree, MayTry, MayAsk, MayPost, MayAdopt, MayAgree, MayForbid, MayRefuse}
use Rattle.nego_node.specs.declared.tasks.Task.{Task}
use Rattle.nego_node.specs.declared.tasks.Side.{Side}
use Rattle.nego_node.specs.declared.tasks.Side.TheVariants.{Left, Right}
use Rattle.nego_node.specs.declared.answers.Answer.{Answer}
use Rattle.nego_node.specs.declared.answers.Answer.TheVariants as answer
use Rattle.nego_node.specs.declared.events.Outcome.{Outcome}
use Rattle.nego_node.specs.declared.events.Outcome.TheVariants as outcome
use Rattle.nego_node.specs.declared.events.Event.{Event}
use Rattle.nego_node.specs.declared.events.Event.TheVariants.{Received, Tried, Split, Asked, Posted, Adopted, Agreed, Forbidden, Refused, Exhausted}
use Rattle.nego_node.proofs.Sides.{none-some, same-some, half-own, half-other, emptied-slot}
use Rattle.deepening.specs.Kept.{offer_by, last_offer}

-- what holds of a side and of the other one holds of each
two-sides : (P : Side → Type 0) (side x : Side) → P side → P (other side) → P x
two-sides P Left Left p q = p
two-sides P Left Right p q = q
two-sides P Right Left p q = q
two-sides P Right Right p q = p

pub false-true : false ≡ true → ⊥
false-true e = cc

module _ {O : Type 0} where
  pub last-is : (es : List (Event O)) (e : Event O) → last_offer (es ++ e ∷ []) ≡ offer_by e
  last-is [] e = refl
  last-is (d ∷ []) e = refl
  last-is (d ∷ f ∷ es) e = last-is (f ∷ es) e

  unanswered : (b : Bool) (s : State O) (task : Task O) → (if b then resumed s task else fresh s task).answer ≡ None
  unanswered true s task = refl
  unanswered false s task = refl

  by-held : (s : State O) (held : Option (Task O)) (offer : O) (p : Proposed O) → s.answer ≡ None → (proposing s held offer).answer ≡ Some (answer.Proposal p) → Some offer ≡ Some p.offer
  by-held s None offer p none is = absurd (none-some none is)
  by-held s (Some task) offer p none is = ap (λ (a : Option (Answer O)). proposed_by a) is

  given-up : (s : State O) (held : Option (Task O)) (p : Proposed O) → s.answer ≡ None → (giving_up s held).answer ≡ Some (answer.Proposal p) → ⊥
  given-up s None p none is = none-some none is
  given-up s (Some task) p none is = none-some refl (ap (λ (a : Option (Answer O)). proposed_by a) is)

  -- an event with which a node answers an offer has that offer
  pub answered : (t : Tree O) (s : State O) (e : Event O) (p : Proposed O) → s.answer ≡ None → (after t s e).answer ≡ Some (answer.Proposal p) → offer_by e ≡ Some p.offer
  answered t s (Received task) p none is = absurd (none-some (unanswered (goes_on t s.held s.answer task) s task) is)
  answered t s (Tried item outcome.None) p none is = absurd (none-some none is)
  answered t s (Tried item (outcome.Banned offer)) p none is = absurd (none-some none is)
  answered t s (Tried item (outcome.Offer offer)) p none is = by-held (record s { next = s.next + 1 }) s.held offer p none is
  answered t s Split p none is = absurd (none-some none is)
  answered t s (Asked side task) p none is = absurd (none-some none is)
  answered t s (Posted side a) p none is = absurd (none-some none is)
  answered t s (Adopted side g offer) p none is = absurd (none-some none is)
  answered t s (Agreed side g offer) p none is = by-held s s.held offer p none is
  answered t s (Forbidden side g offer) p none is = absurd (none-some none is)
  answered t s (Refused side g) p none is = absurd (none-some none is)
  answered t s Exhausted p none is = absurd (given-up s s.held p none is)

  -- What each event keeps, whatever answers come from outside: no slot is filled while an item is left; a trial's own
  -- side has its answer; and no answer is awaited where an offer was answered.
  record IsOrderly (t : Tree O) (s : State O) : Type 0 where
    quiet : s.next < t.items s.name → (x : Side) → (half s x).slot ≡ None
    trial : (trial : Trial O) → s.trial ≡ Some trial → IsSome (answered_in (half s trial.side).slot)
    calm : (p : Proposed O) → s.answer ≡ Some (answer.Proposal p) → (x : Side) (k : Slot O) → (half s x).slot ≡ Some k → IsSome k.answer

  begins-orderly : (t : Tree O) (round name : ℕ) → IsOrderly t (beginning round name)
  begins-orderly t round name =
      record { quiet = λ l x. unasked-slot x; trial = λ trial is. absurd (none-some refl is); calm = λ p is. absurd (none-some refl is) }
    where
      unasked-slot : (x : Side) → (half {O = O} (beginning round name) x).slot ≡ None
      unasked-slot Left = refl
      unasked-slot Right = refl

  has-answer : (o : Option (Slot O)) (k : Slot O) → o ≡ Some k → IsSome (answered_in o) → IsSome k.answer
  has-answer o k is some = subst (λ (x : Option (Slot O)). IsSome (answered_in x)) is some

  some-answer : (k : Slot O) (a : Answer O) → k.answer ≡ Some a → IsSome k.answer
  some-answer k a is = subst (λ (x : Option (Answer O)). IsSome x) (sym is) refl

  no-answer : (k : Slot O) → k.answer ≡ None → IsSome k.answer → ⊥
  no-answer k none some = false-true (subst (λ (x : Option (Answer O)). IsSome x) none some)

  module _ (tree : O → Tree O) (t : Tree O) (s : State O) (o : IsOrderly t s) where
    receives : (task : Task O) (goes : Bool) → IsOrderly t (if goes then resumed s task else fresh s task)
    receives task true = record { quiet = o.quiet; trial = o.trial; calm = λ p is. absurd (none-some refl is) }
    receives task false =
        record { quiet = λ l x. emptied-both x; trial = λ trial is. absurd (none-some refl is); calm = λ p is. absurd (none-some refl is) }
      where
        emptied-both : (x : Side) → (half (fresh s task) x).slot ≡ None
        emptied-both Left = emptied-slot s.left
        emptied-both Right = emptied-slot s.right

    proposes : (held : Option (Task O)) (offer : O) → ((x : Side) (k : Slot O) → (half s x).slot ≡ Some k → IsSome k.answer)
        → IsOrderly t (proposing s held offer)
    proposes None offer answered_ = o
    proposes (Some task) offer answered_ = record { quiet = o.quiet; trial = o.trial; calm = λ p is x k slot. answered_ x k slot }

    gives-up : (held : Option (Task O)) → IsOrderly t (giving_up s held)
    gives-up None = o
    gives-up (Some task) =
        record {
          quiet = o.quiet;
          trial = o.trial;
          calm = λ p is. absurd (none-some refl (ap (λ (a : Option (Answer O)). proposed_by a) is));
        }

    asks : (side : Side) (task : Task O) → MayAsk t s side task → IsOrderly t (after t s (Asked side task))
    asks side task w =
        record {
          quiet = λ l. absurd (omega (arith, l, w.seeks.all_tried));
          trial = λ trial is. by-trial trial is (subst (λ (x : Option (Trial O)). LeavesFree x side) is w.is_free);
          calm = λ p is. absurd (none-some w.seeks.seeks.unanswered is);
        }
      where
        by-trial : (trial : Trial O) → s.trial ≡ Some trial → trial.side ≡ other side
            → IsSome (answered_in (half (after t s (Asked side task)) trial.side).slot)
        by-trial trial is at =
            subst (λ (x : Side). IsSome (answered_in (half (after t s (Asked side task)) x).slot)) (sym at)
            (subst (λ (h : Half O). IsSome (answered_in h.slot)) (sym (half-other s side (filled s side task) (half s (other side))))
            (subst (λ (x : Side). IsSome (answered_in (half s x).slot)) at (o.trial trial is)))

    posted-has : (h : Half O) (k : Option (Slot O)) (a : Answer O) → IsSome (answered_in k) → IsSome (answered_in (posted_in h k a).slot)
    posted-has h None a some = absurd (false-true some)
    posted-has h (Some k) a some = refl

    posted-at : (a : Answer O) (side x : Side) → IsSome (answered_in (half s x).slot) → IsSome (answered_in (half (after t s (Posted side a)) x).slot)
    posted-at a Left Left some = posted-has s.left s.left.slot a some
    posted-at a Left Right some = some
    posted-at a Right Left some = some
    posted-at a Right Right some = posted-has s.right s.right.slot a some

    posts : (side : Side) (a : Answer O) → MayPost s side a → IsOrderly t (after t s (Posted side a))
    posts side a w =
        record {
          quiet = λ l. absurd (none-some (o.quiet l side) w.is_slot);
          trial = λ trial is. posted-at a side trial.side (o.trial trial is);
          calm = λ p is. absurd (no-answer w.slot w.unanswered (o.calm p is side w.slot w.is_slot));
        }

    adopts : (side : Side) (g : ℕ) (offer : O) → MayAdopt t s side g offer → IsOrderly t (after t s (Adopted side g offer))
    adopts side g offer w =
        record {
          quiet = λ l. absurd (none-some (o.quiet l side) w.has.slot);
          trial = λ trial is. by-trial trial (same-some refl is);
          calm = λ p is. absurd (none-some w.seeks.unanswered is);
        }
      where
        own : IsSome (answered_in (half (after t s (Adopted side g offer)) side).slot)
        own =
            subst (λ (h : Half O). IsSome (answered_in h.slot))
            (sym (half-own s side (half s side) (kept_for_trial (half s (other side)))))
            (subst (λ (k : Option (Slot O)). IsSome (answered_in k)) (sym w.has.slot) (some-answer w.slot _ w.has.answer))

        by-trial : (trial : Trial O) → record { side = side; offer = offer } ≡ trial
            → IsSome (answered_in (half (after t s (Adopted side g offer)) trial.side).slot)
        by-trial trial is = subst (λ (x : Trial O). IsSome (answered_in (half (after t s (Adopted side g offer)) x.side).slot)) is own

    agrees : (side : Side) (g : ℕ) (offer : O) → MayAgree t s side g offer → IsOrderly t (after t s (Agreed side g offer))
    agrees side g offer w = proposes s.held offer (λ x. two-sides (λ x. (k : Slot O) → (half s x).slot ≡ Some k → IsSome k.answer) side x here there)
      where
        here : (k : Slot O) → (half s side).slot ≡ Some k → IsSome k.answer
        here k is = subst (λ (x : Slot O). IsSome x.answer) (same-some w.has.slot is) (some-answer w.slot _ w.has.answer)

        there : (k : Slot O) → (half s (other side)).slot ≡ Some k → IsSome k.answer
        there k is =
            has-answer (half s (other side)).slot k is
            (subst (λ (x : Side). IsSome (answered_in (half s x).slot)) w.of_other (o.trial w.trial w.is_trial))

    forbids : (side : Side) (g : ℕ) (offer : O) → MayForbid s side g offer → IsOrderly t (after t s (Forbidden side g offer))
    forbids side g offer w =
        record {
          quiet = λ l x. two-sides (λ x. (half (after t s (Forbidden side g offer)) x).slot ≡ None) side x own others;
          trial = λ trial is. absurd (none-some refl is);
          calm = λ p is. absurd (none-some w.seeks.unanswered is);
        }
      where
        own : (half (after t s (Forbidden side g offer)) side).slot ≡ None
        own =
            ap (λ (h : Half O). h.slot) (half-own s side (forbidding (half s side) offer) (emptied (half s (other side))))
            ∙ emptied-slot (half s side)

        others : (half (after t s (Forbidden side g offer)) (other side)).slot ≡ None
        others =
            ap (λ (h : Half O). h.slot) (half-other s side (forbidding (half s side) offer) (emptied (half s (other side))))
            ∙ emptied-slot (half s (other side))

    refuses : (side : Side) (g : ℕ) → MayRefuse s side g → IsOrderly t (after t s (Refused side g))
    refuses side g w =
        record {
          quiet = λ l x. two-sides (λ x. (half (after t s (Refused side g)) x).slot ≡ None) side x own (others l);
          trial = λ trial is. by-trial trial is (ap (λ (x : Trial O). x.side) (same-some is w.is_trial) ∙ w.of_other);
          calm = λ p is. absurd (none-some w.seeks.unanswered is);
        }
      where
        own : (half (after t s (Refused side g)) side).slot ≡ None
        own =
            ap (λ (h : Half O). h.slot) (half-own s side (emptied (half s side)) (half s (other side)))
            ∙ emptied-slot (half s side)

        others : s.next < t.items s.name → (half (after t s (Refused side g)) (other side)).slot ≡ None
        others l =
            ap (λ (h : Half O). h.slot) (half-other s side (emptied (half s side)) (half s (other side)))
            ∙ o.quiet l (other side)

        by-trial : (trial : Trial O) → s.trial ≡ Some trial → trial.side ≡ other side
            → IsSome (answered_in (half (after t s (Refused side g)) trial.side).slot)
        by-trial trial is at =
            subst (λ (x : Side). IsSome (answered_in (half (after t s (Refused side g)) x).slot)) (sym at)
            (subst (λ (h : Half O). IsSome (answered_in h.slot)) (sym (half-other s side (emptied (half s side)) (half s (other side))))
            (subst (λ (x : Side). IsSome (answered_in (half s x).slot)) at (o.trial trial is)))

  tries : (tree : O → Tree O) (t : Tree O) (s : State O) (item : ℕ) (u : Outcome O) → IsOrderly t s → MayTry tree t s item u
      → IsOrderly t (after t s (Tried item u))
  tries tree t s item u o w = by-outcome u
    where
      next : IsOrderly t (record s { next = s.next + 1 })
      next =
          record {
            quiet = λ l. o.quiet (omega (arith, l));
            trial = o.trial;
            calm = λ p is. absurd (none-some w.seeks.unanswered is);
          }

      by-outcome : (v : Outcome O) → IsOrderly t (after t s (Tried item v))
      by-outcome outcome.None = next
      by-outcome (outcome.Banned offer) = next
      by-outcome (outcome.Offer offer) =
          proposes tree t (record s { next = s.next + 1 }) next s.held offer
          (λ x k slot. absurd (none-some (o.quiet (omega (arith, w.exists, w.is_next)) x) slot))

  keeps-orderly : (tree : O → Tree O) (t : Tree O) (s : State O) (e : Event O) → IsOrderly t s → Lawful tree t s e → IsOrderly t (after t s e)
  keeps-orderly tree t s (Received task) o w = receives tree t s o task (goes_on t s.held s.answer task)
  keeps-orderly tree t s (Tried item outcome) o w = tries tree t s item outcome o w
  keeps-orderly tree t s Split o w = record { quiet = o.quiet; trial = o.trial; calm = o.calm }
  keeps-orderly tree t s (Asked side task) o w = asks tree t s o side task w
  keeps-orderly tree t s (Posted side a) o w = posts tree t s o side a w
  keeps-orderly tree t s (Adopted side g offer) o w = adopts tree t s o side g offer w
  keeps-orderly tree t s (Agreed side g offer) o w = agrees tree t s o side g offer w
  keeps-orderly tree t s (Forbidden side g offer) o w = forbids tree t s o side g offer w
  keeps-orderly tree t s (Refused side g) o w = refuses tree t s o side g w
  keeps-orderly tree t s Exhausted o w = gives-up tree t s o s.held

  -- a lawful event with which a node comes to the answer of an offer has that offer
  last-event : (tree : O → Tree O) (t : Tree O) (s : State O) (e : Event O) (p : Proposed O) → IsOrderly t s → Lawful tree t s e
      → (after t s e).answer ≡ Some (answer.Proposal p) → offer_by e ≡ Some p.offer
  last-event tree t s (Received task) p o w is = absurd (none-some (unanswered (goes_on t s.held s.answer task) s task) is)
  last-event tree t s (Tried item outcome) p o w is = answered t s (Tried item outcome) p w.seeks.unanswered is
  last-event tree t s Split p o w is = answered t s Split p w.seeks.seeks.unanswered is
  last-event tree t s (Asked side task) p o w is = answered t s (Asked side task) p w.seeks.seeks.unanswered is
  last-event tree t s (Posted side a) p o w is = absurd (no-answer w.slot w.unanswered (o.calm p is side w.slot w.is_slot))
  last-event tree t s (Adopted side g offer) p o w is = answered t s (Adopted side g offer) p w.seeks.unanswered is
  last-event tree t s (Agreed side g offer) p o w is = answered t s (Agreed side g offer) p w.seeks.unanswered is
  last-event tree t s (Forbidden side g offer) p o w is = answered t s (Forbidden side g offer) p w.seeks.unanswered is
  last-event tree t s (Refused side g) p o w is = answered t s (Refused side g) p w.seeks.unanswered is
  last-event tree t s Exhausted p o w is = answered t s Exhausted p w.seeks.seeks.unanswered is

  last-of-run : (tree : O → Tree O) (t : Tree O) (s : State O) (e : Event O) (es : List (Event O)) (p : Proposed O) → IsOrderly t s
      → IsRun tree t s (e ∷ es) → (replay t s (e ∷ es)).answer ≡ Some (answer.Proposal p) → last_offer (e ∷ es) ≡ Some p.offer
  last-of-run tree t s e [] p o run is = last-event tree t s e p o run.0 is
  last-of-run tree t s e (f ∷ es) p o run is = last-of-run tree t (after t s e) f es p (keeps-orderly tree t s e o run.0) run.1 is

  -- Where a run from the beginning leads to the answer of an offer, its last event has the offer.
  pub last-offer-is : (tree : O → Tree O) (t : Tree O) (round name : ℕ) (history : List (Event O)) (p : Proposed O)
      → IsRun tree t (beginning round name) history → (replay t (beginning round name) history).answer ≡ Some (answer.Proposal p)
      → last_offer history ≡ Some p.offer
  last-offer-is tree t round name [] p run is = absurd (none-some refl is)
  last-offer-is tree t round name (e ∷ es) p run is = last-of-run tree t (beginning round name) e es p (begins-orderly t round name) run is

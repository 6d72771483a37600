use Rattle.std.proofs.Common.{◌≡◌, ◌∙◌, ℕ, Option, Some, sym, subst, ap}
use Rattle.nego_laws.specs.Tree.{Tree}
use Rattle.nego_node.specs.Machine.{Slot, Trial, State, half, other, side_of, proposed_by, proposed_in, task_for}
use Rattle.nego_node.specs.Proposed.{Proposed}
use Rattle.nego_node.specs.Lawful.{Has, MayAsk, MayAgree, MayRefuse}
use Rattle.nego_node.specs.declared.tasks.Task.{Task}
use Rattle.nego_node.specs.declared.tasks.Side.{Side}
use Rattle.nego_node.specs.declared.answers.Answer.{Answer}
use Rattle.nego_node.specs.declared.answers.Answer.TheVariants.{Proposal}
use Rattle.nego_node.proofs.Sides.{same-some, other-other}

-- the arguments of a lawful event are those that the state gives
module _ {O : Type 0} (t : Tree O) (s : State O) where
  pub proposed-has : (side : Side) (k : Slot O) (p : Proposed O) → Has s side k (Proposal p) → proposed_in (half s side).slot ≡ Some p.offer
  proposed-has side k p has = ap (λ (o : Option (Slot O)). proposed_in o) has.slot ∙ ap (λ (o : Option (Answer O)). proposed_by o) has.answer

  -- the other side of the trial
  pub trial-other : (a side r : Side) (trial : Trial O) → side_of s.trial ≡ Some a → s.trial ≡ Some trial → trial.side ≡ other side → r ≡ other a → side ≡ r
  trial-other a side r trial known is of_other at =
      let here : trial.side ≡ a = same-some (ap (λ (o : Option (Trial O)). side_of o) is) known in
      sym (other-other side) ∙ (ap other (sym of_other ∙ here) ∙ sym at)

  pub agree-at : (a r side : Side) (g : ℕ) (x o : O) → side_of s.trial ≡ Some a → r ≡ other a → proposed_in (half s r).slot ≡ Some o → MayAgree t s side g x → MayAgree t s r (half s r).generation o
  agree-at a r side g x o known at found may =
      let here : MayAgree t s r g x = subst (λ (y : Side). MayAgree t s y g x) (trial-other a side r may.trial known may.is_trial may.of_other at) may in
      let same : x ≡ o = same-some (proposed-has r here.slot (record { task = here.asked_for; offer = x }) here.has) found in
      subst (λ (y : O). MayAgree t s r (half s r).generation y) same (subst (λ (k : ℕ). MayAgree t s r k x) here.is_named here)

  pub refuse-at : (a r side : Side) (g : ℕ) → side_of s.trial ≡ Some a → r ≡ other a → MayRefuse s side g → MayRefuse s r (half s r).generation
  refuse-at a r side g known at may =
      let here : MayRefuse s r g = subst (λ (y : Side). MayRefuse s y g) (trial-other a side r may.trial known may.is_trial may.of_other at) may in
      subst (λ (k : ℕ). MayRefuse s r k) here.is_named here

  pub ask-at : (side : Side) (task held x : Task O) → s.held ≡ Some held → task ≡ task_for s held s.trial side → MayAsk t s side x → MayAsk t s side task
  ask-at side task held x holds is may =
      record {
        task = may.task;
        seeks = may.seeks;
        has_split = may.has_split;
        is_empty = may.is_empty;
        is_free = may.is_free;
        is_for = is ∙ ap (λ (h : Task O). task_for s h s.trial side) (same-some holds may.seeks.seeks.held);
      }

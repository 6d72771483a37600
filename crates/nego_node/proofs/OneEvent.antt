use Rattle.std.proofs.Common.{◌≡◌, ℕ, ◌+◌, Bool, true, false, List, [], ◌∷◌, ◌++◌, length, ap, sym, ◌∙◌, Option, Some, None, if◌then◌else◌, is_some}
use Rattle.containers.specs.Growing.{Growing}
use Rattle.nego_laws.specs.Tree.{Tree, Laws}
use Rattle.nego_node.specs.Machine.{Slot, Half, State, half, other, with_halves, generation_of, after, proposing, giving_up, emptied, filled, posted_in, kept_for_trial, forbidding, has_proposal}
use Rattle.nego_node.specs.Parts.{part, joined, with_part, emptied_part, forbidding_part, filled_part, marked_part}
use Rattle.nego_node.specs.Lawful.{MayTry, MaySplit, MayAsk, MayPost, MayAdopt, MayAgree, MayForbid, MayRefuse, MayGiveUp}
use Rattle.nego_node.specs.Sound.{IsTrueAnswer, IsUselessOutcome}
use Rattle.nego_node.specs.NodeValue.{half_of, PartFits}
use Rattle.nego_node.specs.NodeView.{value_of, IsKept}
use Rattle.nego_node.specs.declared.tasks.Task.{Task}
use Rattle.nego_node.specs.declared.tasks.Side.{Side}
use Rattle.nego_node.specs.declared.answers.Answer.{Answer}
use Rattle.nego_node.specs.declared.answers.Answer.TheVariants as answer
use Rattle.nego_node.specs.declared.events.Outcome.{Outcome}
use Rattle.nego_node.specs.declared.events.Outcome.TheVariants as outcome
use Rattle.nego_node.specs.declared.events.Event.{Event}
use Rattle.nego_node.specs.declared.events.Event.TheVariants.{Tried, Split, Asked, Posted, Adopted, Agreed, Forbidden, Refused, Exhausted}
use Rattle.nego_node.specs.declared.parts.Part.{Part}
use Rattle.nego_node.specs.declared.parts.Parts.{Parts}
use Rattle.nego_node.specs.declared.parts.Asking.{Asking}
use Rattle.nego_node.specs.declared.node.NodeState.TheInside.{Inside}
use Rattle.nego_node.proofs.Places.{forbidding-fits, filled-fits, marked-same, marked-fits}
use Rattle.nego_node.proofs.Steps.{kept-by, held-fits, own-fits, own-half, part-same, part-stays, part-emptied, emptied-goes, parts-stay, joined-fits, assembled, unmoved, passed-over}

-- Each change of the fields is its event.
module _ {F O S : Type 0} (tree : O → Tree O) (t : Tree O) (name : ℕ) (n : Inside F O S) (log : Growing (Event O)) (was : IsKept tree t name n) where
  pub given-up-state : (task a : Task O) → a ≡ task → (value_of n).state.held ≡ Some task → log.items ≡ n.history.items ++ Exhausted ∷ [] → (value_of (record n { answer = Some (answer.Exhausted a); history = log })).state ≡ after t (value_of n).state Exhausted
  given-up-state task a same held put =
      let s : State O = (value_of n).state in
      ap (λ (x : State O). record x { answer = Some (answer.Exhausted a) }) (unmoved tree t name n log Exhausted put was)
      ∙ (ap (λ (x : Task O). record s { answer = Some (answer.Exhausted x) }) same ∙ sym (ap (λ (h : Option (Task O)). giving_up s h) held))

  pub given-up-kept : (task a : Task O) → a ≡ task → (value_of n).state.held ≡ Some task → log.items ≡ n.history.items ++ Exhausted ∷ [] → Laws t (λ s. tree s ≡ t) → MayGiveUp t (value_of n).state → IsKept tree t name (record n { answer = Some (answer.Exhausted a); history = log })
  given-up-kept task a same held put laws may =
      kept-by tree t name n (record n { answer = Some (answer.Exhausted a); history = log }) Exhausted was laws may tt put (given-up-state task a same held put)
      (held-fits tree t name n log Exhausted put was) (parts-stay tree t name n log Exhausted put was)

  pub agreed-state : (side : Side) (g : ℕ) (task : Task O) (x : O) (a : Answer O) → a ≡ answer.Proposal (record { task = task; offer = x }) → (value_of n).state.held ≡ Some task → log.items ≡ n.history.items ++ Agreed side g x ∷ [] → (value_of (record n { answer = Some a; history = log })).state ≡ after t (value_of n).state (Agreed side g x)
  agreed-state side g task x a is held put =
      let s : State O = (value_of n).state in
      ap (λ (y : State O). record y { answer = Some a }) (unmoved tree t name n log (Agreed side g x) put was)
      ∙ (ap (λ (y : Answer O). record s { answer = Some y }) is ∙ sym (ap (λ (h : Option (Task O)). proposing s h x) held))

  pub agreed-kept : (side : Side) (g : ℕ) (task : Task O) (x : O) (a : Answer O) → a ≡ answer.Proposal (record { task = task; offer = x }) → (value_of n).state.held ≡ Some task → log.items ≡ n.history.items ++ Agreed side g x ∷ [] → Laws t (λ s. tree s ≡ t) → MayAgree t (value_of n).state side g x → IsKept tree t name (record n { answer = Some a; history = log })
  agreed-kept side g task x a is held put laws may =
      kept-by tree t name n (record n { answer = Some a; history = log }) (Agreed side g x) was laws may tt put (agreed-state side g task x a is held put)
      (held-fits tree t name n log (Agreed side g x) put was) (parts-stay tree t name n log (Agreed side g x) put was)

  pub divided-state : log.items ≡ n.history.items ++ Split ∷ [] → (value_of (record n { has_split = true; history = log })).state ≡ after t (value_of n).state Split
  divided-state put = ap (λ (x : State O). record x { has_split = true }) (unmoved tree t name n log Split put was)

  pub divided-kept : log.items ≡ n.history.items ++ Split ∷ [] → Laws t (λ s. tree s ≡ t) → MaySplit t (value_of n).state → IsKept tree t name (record n { has_split = true; history = log })
  divided-kept put laws may =
      kept-by tree t name n (record n { has_split = true; history = log }) Split was laws may tt put (divided-state put)
      (held-fits tree t name n log Split put was) (parts-stay tree t name n log Split put was)

  pub passed-over-state : (o : Outcome O) → IsUselessOutcome o → log.items ≡ n.history.items ++ Tried n.next o ∷ [] → (value_of (record n { next = n.next + 1; history = log })).state ≡ after t (value_of n).state (Tried n.next o)
  passed-over-state o useless put =
      let s : State O = (value_of n).state in
      ap (λ (x : State O). record x { next = n.next + 1 }) (unmoved tree t name n log (Tried n.next o) put was) ∙ passed-over (record s { next = n.next + 1 }) o useless

  pub passed-over-kept : (o : Outcome O) → IsUselessOutcome o → log.items ≡ n.history.items ++ Tried n.next o ∷ [] → Laws t (λ s. tree s ≡ t) → MayTry tree t (value_of n).state n.next o → IsKept tree t name (record n { next = n.next + 1; history = log })
  passed-over-kept o useless put laws may =
      kept-by tree t name n (record n { next = n.next + 1; history = log }) (Tried n.next o) was laws may tt put (passed-over-state o useless put)
      (held-fits tree t name n log (Tried n.next o) put was) (parts-stay tree t name n log (Tried n.next o) put was)

  pub proposed-state : (task : Task O) (x : O) (a : Answer O) → a ≡ answer.Proposal (record { task = task; offer = x }) → (value_of n).state.held ≡ Some task → log.items ≡ n.history.items ++ Tried n.next (outcome.Offer x) ∷ [] → (value_of (record n { next = n.next + 1; answer = Some a; history = log })).state ≡ after t (value_of n).state (Tried n.next (outcome.Offer x))
  proposed-state task x a is held put =
      let s : State O = (value_of n).state in
      ap (λ (y : State O). record y { next = n.next + 1; answer = Some a }) (unmoved tree t name n log (Tried n.next (outcome.Offer x)) put was)
      ∙ (ap (λ (y : Answer O). record s { next = n.next + 1; answer = Some y }) is ∙ sym (ap (λ (h : Option (Task O)). proposing (record s { next = n.next + 1 }) h x) held))

  pub proposed-kept : (task : Task O) (x : O) (a : Answer O) → a ≡ answer.Proposal (record { task = task; offer = x }) → (value_of n).state.held ≡ Some task → log.items ≡ n.history.items ++ Tried n.next (outcome.Offer x) ∷ [] → Laws t (λ s. tree s ≡ t) → MayTry tree t (value_of n).state n.next (outcome.Offer x) → IsKept tree t name (record n { next = n.next + 1; answer = Some a; history = log })
  proposed-kept task x a is held put laws may =
      kept-by tree t name n (record n { next = n.next + 1; answer = Some a; history = log }) (Tried n.next (outcome.Offer x)) was laws may tt put (proposed-state task x a is held put)
      (held-fits tree t name n log (Tried n.next (outcome.Offer x)) put was) (parts-stay tree t name n log (Tried n.next (outcome.Offer x)) put was)

-- the changes of the parts
module _ {F O S : Type 0} (tree : O → Tree O) (t : Tree O) (name : ℕ) (n : Inside F O S) (log : Growing (Event O)) (was : IsKept tree t name n) (side : Side) (ps : Parts O) where
  pub posted-state : (a : Answer O) (place : ℕ) → place ≡ length n.history.items → ps ≡ with_part n.parts side (marked_part (part n.parts side) place) → log.items ≡ n.history.items ++ Posted side a ∷ [] → (value_of (record n { parts = ps; history = log })).state ≡ after t (value_of n).state (Posted side a)
  posted-state a place at is put =
      let s : State O = (value_of n).state in
      let e : Event O = Posted side a in
      let own : half_of log.items (marked_part (part n.parts side) place) ≡ posted_in (half s side) (half s side).slot a =
      ap (λ (x : List (Event O)). half_of x (marked_part (part n.parts side) place)) put
      ∙ (marked-same n.history.items side a (part n.parts side) place at (own-fits tree t name n log e put was side)
      ∙ ap (λ (x : Half O). posted_in x x.slot a) (own-half tree t name n log e put was side))
      in
      assembled tree t name n log e put was side ps (marked_part (part n.parts side) place) (part n.parts (other side)) (posted_in (half s side) (half s side).slot a) (half s (other side)) is own
      (part-same tree t name n log e put was (other side))

  pub posted-kept : (a : Answer O) (place : ℕ) → place ≡ length n.history.items → ps ≡ with_part n.parts side (marked_part (part n.parts side) place) → log.items ≡ n.history.items ++ Posted side a ∷ [] → Laws t (λ s. tree s ≡ t) → MayPost (value_of n).state side a → IsTrueAnswer tree t a → IsKept tree t name (record n { parts = ps; history = log })
  posted-kept a place at is put laws may truth =
      let e : Event O = Posted side a in
      kept-by tree t name n (record n { parts = ps; history = log }) e was laws may truth put (posted-state a place at is put)
      (held-fits tree t name n log e put was)
      (rw is (joined-fits log.items side (marked_part (part n.parts side) place) (part n.parts (other side)) (rw put (marked-fits n.history.items side a (part n.parts side) place at (own-fits tree t name n log e put was side))) (part-stays tree t name n log e put was (other side))))

  pub asked-state : (task : Task O) (k : Asking O) → k ≡ record { task = task; asked = generation_of (value_of n).state.held; on_trial = is_some (value_of n).state.trial; answer = None } → ps ≡ with_part n.parts side (filled_part (part n.parts side) k) → log.items ≡ n.history.items ++ Asked side task ∷ [] → (value_of (record n { parts = ps; history = log })).state ≡ after t (value_of n).state (Asked side task)
  asked-state task k is_asked is put =
      let s : State O = (value_of n).state in
      let e : Event O = Asked side task in
      let slot : Slot O = record { task = task; asked = generation_of s.held; on_trial = is_some s.trial; answer = None } in
      let own : half_of log.items (filled_part (part n.parts side) k) ≡ filled s side task =
      ap (λ (x : Asking O). half_of log.items (filled_part (part n.parts side) x)) is_asked
      ∙ ap (λ (x : Half O). record x { slot = Some slot }) (own-half tree t name n log e put was side)
      in
      assembled tree t name n log e put was side ps (filled_part (part n.parts side) k) (part n.parts (other side)) (filled s side task) (half s (other side)) is own
      (part-same tree t name n log e put was (other side))

  pub asked-kept : (task : Task O) (k : Asking O) → k ≡ record { task = task; asked = generation_of (value_of n).state.held; on_trial = is_some (value_of n).state.trial; answer = None } → ps ≡ with_part n.parts side (filled_part (part n.parts side) k) → log.items ≡ n.history.items ++ Asked side task ∷ [] → Laws t (λ s. tree s ≡ t) → MayAsk t (value_of n).state side task → IsKept tree t name (record n { parts = ps; history = log })
  asked-kept task k is_asked is put laws may =
      let e : Event O = Asked side task in
      kept-by tree t name n (record n { parts = ps; history = log }) e was laws may tt put (asked-state task k is_asked is put)
      (held-fits tree t name n log e put was)
      (rw is (joined-fits log.items side (filled_part (part n.parts side) k) (part n.parts (other side)) (rw put (filled-fits n.history.items e (part n.parts side) (own-fits tree t name n log e put was side) k (ap (λ (x : Asking O). x.answer) is_asked))) (part-stays tree t name n log e put was (other side))))

  pub refused-state : (g : ℕ) → ps ≡ with_part n.parts side (emptied_part (part n.parts side)) → log.items ≡ n.history.items ++ Refused side g ∷ [] → (value_of (record n { parts = ps; history = log })).state ≡ after t (value_of n).state (Refused side g)
  refused-state g is put =
      let s : State O = (value_of n).state in
      let e : Event O = Refused side g in
      assembled tree t name n log e put was side ps (emptied_part (part n.parts side)) (part n.parts (other side)) (emptied (half s side)) (half s (other side)) is
      (part-emptied tree t name n log e put was side) (part-same tree t name n log e put was (other side))

  pub refused-kept : (g : ℕ) → ps ≡ with_part n.parts side (emptied_part (part n.parts side)) → log.items ≡ n.history.items ++ Refused side g ∷ [] → Laws t (λ s. tree s ≡ t) → MayRefuse (value_of n).state side g → IsKept tree t name (record n { parts = ps; history = log })
  refused-kept g is put laws may =
      let e : Event O = Refused side g in
      kept-by tree t name n (record n { parts = ps; history = log }) e was laws may tt put (refused-state g is put)
      (held-fits tree t name n log e put was)
      (rw is (joined-fits log.items side (emptied_part (part n.parts side)) (part n.parts (other side)) (emptied-goes tree t name n log e put was side) (part-stays tree t name n log e put was (other side))))

  pub forbidden-state : (g : ℕ) (x y : O) → y ≡ x → ps ≡ joined side (forbidding_part (part n.parts side) y) (emptied_part (part n.parts (other side))) → log.items ≡ n.history.items ++ Forbidden side g x ∷ [] → (value_of (record n { parts = ps; trial = None; history = log })).state ≡ after t (value_of n).state (Forbidden side g x)
  forbidden-state g x y same is put =
      let s : State O = (value_of n).state in
      let e : Event O = Forbidden side g x in
      let own : half_of log.items (forbidding_part (part n.parts side) y) ≡ forbidding (half s side) x =
      ap (λ (h : Half O). record h { forbidden = (part n.parts side).forbidden ++ y ∷ [] }) (part-emptied tree t name n log e put was side)
      ∙ (ap (λ (h : Half O). record (emptied (half s side)) { forbidden = h.forbidden ++ y ∷ [] }) (own-half tree t name n log e put was side)
      ∙ ap (λ (z : O). record (emptied (half s side)) { forbidden = (half s side).forbidden ++ z ∷ [] }) same)
      in
      ap (λ (y : State O). record y { trial = None })
      (assembled tree t name n log e put was side ps (forbidding_part (part n.parts side) y) (emptied_part (part n.parts (other side))) (forbidding (half s side) x) (emptied (half s (other side))) is own
      (part-emptied tree t name n log e put was (other side)))

  pub forbidden-kept : (g : ℕ) (x y : O) → y ≡ x → ps ≡ joined side (forbidding_part (part n.parts side) y) (emptied_part (part n.parts (other side))) → log.items ≡ n.history.items ++ Forbidden side g x ∷ [] → Laws t (λ s. tree s ≡ t) → MayForbid (value_of n).state side g x → IsKept tree t name (record n { parts = ps; trial = None; history = log })
  forbidden-kept g x y same is put laws may =
      let e : Event O = Forbidden side g x in
      kept-by tree t name n (record n { parts = ps; trial = None; history = log }) e was laws may tt put (forbidden-state g x y same is put)
      (held-fits tree t name n log e put was)
      (rw is (joined-fits log.items side (forbidding_part (part n.parts side) y) (emptied_part (part n.parts (other side))) (rw put (forbidding-fits n.history.items e (part n.parts side) (own-fits tree t name n log e put was side) y)) (emptied-goes tree t name n log e put was (other side))))

  -- the other part at the start of a trial
  other-for-trial : (e : Event O) (put : log.items ≡ n.history.items ++ e ∷ []) (b : Bool) → has_proposal (half (value_of n).state (other side)).slot ≡ b → half_of log.items (if b then part n.parts (other side) else emptied_part (part n.parts (other side))) ≡ kept_for_trial (half (value_of n).state (other side))
  other-for-trial e put true has =
      part-same tree t name n log e put was (other side)
      ∙ sym (ap (λ (b : Bool). if b then half (value_of n).state (other side) else emptied (half (value_of n).state (other side))) has)
  other-for-trial e put false has =
      part-emptied tree t name n log e put was (other side)
      ∙ sym (ap (λ (b : Bool). if b then half (value_of n).state (other side) else emptied (half (value_of n).state (other side))) has)

  other-fits-trial : (e : Event O) (put : log.items ≡ n.history.items ++ e ∷ []) (b : Bool) → PartFits log.items (if b then part n.parts (other side) else emptied_part (part n.parts (other side)))
  other-fits-trial e put true = part-stays tree t name n log e put was (other side)
  other-fits-trial e put false = emptied-goes tree t name n log e put was (other side)

  pub adopted-state : (g : ℕ) (x y : O) (b : Bool) → y ≡ x → has_proposal (half (value_of n).state (other side)).slot ≡ b → ps ≡ joined side (part n.parts side) (if b then part n.parts (other side) else emptied_part (part n.parts (other side))) → log.items ≡ n.history.items ++ Adopted side g x ∷ [] → (value_of (record n { parts = ps; trial = Some (record { side = side; offer = y }); history = log })).state ≡ after t (value_of n).state (Adopted side g x)
  adopted-state g x y b same has is put =
      let e : Event O = Adopted side g x in
      let s : State O = (value_of n).state in
      let q : Part O = if b then part n.parts (other side) else emptied_part (part n.parts (other side)) in
      ap (λ (z : State O). record z { trial = Some (record { side = side; offer = y }) })
      (assembled tree t name n log e put was side ps (part n.parts side) q (half s side) (kept_for_trial (half s (other side))) is (part-same tree t name n log e put was side) (other-for-trial e put b has))
      ∙ ap (λ (z : O). record (with_halves s side (half s side) (kept_for_trial (half s (other side)))) { trial = Some (record { side = side; offer = z }) }) same

  pub adopted-kept : (g : ℕ) (x y : O) (b : Bool) → y ≡ x → has_proposal (half (value_of n).state (other side)).slot ≡ b → ps ≡ joined side (part n.parts side) (if b then part n.parts (other side) else emptied_part (part n.parts (other side))) → log.items ≡ n.history.items ++ Adopted side g x ∷ [] → Laws t (λ s. tree s ≡ t) → MayAdopt t (value_of n).state side g x → IsKept tree t name (record n { parts = ps; trial = Some (record { side = side; offer = y }); history = log })
  adopted-kept g x y b same has is put laws may =
      let e : Event O = Adopted side g x in
      let q : Part O = if b then part n.parts (other side) else emptied_part (part n.parts (other side)) in
      kept-by tree t name n (record n { parts = ps; trial = Some (record { side = side; offer = y }); history = log }) e was laws may tt put (adopted-state g x y b same has is put)
      (held-fits tree t name n log e put was)
      (rw is (joined-fits log.items side (part n.parts side) q (part-stays tree t name n log e put was side) (other-fits-trial e put b)))

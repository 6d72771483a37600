use Rattle.std.proofs.Common.{◌≡◌, ℕ, ◌+◌, Bool, inl, inr, List, [], ◌∷◌, ◌++◌, refl, ap, subst, sym, ◌∙◌, Option, Some, None, is_some}
use Rattle.containers.specs.Growing.{Growing}
use Rattle.nego_laws.specs.Tree.{Tree, Laws}
use Rattle.nego_node.specs.Truth.{Serves, NothingServes}
use Rattle.nego_node.specs.Machine.{Half, State, pick, half, other, with_halves, after, after_trying, proposing, giving_up, emptied, asked_in, generation_of}
use Rattle.nego_node.specs.Parts.{part, joined, emptied_part}
use Rattle.nego_node.specs.Lawful.{Lawful, MayTry, MayAgree, MayGiveUp}
use Rattle.nego_node.specs.Sound.{Keeps, IsTrueEvent, IsTrueAnswer, IsUselessOutcome}
use Rattle.nego_node.specs.NodeValue.{IsNode, task_at, slot_of, half_of, trial_of, IsWithin, PartFits, PartsFit}
use Rattle.nego_node.specs.NodeView.{value_of, IsKept}
use Rattle.nego_node.specs.declared.tasks.Task.{Task}
use Rattle.nego_node.specs.declared.tasks.Side.{Side}
use Rattle.nego_node.specs.declared.tasks.Side.TheVariants.{Left, Right}
use Rattle.nego_node.specs.declared.answers.Answer.{Answer}
use Rattle.nego_node.specs.declared.answers.Answer.TheVariants as answer
use Rattle.nego_node.specs.declared.events.Outcome.{Outcome}
use Rattle.nego_node.specs.declared.events.Outcome.TheVariants as outcome
use Rattle.nego_node.specs.declared.events.Event.{Event}
use Rattle.nego_node.specs.declared.events.Event.TheVariants.{Tried, Agreed, Exhausted}
use Rattle.nego_node.specs.declared.parts.Part.{Part}
use Rattle.nego_node.specs.declared.parts.Parts.{Parts}
use Rattle.nego_node.specs.declared.parts.Asking.{Asking}
use Rattle.nego_node.specs.declared.parts.Tested.{Tested}
use Rattle.nego_node.specs.declared.node.NodeState.TheInside.{Inside}
use Rattle.nego_node.proofs.Places.{task_at-append, half_of-append, part_fits-append, within-append, emptied-half, emptied-fits}
use Rattle.nego_node.proofs.Runs.{node-after}
use Rattle.nego_node.proofs.Kept.{kept}
use Rattle.nego_node.proofs.Sides.{none-some}

-- the fields after an event keep what a node keeps, once they are seen as the state after it
module _ {F O S : Type 0} (tree : O → Tree O) (t : Tree O) (name : ℕ) (n n' : Inside F O S) (e : Event O) where
  pub kept-by : IsKept tree t name n → Laws t (λ s. tree s ≡ t) → Lawful tree t (value_of n).state e → IsTrueEvent tree t e → n'.history.items ≡ n.history.items ++ e ∷ [] → (value_of n').state ≡ after t (value_of n).state e → IsWithin n'.history.items n'.held → PartsFit n'.history.items n'.parts → IsKept tree t name n'
  kept-by was laws lawful truth put state held parts =
      record {
        held = held;
        parts = parts;
        node =
            subst (λ (x : State O). IsNode tree t name x n'.history.items) (sym state)
            (subst (λ (h : List (Event O)). IsNode tree t name (after t (value_of n).state e) h) (sym put)
            (node-after tree t laws name (value_of n).state n.history.items e was.node lawful truth));
      }

-- what is picked and what is left fit where both parts do
module _ {O : Type 0} (h : List (Event O)) where
  pub part-fits : (ps : Parts O) (side : Side) → PartsFit h ps → PartFits h (part ps side)
  part-fits ps Left fits = fits.left
  part-fits ps Right fits = fits.right

  pub joined-fits : (side : Side) (p q : Part O) → PartFits h p → PartFits h q → PartsFit h (joined side p q)
  joined-fits Left p q a b = record { left = a; right = b }
  joined-fits Right p q a b = record { left = b; right = a }

  joined-left : (side : Side) (p q : Part O) → half_of h (pick side p q) ≡ pick side (half_of h p) (half_of h q)
  joined-left Left p q = refl
  joined-left Right p q = refl

module _ {F O S : Type 0} (tree : O → Tree O) (t : Tree O) (name : ℕ) (n : Inside F O S) (log : Growing (Event O)) (e : Event O) (put : log.items ≡ n.history.items ++ e ∷ []) (was : IsKept tree t name n) where
  pub held-fits : IsWithin log.items n.held
  held-fits = rw put (within-append n.history.items e n.held was.held)

  pub own-fits : (side : Side) → PartFits n.history.items (part n.parts side)
  own-fits side = part-fits n.history.items n.parts side was.parts

  pub own-half : (side : Side) → half_of n.history.items (part n.parts side) ≡ half (value_of n).state side
  own-half side = joined-left n.history.items side n.parts.left n.parts.right

  -- a part that stays, or is emptied, while the history grows
  pub part-same : (side : Side) → half_of log.items (part n.parts side) ≡ half (value_of n).state side
  part-same side =
      ap (λ (h : List (Event O)). half_of h (part n.parts side)) put
      ∙ (half_of-append n.history.items e (part n.parts side) (own-fits side) ∙ own-half side)

  pub part-stays : (side : Side) → PartFits log.items (part n.parts side)
  part-stays side = rw put (part_fits-append n.history.items e (part n.parts side) (own-fits side))

  pub part-emptied : (side : Side) → half_of log.items (emptied_part (part n.parts side)) ≡ emptied (half (value_of n).state side)
  part-emptied side =
      ap (λ (h : List (Event O)). half_of h (emptied_part (part n.parts side))) put
      ∙ (emptied-half (n.history.items ++ e ∷ []) (part n.parts side)
      ∙ ap (λ (x : Half O). emptied x) (half_of-append n.history.items e (part n.parts side) (own-fits side) ∙ own-half side))

  pub emptied-goes : (side : Side) → PartFits log.items (emptied_part (part n.parts side))
  emptied-goes side = rw put (emptied-fits n.history.items e (part n.parts side) (own-fits side))

  pub parts-stay : PartsFit log.items n.parts
  parts-stay = record { left = part-stays Left; right = part-stays Right }

  -- the fields with other parts and a longer history
  pub assembled : (side : Side) (ps : Parts O) (p q : Part O) (h g : Half O) → ps ≡ joined side p q → half_of log.items p ≡ h → half_of log.items q ≡ g → (value_of (record n { parts = ps; history = log })).state ≡ with_halves (value_of n).state side h g
  assembled side ps p q h g is eh eg =
      let mk : Option (Task O) → Half O → Half O → State O =
      λ held x y. record { round = n.round; name = n.name; held = held; next = n.next; has_split = n.has_split; left = x; right = y; trial = trial_of n.trial; answer = n.answer }
      in
      let old : Option (Task O) = task_at n.history.items n.held in
      let held : task_at log.items n.held ≡ old =
      ap (λ (x : List (Event O)). task_at x n.held) put ∙ task_at-append n.history.items e n.held was.held
      in
      ap (λ (x : Option (Task O)). mk x (half_of log.items ps.left) (half_of log.items ps.right)) held
      ∙ (ap (λ (x : Parts O). mk old (half_of log.items x.left) (half_of log.items x.right)) is
      ∙ (ap (λ (x : Half O). mk old x (half_of log.items (pick side q p))) (joined-left log.items side p q)
      ∙ (ap (λ (x : Half O). mk old (pick side (half_of log.items p) (half_of log.items q)) x) (joined-left log.items side q p)
      ∙ (ap (λ (x : Half O). mk old (pick side x (half_of log.items q)) (pick side (half_of log.items q) x)) eh
      ∙ ap (λ (x : Half O). mk old (pick side h x) (pick side x h)) eg))))

  -- a longer history alone changes nothing
  pub unmoved : (value_of (record n { history = log })).state ≡ (value_of n).state
  unmoved = assembled Left n.parts n.parts.left n.parts.right (value_of n).state.left (value_of n).state.right refl (part-same Left) (part-same Right)

-- trying, where the item was of no use
pub passed-over : {O : Type 0} (s : State O) (o : Outcome O) → IsUselessOutcome o → s ≡ after_trying s o
passed-over s outcome.None u = refl
passed-over s (outcome.Banned x) u = refl
passed-over s (outcome.Offer x) u = absurd u

-- the truth of what a node answers
module _ {O : Type 0} (tree : O → Tree O) (t : Tree O) (laws : Laws t (λ s. tree s ≡ t)) (s : State O) (task : Task O) (keeps : Keeps tree t s) (held : s.held ≡ Some task) where
  answer-truth : (s' : State O) (a : Answer O) → Keeps tree t s' → s'.answer ≡ Some a → IsTrueAnswer tree t a
  answer-truth s' a (inl e) h = absurd (none-some (ap (λ (x : State O). x.answer) e) h)
  answer-truth s' a (inr (other, sound)) h = (sound.answer a h).1

  pub nothing-serves : MayGiveUp t s → NothingServes tree (tree task.given) task
  nothing-serves may =
      let last : State O = giving_up s s.held in
      let is : last.answer ≡ Some (answer.Exhausted task) = ap (λ (h : Option (Task O)). (giving_up s h).answer) held in
      let truth = answer-truth last (answer.Exhausted task) (kept tree t laws s Exhausted keeps may tt) is in
      subst (λ (x : Tree O). NothingServes tree x task) (sym truth.0.given) truth.1

  pub agrees : (side : Side) (g : ℕ) (x : O) → MayAgree t s side g x → Serves tree (tree task.given) task x
  agrees side g x may =
      let last : State O = proposing s s.held x in
      let is : last.answer ≡ Some (answer.Proposal (record { task = task; offer = x })) = ap (λ (h : Option (Task O)). (proposing s h x).answer) held in
      let truth = answer-truth last (answer.Proposal (record { task = task; offer = x })) (kept tree t laws s (Agreed side g x) keeps may tt) is in
      subst (λ (y : Tree O). Serves tree y task x) (sym truth.0.given) truth.1

  pub serves : (x : O) → MayTry tree t s s.next (outcome.Offer x) → Serves tree (tree task.given) task x
  serves x may =
      let one_on : State O = record s { next = s.next + 1 } in
      let last : State O = proposing one_on s.held x in
      let is : last.answer ≡ Some (answer.Proposal (record { task = task; offer = x })) = ap (λ (h : Option (Task O)). (proposing one_on h x).answer) held in
      let truth = answer-truth last (answer.Proposal (record { task = task; offer = x })) (kept tree t laws s (Tried s.next (outcome.Offer x)) keeps may tt) is in
      subst (λ (y : Tree O). Serves tree y task x) (sym truth.0.given) truth.1

-- what a part holds is what contracts see in the slot of its side
pub asked-here : {F O S : Type 0} (n : Inside F O S) (side : Side) (p : Part O) (k : Asking O) → p ≡ part n.parts side → p.slot ≡ Some k → asked_in (half (value_of n).state side).slot ≡ Some k.task
asked-here {O = O} n side p k e is =
    let h : List (Event O) = n.history.items in
    ap (λ (x : Half O). asked_in x.slot) (sym (joined-left h side n.parts.left n.parts.right))
    ∙ (ap (λ (x : Part O). asked_in (slot_of h x.slot)) (sym e) ∙ ap (λ (x : Option (Asking O)). asked_in (slot_of h x)) is)

trial-some : {O : Type 0} (o : Option (Tested O)) → is_some o ≡ is_some (trial_of o)
trial-some None = refl
trial-some (Some x) = refl

-- what is put into a slot
abbrev pub asking : {O : Type 0} → Task O → ℕ → Bool → Asking O
asking task asked on_trial = record { task = task; asked = asked; on_trial = on_trial; answer = None }

pub asking-same : {F O S : Type 0} (n : Inside F O S) (task x : Task O) (g : ℕ) (b : Bool) → x ≡ task → g ≡ generation_of (value_of n).state.held → b ≡ is_some n.trial → asking x g b ≡ asking task (generation_of (value_of n).state.held) (is_some (value_of n).state.trial)
asking-same {O = O} n task x g b is_task is_asked is_trial =
    ap (λ (x : Task O). asking x g b) is_task
    ∙ (ap (λ (g : ℕ). asking task g b) is_asked ∙ ap (λ (b : Bool). asking task (generation_of (value_of n).state.held) b) (is_trial ∙ trial-some n.trial))

use Rattle.std.proofs.Common.{◌≡◌, ◌∙◌, ◌≤◌, Bool, true, false, not, ◌&&◌, inl, inr, Option, Some, None, is_some, nat_lt, sym, ap, refl}
use Rattle.std.proofs.Math.Nat.{eq-or-lt_of_le}
use Rattle.std.proofs.lemmas.Bool.{lt-ltb}
use Rattle.nego_laws.specs.Tree.{Tree}
use Rattle.nego_node.specs.Machine.{Slot, Trial, State, half, answered_in, side_of, is_proposal, has_proposal}
use Rattle.nego_node.specs.Proposed.{Proposed}
use Rattle.nego_node.specs.Lawful.{Seeks, Has}
use Rattle.nego_node.specs.Moves.{seeks, is_exhausted}
use Rattle.nego_node.specs.declared.tasks.Task.{Task}
use Rattle.nego_node.specs.declared.tasks.Side.{Side}
use Rattle.nego_node.specs.declared.answers.Answer.{Answer}
use Rattle.nego_node.specs.declared.answers.Answer.TheVariants.{Proposal, Exhausted}
use Rattle.nego_node.proofs.Entailing.{and-both}
use Rattle.nego_node.proofs.Sides.{none-some, same-some}

pub not-true : (b : Bool) → not b ≡ true → b ≡ false
not-true true h = absurd (let k : false ≡ true = h in cc)
not-true false h = refl

pub not-false : (b : Bool) → b ≡ false → not b ≡ true
not-false true h = absurd (let k : true ≡ false = h in cc)
not-false false h = refl

pub not-both : (b : Bool) → b ≡ true → b ≡ false → ⊥
not-both b h k = let e : true ≡ false = sym h ∙ k in cc

pub is-some : {A : Type 0} (o : Option A) → is_some o ≡ true → (a : A) × (o ≡ Some a)
is-some None h = absurd (let k : false ≡ true = h in cc)
is-some (Some a) h = (a, refl)

pub is-not-some : {A : Type 0} (o : Option A) → is_some o ≡ false → o ≡ None
is-not-some None h = refl
is-not-some (Some a) h = absurd (let k : true ≡ false = h in cc)

-- what the tests of the state say
module _ {O : Type 0} where
  seeks-of : (h : Option (Task O)) (a : Option (Answer O)) → is_some h && not (is_some a) ≡ true → (task : Task O) × (h ≡ Some task) × (a ≡ None)
  seeks-of None a e = absurd (let k : false ≡ true = e in cc)
  seeks-of (Some task) a e = (task, refl, is-not-some a (not-true (is_some a) e))

  pub seeks-true : (s : State O) → seeks s ≡ true → (task : Task O) × Seeks s task
  seeks-true s e = let w = seeks-of s.held s.answer e in (w.0, record { held = w.1; unanswered = w.2 })

  pub true-seeks : (s : State O) (task : Task O) → Seeks s task → seeks s ≡ true
  true-seeks s task k =
      and-both (is_some s.held) (not (is_some s.answer)) (ap (λ (o : Option (Task O)). is_some o) k.held) (ap (λ (o : Option (Answer O)). not (is_some o)) k.unanswered)

  exhausted-of : (a : Option (Answer O)) → is_exhausted a ≡ true → (task : Task O) × (a ≡ Some (Exhausted task))
  exhausted-of None e = absurd (let k : false ≡ true = e in cc)
  exhausted-of (Some (Proposal p)) e = absurd (let k : false ≡ true = e in cc)
  exhausted-of (Some (Exhausted task)) e = (task, refl)

  proposal-of : (a : Option (Answer O)) → is_proposal a ≡ true → (p : Proposed O) × (a ≡ Some (Proposal p))
  proposal-of None e = absurd (let k : false ≡ true = e in cc)
  proposal-of (Some (Proposal p)) e = (p, refl)
  proposal-of (Some (Exhausted task)) e = absurd (let k : false ≡ true = e in cc)

  slot-exhausted : (o : Option (Slot O)) → is_exhausted (answered_in o) ≡ true → (k : Slot O) × (o ≡ Some k) × ((task : Task O) × (k.answer ≡ Some (Exhausted task)))
  slot-exhausted None e = absurd (let k : false ≡ true = e in cc)
  slot-exhausted (Some k) e = (k, refl, exhausted-of k.answer e)

  slot-proposal : (o : Option (Slot O)) → has_proposal o ≡ true → (k : Slot O) × (o ≡ Some k) × ((p : Proposed O) × (k.answer ≡ Some (Proposal p)))
  slot-proposal None e = absurd (let k : false ≡ true = e in cc)
  slot-proposal (Some k) e = (k, refl, proposal-of k.answer e)

  pub has-exhausted : (s : State O) (side : Side) → is_exhausted (answered_in (half s side).slot) ≡ true → (k : Slot O) × ((task : Task O) × Has s side k (Exhausted task))
  has-exhausted s side e = let w = slot-exhausted (half s side).slot e in (w.0, (w.2.0, record { slot = w.1; answer = w.2.1 }))

  pub has-proposal : (s : State O) (side : Side) → has_proposal (half s side).slot ≡ true → (k : Slot O) × ((p : Proposed O) × Has s side k (Proposal p))
  has-proposal s side e = let w = slot-proposal (half s side).slot e in (w.0, (w.2.0, record { slot = w.1; answer = w.2.1 }))

  pub exhausted-has : (s : State O) (side : Side) (k : Slot O) (task : Task O) → Has s side k (Exhausted task) → is_exhausted (answered_in (half s side).slot) ≡ true
  exhausted-has s side k task has = ap (λ (o : Option (Slot O)). is_exhausted (answered_in o)) has.slot ∙ ap (λ (a : Option (Answer O)). is_exhausted a) has.answer

  pub proposal-has : (s : State O) (side : Side) (k : Slot O) (p : Proposed O) → Has s side k (Proposal p) → has_proposal (half s side).slot ≡ true
  proposal-has s side k p has = ap (λ (o : Option (Slot O)). has_proposal o) has.slot ∙ ap (λ (a : Option (Answer O)). is_proposal a) has.answer

  pub trial-of : (o : Option (Trial O)) (a : Side) → side_of o ≡ Some a → (x : Trial O) × (o ≡ Some x) × (x.side ≡ a)
  trial-of None a e = absurd (none-some refl e)
  trial-of (Some x) a e = (x, refl, same-some refl e)

  pub trial-none : (o : Option (Trial O)) → side_of o ≡ None → o ≡ None
  trial-none None e = refl
  trial-none (Some x) e = absurd (none-some e refl)

  -- the tests of the state as the witnesses of what is lawful
  module _ (t : Tree O) (s : State O) where
    pub tried-all : nat_lt s.next (t.items s.name) ≡ false → s.next ≤ t.items s.name → s.next ≡ t.items s.name
    tried-all e le = elim (eq-or-lt_of_le le) [ inl q ↦ q | inr l ↦ absurd (not-both (nat_lt s.next (t.items s.name)) (lt-ltb s.next (t.items s.name) l) e) ]

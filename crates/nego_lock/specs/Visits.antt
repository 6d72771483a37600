use Rattle.std.specs.Prelude.{
  ℕ,
  Bool,
  true,
  false,
  ◌≡◌,
  Option,
  Some,
  None,
  Result,
  Ok,
  Err,
  List,
  [],
  ◌∷◌,
  ◌++◌,
}
use Rattle.nego_laws.specs.Tree.{Tree, left_of, right_of}
use Rattle.nego_node.specs.Machine.{State, after}
use Rattle.nego_node.specs.Lawful.{Lawful, task_of}
use Rattle.nego_node.specs.Moves.{IsOf, next_move}
use Rattle.nego_node.specs.Refusals.{Refuses, RefusesAnswer}
use Rattle.nego_node.specs.Sound.{Belongs}
use Rattle.nego_node.specs.declared.answers.Answer.{Answer}
use Rattle.nego_node.specs.declared.misfits.Misfit.{Misfit}
use Rattle.nego_node.specs.declared.events.Event.{Event}
use Rattle.nego_node.specs.declared.events.Event.TheVariants as event
use Rattle.nego_node.specs.declared.moves.Move.{Move}
use Rattle.nego_node.specs.declared.moves.Move.TheVariants.{Adopt, Agree, Forbid, Refuse, Exhaust}
use Rattle.nego_lock.specs.declared.visit.Message.{Message}
use Rattle.nego_lock.specs.declared.visit.Message.TheVariants as message
use Rattle.nego_lock.specs.declared.visit.Outgoing.{Outgoing}
use Rattle.nego_lock.specs.declared.visit.Outgoing.TheVariants as outgoing
use Rattle.nego_lock.specs.declared.visit.Visit.{Visit}
use Rattle.nego_lock.specs.declared.visit.Visit.TheVariants as visit
use Rattle.nego_lock.specs.declared.visit.VisitError.{VisitError}
use Rattle.nego_lock.specs.declared.visit.VisitError.TheVariants as error

-- the moves that hand on no task and no sites
abbrev pub hands_no_task : Move → Bool
hands_no_task (Adopt side) = true
hands_no_task Agree = true
hands_no_task Forbid = true
hands_no_task Refuse = true
hands_no_task Exhaust = true
hands_no_task _ = false

-- state and history are as before
abbrev pub IsAsBefore : {O : Type 0} → State O → State O → List (Event O) → List (Event O) → Type 0
IsAsBefore s s' h h' = (s' ≡ s) × (h' ≡ h)

module _ {F O S : Type 0} where
  -- the offers of the message's task belong to the tree
  abbrev pub MessageBelongs : (O → Tree O) → Tree O → Message F O S → Type 0
  MessageBelongs tree t (message.Task task) = Belongs tree t task
  MessageBelongs tree t (message.Answer side a) = Belongs tree t (task_of a)

  -- what is handed on belongs to the tree
  abbrev pub OutgoingBelongs : (O → Tree O) → (S → Tree O) → Tree O → Outgoing F O S → Type 0
  OutgoingBelongs tree around t outgoing.Nothing = Unit {0}
  OutgoingBelongs tree around t (outgoing.Task task) = Belongs tree t task
  OutgoingBelongs tree around t (outgoing.Answer a) = Belongs tree t (task_of a)
  OutgoingBelongs tree around t (outgoing.Sites left right) = (around left ≡ t) × (around right ≡ t)

  -- the node refuses the message, and why
  abbrev pub IsRefused : State O → Option (Message F O S) → Misfit O → Type 0
  IsRefused s None misfit = ⊥
  IsRefused s (Some (message.Task task)) misfit = Refuses s task misfit
  IsRefused s (Some (message.Answer side a)) misfit = RefusesAnswer s side a misfit

  -- the event is the message's, or without one is of the kind of the eager next move
  abbrev pub IsDue : Tree O → State O → Option (Message F O S) → Event O → Type 0
  IsDue t s None e = IsOf (next_move t true s) e
  IsDue t s (Some (message.Task task)) e = e ≡ event.Received task
  IsDue t s (Some (message.Answer side a)) e = e ≡ event.Posted side a

  -- that event was done, which was lawful, and nothing else
  pub record DidEvent (tree : O → Tree O) (t : Tree O) (brought : Option (Message F O S)) (s s' : State O)
      (h h' : List (Event O)) : Type 0 where
    pub event : Event O
    pub is_due : IsDue t s brought event
    pub lawful : Lawful tree t s event
    pub state : s' ≡ after t s event
    pub history : h' ≡ h ++ event ∷ []

  -- an answer where the node had none before and has one afterwards
  abbrev pub new_answer : Option (Answer O) → Option (Answer O) → Outgoing F O S
  new_answer None (Some a) = outgoing.Answer a
  new_answer _ _ = outgoing.Nothing

  -- What an event hands on, with the state before and after it: the task that it asks, the two parts, the answer that
  -- it gives the node, or nothing.
  abbrev pub HandsOn : (S → ℕ) → State O → State O → Event O → Outgoing F O S → Type 0
  HandsOn named s s' (event.Asked side task) out = out ≡ outgoing.Task task
  HandsOn named s s' event.Split out =
      (left : S) × (right : S) × (out ≡ outgoing.Sites left right) × (named left ≡ left_of s.name)
      × (named right ≡ right_of s.name)
  HandsOn named s s' _ out = out ≡ new_answer s.answer s'.answer

  -- the event that is due was done, and this is what it hands on
  pub record DidVisit (tree : O → Tree O) (named : S → ℕ) (t : Tree O) (brought : Option (Message F O S))
      (s s' : State O) (h h' : List (Event O)) (out : Outgoing F O S) : Type 0 where
    pub did : DidEvent tree t brought s s' h h'
    pub hands_on : HandsOn named s s' did.event out

  -- the fact, where an event was done
  abbrev pub IfDid : Result (Visit F O S) VisitError → (Outgoing F O S → Type 0) → Type 0
  IfDid (Ok (visit.Did out)) P = P out
  IfDid _ P = Unit {0}

  -- the fact, where the message was refused
  abbrev pub IfMisfit : Result (Visit F O S) VisitError → (Misfit O → Type 0) → Type 0
  IfMisfit (Ok (visit.Misfit misfit)) P = P misfit
  IfMisfit _ P = Unit {0}

  -- the fact, where the visit was stopped, waits, may not try, or has refused the message
  abbrev pub IfQuiet : Result (Visit F O S) VisitError → Type 0 → Type 0
  IfQuiet (Ok (visit.Did out)) P = Unit {0}
  IfQuiet (Err error.OutOfMemory) P = Unit {0}
  IfQuiet _ P = P

  -- the fact, where memory was wanting
  abbrev pub IfNoMemory : Result (Visit F O S) VisitError → Type 0 → Type 0
  IfNoMemory (Err error.OutOfMemory) P = P
  IfNoMemory _ P = Unit {0}

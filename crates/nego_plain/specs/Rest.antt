use Rattle.std.specs.Prelude.{
  ℕ,
  Bool,
  true,
  false,
  not,
  ◌&&◌,
  ◌||◌,
  ◌+◌,
  ◌-◌,
  ◌*◌,
  ◌≤◌,
  Option,
  Some,
  None,
  is_some,
  nat_eq,
  List,
  [],
  ◌∷◌,
  if◌then◌else◌,
}
use Rattle.nego_laws.specs.Tree.{Tree}
use Rattle.nego_node.specs.Machine.{Slot, State, generation_of, goes_on, is_proposal, task_for}
use Rattle.nego_node.specs.Moves.{is_exhausted}
use Rattle.nego_node.specs.declared.tasks.Task.{Task}
use Rattle.nego_node.specs.declared.tasks.Side.{Side}
use Rattle.nego_node.specs.declared.tasks.Side.TheVariants.{Right}
use Rattle.nego_node.specs.declared.events.Event.{Event}
use Rattle.nego_node.specs.declared.events.Event.TheVariants.{Tried}
use Rattle.nego_plain.specs.Width.{Sites, leaf, fork, width}
use Rattle.nego_plain.specs.Family.{Family, alone, with_parts, top}

abbrev pub one_if : Bool → ℕ
one_if true = 1
one_if false = 0

abbrev pub picked : Bool → ℕ → ℕ → ℕ
picked true x y = x
picked false x y = y

-- What a fresh task costs, where an attempt costs one and any other event m.
abbrev pub whole : ℕ → Sites → ℕ
whole m (leaf own) = own + m
whole m (fork own a b) = own + m * 6 + whole m a + width a * (whole m b + m * (5 * width b + 8))

-- What is left to be done in the plain order, as numbers over the states of a family. In each function s is the state
-- of a node and c that of a part.
module _ {O : Type 0} where
  -- the part has the task of its slot
  abbrev pub is_current : Option (Slot O) → State O → Bool
  is_current None c = false
  is_current (Some k) c = nat_eq (generation_of c.held) k.task.generation

  abbrev pub is_answered : Option (Slot O) → Bool
  is_answered None = false
  is_answered (Some k) = is_some k.answer

  abbrev pub is_more : List O → Bool
  is_more [] = false
  is_more (x ∷ xs) = true

  -- the left part was asked since the last fresh task, and has the task
  abbrev pub left_counts : State O → State O → Bool
  left_counts s c = is_current s.left.slot c || is_more s.left.forbidden

  -- what a side is asked, or is to be asked next
  abbrev pub due : State O → Side → Option (Slot O) → Option (Task O) → Option (Task O)
  due s side (Some k) held = Some k.task
  due s side None None = None
  due s side None (Some held) = Some (task_for s held s.trial side)

  abbrev pub would_go_on : Tree O → State O → Option (Task O) → Bool
  would_go_on t c None = false
  would_go_on t c (Some task) = goes_on t c.held c.answer task

  -- the right part has the task, or would go on with what it has
  abbrev pub right_counts : Tree O → State O → State O → Bool
  right_counts t s c = is_current s.right.slot c || would_go_on t c (due s Right s.right.slot s.held)

  -- the left part has a proposal that was not adopted yet
  abbrev pub left_pends : State O → State O → Bool
  left_pends s c = not (is_some s.trial) && (is_current s.left.slot c && is_proposal c.answer)

  -- the slot was asked under the held task
  abbrev pub is_of_now : ℕ → Option (Slot O) → Bool
  is_of_now generation None = true
  is_of_now generation (Some k) = nat_eq k.asked generation

  -- the right part has a proposal for the trial to which the node did not agree yet
  abbrev pub right_pends : State O → State O → Bool
  right_pends s c =
      not (is_some s.answer) && (is_of_now (generation_of s.held) s.right.slot
      && (is_current s.right.slot c && is_proposal c.answer))

  -- the events at the node and at the top of a part from the asking to the answer
  abbrev pub asking : Option (Slot O) → State O → ℕ
  asking None c = 3
  asking (Some k) c = if is_some k.answer then 0 else if nat_eq (generation_of c.held) k.task.generation then 1 else 2

  -- the events of the node, and those by which its parts take what they are asked, up to the next proposal of a part
  abbrev pub rank : State O → State O → State O → ℕ
  rank s l r =
      if is_exhausted s.answer then 0
      else if is_some s.trial then
      (if is_some s.answer || not (is_of_now (generation_of s.held) s.right.slot) then 10
      else 6 + asking s.right.slot r)
      else 2 + asking s.left.slot l

  -- The proposals that a family can still answer before a fresh task: one for each item that is left; for each proposal
  -- that the left part can still answer, those of a fresh task of the right part; and those that the right part has
  -- left in the present trial.
  abbrev pub rest : Tree O → Sites → Family O → ℕ
  rest t (leaf own) f = own - (top f).state.next
  rest t (fork own a b) (alone n) = own - n.state.next + width a * width b
  rest t (fork own a b) (with_parts n l r) =
      own - n.state.next
      + (picked (left_counts n.state (top l).state) (rest t a l) (width a) + one_if
      (left_pends n.state (top l).state)) * width b
      + picked (is_some n.state.trial)
      (picked (right_counts t n.state (top r).state) (rest t b r) (width b) + one_if
      (right_pends n.state (top r).state)) 0

  -- the same of what is left
  abbrev pub effort : ℕ → Tree O → Sites → Family O → ℕ
  effort m t (leaf own) f = own - (top f).state.next + (if is_exhausted (top f).state.answer then 0 else m)
  effort m t (fork own a b) (alone n) = own - n.state.next + m * 6 + whole m a + width a *
      (whole m b + m * (5 * width b + 8))
  effort m t (fork own a b) (with_parts n l r) =
      own - n.state.next + m * rank n.state (top l).state (top r).state
      + picked (left_counts n.state (top l).state) (effort m t a l) (whole m a)
      + (picked (left_counts n.state (top l).state) (rest t a l) (width a) + one_if
      (left_pends n.state (top l).state)) * (whole m b + m * (5 * width b + 8))
      + picked (is_some n.state.trial)
      (picked (right_counts t n.state (top r).state) (effort m t b r) (whole m b)
      + m * (5 * (picked (right_counts t n.state (top r).state) (rest t b r) (width b) + one_if
      (right_pends n.state (top r).state))))
      0

  -- an attempt costs one, and any other event m
  abbrev pub cost : ℕ → Event O → ℕ
  cost m (Tried item outcome) = 1
  cost m _ = m

  -- no part has more left than a fresh task gives it, and in a trial the left part has one proposal less
  abbrev pub IsBounded : Tree O → Sites → Family O → Type 0
  IsBounded t (leaf own) f = Unit {0}
  IsBounded t (fork own a b) (alone n) = Unit {0}
  IsBounded t (fork own a b) (with_parts n l r) =
      (picked (left_counts n.state (top l).state) (rest t a l) (width a) + one_if
      (left_pends n.state (top l).state) + one_if (is_some n.state.trial) ≤ width a)
      × (picked (is_some n.state.trial)
      (picked (right_counts t n.state (top r).state) (rest t b r) (width b) + one_if
      (right_pends n.state (top r).state)) 0 ≤ width b)
      × IsBounded t a l
      × IsBounded t b r

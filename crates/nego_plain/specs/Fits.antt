use Rattle.std.specs.Prelude.{ℕ, true, false, ◌≡◌, ◌<◌, ◌≤◌, ◌⊎◌, Some, None}
use Rattle.nego_laws.specs.Tree.{Tree, left_of, right_of}
use Rattle.nego_node.specs.Truth.{entails_some}
use Rattle.nego_node.specs.Proposed.{Proposed}
use Rattle.nego_node.specs.Machine.{Slot, Half, Trial, State, generation_of, goes_on}
use Rattle.nego_node.specs.Sound.{Keeps}
use Rattle.nego_node.specs.declared.tasks.Task.{Task}
use Rattle.nego_node.specs.declared.tasks.Side.TheVariants.{Left}
use Rattle.nego_node.specs.declared.answers.Answer.{Answer}
use Rattle.nego_node.specs.declared.answers.Answer.TheVariants.{Proposal}
use Rattle.nego_node.specs.Board.{BoardNode}
use Rattle.nego_plain.specs.Width.{Sites, leaf, fork}
use Rattle.nego_plain.specs.Family.{Family, alone, with_parts, top}
use Rattle.nego_plain.specs.Rest.{is_current, is_more, due}

-- What the plain order keeps of a family.
module _ {O : Type 0} where
  -- What a node keeps of a part agrees with the part: the part holds no newer task than the side's generation, an older
  -- one where the slot is empty, and the slot's task where it is as new; and a kept answer is the part's to that task.
  pub record IsLinked (h : Half O) (c : State O) : Type 0 where
    pub at_most : generation_of c.held ≤ h.generation
    pub is_older : h.slot ≡ None → generation_of c.held < h.generation
    pub same : (k : Slot O) → h.slot ≡ Some k → generation_of c.held ≡ h.generation → c.held ≡ Some k.task
    pub answered : (k : Slot O) (a : Answer O) → h.slot ≡ Some k → k.answer ≡ Some a → (c.held ≡ Some k.task)
        × (c.answer ≡ Some a)

  -- the slot was asked under the held task, or its proposal is what the held task bans
  abbrev pub IsKnown : Tree O → State O → Task O → Slot O → Type 0
  IsKnown t s task k = (k.asked ≡ task.generation)
      ⊎ ((s.answer ≡ None) × (p : Proposed O) × (k.answer ≡ Some (Proposal p))
      × (entails_some t p.offer task.ban ≡ true))

  -- A node with parts, whose states are l and r, in the plain order: trials are of the left side, the right side is
  -- asked in trials alone, and the left part would go on with what it has once an offer of it was forbidden.
  pub record IsPlain (t : Tree O) (s l r : State O) : Type 0 where
    pub has_split : s.has_split ≡ true
    pub of_left : (x : Trial O) → s.trial ≡ Some x → x.side ≡ Left
    pub no_right : s.trial ≡ None → s.right.slot ≡ None
    pub on_trial : (k : Slot O) → s.right.slot ≡ Some k → k.on_trial ≡ true
    pub is_known : (k : Slot O) (task : Task O) → s.right.slot ≡ Some k → s.held ≡ Some task → IsKnown t s task k
    pub left : IsLinked s.left l
    pub right : IsLinked s.right r
    pub goes_on : (task : Task O) → is_more s.left.forbidden ≡ true → is_current s.left.slot l ≡ false
        → due s Left s.left.slot s.held ≡ Some task → goes_on t l.held l.answer task ≡ true

module _ {O : Type 0} (tree : O → Tree O) (t : Tree O) (round : ℕ) where
  -- the node of site b in that round, with what every event keeps
  pub record IsNodeAt (b : ℕ) (n : BoardNode O) : Type 0 where
    pub named : n.state.name ≡ b
    pub of_round : n.state.round ≡ round
    pub keeps : Keeps tree t n.state

  -- a family of the plain order, over the sites at and below b
  abbrev pub IsFamily : ℕ → Sites → Family O → Type 0
  IsFamily b (leaf own) (alone n) = IsNodeAt b n
  IsFamily b (leaf own) (with_parts n l r) = ⊥
  IsFamily b (fork own x y) (alone n) = IsNodeAt b n × (n.state.has_split ≡ false)
  IsFamily b (fork own x y) (with_parts n l r) =
      IsNodeAt b n × IsPlain t n.state (top l).state (top r).state × IsFamily (left_of b) x l
      × IsFamily (right_of b) y r

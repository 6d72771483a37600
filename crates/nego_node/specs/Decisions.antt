use Rattle.std.specs.Prelude.{Bool, true, false, not, ◌&&◌, ◌||◌, Option, Some, None, is_some, nat_eq, nat_lt, List}
use Rattle.nego_laws.specs.Tree.{Tree}
use Rattle.nego_node.specs.Truth.{entails_some}
use Rattle.nego_node.specs.Machine.{State, half, other, generation_of, answered_in, proposed_in, has_proposal, side_of}
use Rattle.nego_node.specs.Moves.{seeks, is_exhausted, on_trial_in, is_present, is_spent}
use Rattle.nego_node.specs.declared.tasks.Task.{Task}
use Rattle.nego_node.specs.declared.tasks.Side.{Side}
use Rattle.nego_node.specs.declared.tasks.Side.TheVariants.{Left, Right}
use Rattle.nego_node.specs.declared.moves.Move.{Move}
use Rattle.nego_node.specs.declared.moves.Move.TheVariants.{
  Wait,
  Try,
  Split,
  Ask,
  Adopt,
  Agree,
  Forbid,
  Refuse,
  Exhaust,
}

abbrev pub is_same : Side → Side → Bool
is_same Left Left = true
is_same Right Right = true
is_same _ _ = false

-- no trial, or one of the other side
abbrev pub leaves_free : Option Side → Side → Bool
leaves_free None side = true
leaves_free (Some a) side = is_same a (other side)

-- Whether a move is lawful, as a test of the state.
module _ {O : Type 0} (t : Tree O) (s : State O) where
  abbrev pub has_tried_all : Bool
  has_tried_all = seeks s && nat_eq s.next (t.items s.name)

  -- there is a proposal, and its offer entails no member of the held ban or of the list
  abbrev pub allows_of : Option (Task O) → Option O → List O → Bool
  allows_of None x forbidden = false
  allows_of (Some task) None forbidden = false
  allows_of (Some task) (Some x) forbidden = not (entails_some t x task.ban) && not (entails_some t x forbidden)

  abbrev pub allows : Side → Bool
  allows side = allows_of s.held (proposed_in (half s side).slot) (half s side).forbidden

  abbrev pub may_ask : Side → Bool
  may_ask side = has_tried_all
      && (s.has_split && (not (is_some (half s side).slot) && leaves_free (side_of s.trial) side))

  abbrev pub may_adopt : Side → Bool
  may_adopt side = seeks s &&
      (not (is_some s.trial) && (not (is_exhausted (answered_in (half s (other side)).slot)) && allows side))

  abbrev pub may_agree : Option Side → Bool
  may_agree None = false
  may_agree (Some a) = seeks s && (is_present (generation_of s.held) (half s (other a)).slot && allows (other a))

  abbrev pub may_forbid : Option Side → Bool
  may_forbid None = false
  may_forbid (Some a) = seeks s
      && (is_exhausted (answered_in (half s (other a)).slot) && on_trial_in (half s (other a)).slot)

  abbrev pub may_refuse : Option Side → Bool
  may_refuse None = false
  may_refuse (Some a) = seeks s
      && (has_proposal (half s (other a)).slot && not (is_present (generation_of s.held) (half s (other a)).slot))

  abbrev pub may_give_up : Bool
  may_give_up = has_tried_all
      && (not (t.parted s.name) || (not (is_some s.trial) && (is_spent s.left.slot || is_spent s.right.slot)))

  abbrev pub may_move : Move → Bool
  may_move Wait = false
  may_move Try = seeks s && nat_lt s.next (t.items s.name)
  may_move Split = has_tried_all && (t.parted s.name && not s.has_split)
  may_move (Ask side) = may_ask side
  may_move (Adopt side) = may_adopt side
  may_move Agree = may_agree (side_of s.trial)
  may_move Forbid = may_forbid (side_of s.trial)
  may_move Refuse = may_refuse (side_of s.trial)
  may_move Exhaust = may_give_up

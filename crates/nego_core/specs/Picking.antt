use Rattle.std.specs.Prelude.{ℕ, ◌≡◌, ◌+◌, ◌%◌, ◌⊎◌, Some, List, [], ◌∷◌, length, slice_get}
use Rattle.nego_laws.specs.Tree.{Tree}
use Rattle.nego_node.specs.Board.{BoardNode, Happens, MayAct, IsOfAct}
use Rattle.nego_node.specs.declared.events.Event.{Event}
use Rattle.nego_node.specs.declared.acts.Act.{Act}
use Rattle.nego_core.specs.Acts.{acts}
use Rattle.nego_core.specs.declared.picks.Pick.{Pick}

module _ {O : Type 0} (tree : O → Tree O) (t : Tree O) (round : ℕ) where
  -- the pick is lawful: its act is, at its node
  pub record MayPick (ns : List (BoardNode O)) (p : Pick) : Type 0 where
    pub node : BoardNode O
    pub is_node : slice_get ns (p.node % length ns) ≡ Some node
    pub act : Act
    pub is_act : slice_get acts p.act ≡ Some act
    pub may : MayAct t round ns node.state.name node.state act

  -- the pick is done: an event of its act's kind happens at its node
  pub record Does (ns : List (BoardNode O)) (p : Pick) (ns' : List (BoardNode O)) : Type 0 where
    pub node : BoardNode O
    pub is_node : slice_get ns (p.node % length ns) ≡ Some node
    pub act : Act
    pub is_act : slice_get acts p.act ≡ Some act
    pub event : Event O
    pub is_of : IsOfAct act event
    pub happens : Happens tree t round ns node.state.name event ns'

  -- what a pick makes of a board and of the count of unlawful picks: it is lawful and is done; or it is not, changes
  -- nothing, and is counted
  abbrev pub IsPicked : List (BoardNode O) → ℕ → Pick → List (BoardNode O) → ℕ → Type 0
  IsPicked ns u p ns' u' = (MayPick ns p × Does ns p ns' × (u' ≡ u)) ⊎ ((MayPick ns p → ⊥) × (ns' ≡ ns) × (u' ≡ u + 1))

  -- what picks make of them, one after the other
  abbrev pub Leads : List (BoardNode O) → ℕ → List Pick → List (BoardNode O) → ℕ → Type 0
  Leads ns u [] ns' u' = (ns' ≡ ns) × (u' ≡ u)
  Leads ns u (p ∷ ps) ns' u' = (ms : List (BoardNode O)) × (k : ℕ) × IsPicked ns u p ms k × Leads ms k ps ns' u'

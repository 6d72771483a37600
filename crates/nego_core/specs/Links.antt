use Rattle.std.specs.Prelude.{ℕ, false, ◌≡◌, ◌⊎◌, Some, None, List, length, slice_get}
use Rattle.nego_laws.specs.Tree.{Tree}
use Rattle.nego_node.specs.Machine.{part_of}
use Rattle.nego_node.specs.Board.{BoardNode}
use Rattle.nego_node.specs.BoardSound.{IsBoard}
use Rattle.nego_node.specs.declared.tasks.Side.{Side}
use Rattle.nego_node.specs.declared.tasks.Side.TheVariants.{Left, Right}
use Rattle.nego_core.specs.declared.links.Link.{Link}

-- the place of a part
abbrev pub place_of : ℕ × ℕ → Side → ℕ
place_of p Left = p.0
place_of p Right = p.1

module _ {O : Type 0} where
  -- at that place stands a node of that name
  abbrev pub StandsAt : List (BoardNode O) → ℕ → ℕ → Type 0
  StandsAt ns i b = (n : BoardNode O) × (slice_get ns i ≡ Some n) × (n.state.name ≡ b)

  -- the link of the node at a place
  pub record LinkFits (ns : List (BoardNode O)) (i : ℕ) (l : Link) (n : BoardNode O) : Type 0 where
    pub up : (i ≡ 0) ⊎ ((m : BoardNode O) × (slice_get ns l.parent ≡ Some m)
        × (part_of m.state.name l.side ≡ n.state.name))
    pub down : (p : ℕ × ℕ) → l.parts ≡ Some p → (side : Side)
        → StandsAt ns (place_of p side) (part_of n.state.name side)
    pub unsplit : l.parts ≡ None → n.state.has_split ≡ false

  -- each node of the board has its link
  pub record AreLinked (ns : List (BoardNode O)) (ls : List Link) : Type 0 where
    pub as_many : length ls ≡ length ns
    pub fit : (i : ℕ) (l : Link) (n : BoardNode O) → slice_get ls i ≡ Some l → slice_get ns i ≡ Some n
        → LinkFits ns i l n

  -- a board of the round whose first node is the root, with its links
  pub record IsPlay (tree : O → Tree O) (t : Tree O) (round : ℕ) (ns : List (BoardNode O))
      (ls : List Link) : Type 0 where
    pub board : IsBoard tree t round ns
    pub starts : StandsAt ns 0 1
    pub linked : AreLinked ns ls

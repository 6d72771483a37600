use Rattle.std.specs.Prelude.{◌≡◌}
use Rattle.nego_laws.specs.Tree.{Tree}
use Rattle.nego_node.specs.NodeValue.{NodeValue}
use Rattle.nego_node.specs.Board.{BoardNode}
use Rattle.nego_plain.specs.Family as plain
use Rattle.nego_plain.specs.declared.family.Family.{Family}
use Rattle.nego_plain.specs.declared.family.Below.{Below, Nothing, Parts'}

-- a program's node and family as a board's
abbrev pub board_node : {S O : Type 0} → NodeValue S O → BoardNode O
board_node n = record { state = n.state; history = n.history }

abbrev pub family_below : {F O S : Type 0} → BoardNode O → Below F O S → plain.Family O
family_below n Nothing = plain.alone n
family_below n (Parts' p m a q k b) = plain.with_parts n (family_below (board_node m) a) (family_below (board_node k) b)

abbrev pub family_of : {F O S : Type 0} → Family F O S → plain.Family O
family_of f = family_below (board_node f.node) f.below

-- all sites are of the tree
abbrev pub IsAroundBelow : {F O S : Type 0} → (S → Tree O) → Tree O → Below F O S → Type 0
IsAroundBelow around t Nothing = Unit {0}
IsAroundBelow around t (Parts' p m a q k b) = (around m.site ≡ t) × (around k.site ≡ t) × IsAroundBelow around t a
    × IsAroundBelow around t b

abbrev pub IsAround : {F O S : Type 0} → (S → Tree O) → Tree O → Family F O S → Type 0
IsAround around t f = (around f.node.site ≡ t) × IsAroundBelow around t f.below

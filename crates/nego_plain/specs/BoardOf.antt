use Rattle.std.specs.Prelude.{ℕ, ◌+◌, ◌≤◌, List, [], ◌∷◌, ◌++◌, nat_eq, sum_by, IsPermutation, if◌then◌else◌}
use Rattle.nego_laws.specs.Tree.{left_of, right_of}
use Rattle.nego_node.specs.Board.{BoardNode}
use Rattle.nego_plain.specs.Family.{Family, alone, with_parts}

module _ {O : Type 0} where
  -- the nodes of a family
  abbrev pub nodes_of : Family O → List (BoardNode O)
  nodes_of (alone n) = n ∷ []
  nodes_of (with_parts n l r) = n ∷ (nodes_of l ++ nodes_of r)

  -- one for a node of that name, and one for a node of that name that has not split
  abbrev pub has_name : ℕ → BoardNode O → ℕ
  has_name c n = if nat_eq n.state.name c then 1 else 0

  abbrev pub is_closed : ℕ → BoardNode O → ℕ
  is_closed c n = if nat_eq n.state.name c then (if n.state.has_split then 0 else 1) else 0

  -- how many nodes have the name
  abbrev pub count : ℕ → List (BoardNode O) → ℕ
  count c ns = sum_by (has_name c) ns

  abbrev pub count_closed : ℕ → List (BoardNode O) → ℕ
  count_closed c ns = sum_by (is_closed c) ns

  -- the board has the nodes of the family, each once, and a part only of a node that has split
  pub record IsBoardOf (ns : List (BoardNode O)) (f : Family O) : Type 0 where
    pub nodes : IsPermutation ns (nodes_of f)
    pub once : (c : ℕ) → count c ns ≤ 1
    pub left : (c : ℕ) → 1 ≤ c → count (left_of c) ns + count_closed c ns ≤ count c ns
    pub right : (c : ℕ) → 1 ≤ c → count (right_of c) ns + count_closed c ns ≤ count c ns

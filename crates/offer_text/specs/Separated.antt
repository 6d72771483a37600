-- A list that is written item by item, with a comma between each two.
use Rattle.std.specs.Prelude.{ℕ, zero, suc, List, [], ◌++◌, drop, codes}
use Rattle.std.specs.List.{join_by, flat_map}

-- what stands before the item at a place
abbrev pub separator : ℕ → List ℕ
separator zero = []
separator (suc place) = codes ","

-- what is still to write of a list from a place on
abbrev pub rest_from : {X : Type 0} → (X → List ℕ) → ℕ → List X → List ℕ
rest_from text zero items = join_by text (codes ",") items
rest_from text (suc place) items = flat_map (λ y. codes "," ++ text y) (drop (suc place) items)

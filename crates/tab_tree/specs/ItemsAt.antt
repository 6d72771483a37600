-- The items with which a formula comes.
use Rattle.std.specs.Prelude.{ℕ, Bool, true, false, List, ◌++◌, take, map}
use Rattle.free_terms.specs.Free.{FreeFormula}
use Rattle.branch_rules.specs.Branch.{Entry}
use Rattle.tab_tree.specs.Items.{Item, pair, paired_all, single}

-- the items of the formula at j, with those before it and by itself
abbrev pub items_at : List Entry → ℕ → FreeFormula → List Item
items_at es j f = paired_all 0 (take j es) j f ++ single j f

-- the item of a literal at j and an opposite one at i
abbrev pub pair_of : Bool → ℕ → ℕ → Item
pair_of false j i = pair j i
pair_of true j i = pair i j

abbrev pub pairs_of : Bool → ℕ → List ℕ → List Item
pairs_of negated j places = map (pair_of negated j) places

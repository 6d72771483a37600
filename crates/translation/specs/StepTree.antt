-- The closed tree of an offer, step by step.
use Rattle.std.specs.Prelude.{ℕ, List, [], ◌∷◌, length, nat_lt, if◌then◌else◌, Option, Some, None}
use Rattle.branch_rules.specs.Branch.{Branch, Done, go_left, go_right, entries, after}
use Rattle.tab_tree.specs.Items.{Item, newest}
use Rattle.tab_tree.specs.ClosedTree.{ClosedTree, closed, forked}

-- An item that closes, a step and what follows it, or a split at a place.
pub data StepTree : Type 0 where
  closes : Item → StepTree
  goes_on : Done → StepTree → StepTree
  forks : ℕ → StepTree → StepTree → StepTree

-- The steps from the branch on, up to the one that appended the item's newest formula, and then the item.
abbrev pub until : Item → Branch → List Done → StepTree
until item b [] = closes item
until item b (step ∷ steps) =
    if nat_lt (newest item) (length (entries b)) then closes item else goes_on step (until item (after b step) steps)

-- all of the steps, and then the rest
abbrev pub along : List Done → StepTree → StepTree
along [] rest = rest
along (step ∷ steps) rest = goes_on step (along steps rest)

abbrev pub or_zero : Option ℕ → ℕ
or_zero None = 0
or_zero (Some n) = n

-- The steps of a closed tree whose first segment begins at the branch: a segment that closes gives its steps up to its
-- item, and a segment that splits gives all its steps, its split, and both parts.
abbrev pub step_tree : Branch → ClosedTree → StepTree
step_tree b (closed g item) = until item b g.steps
step_tree b (forked g c c') =
    let i = or_zero g.splits_at in
    along g.steps (forks i (step_tree (after g.branch (go_left i)) c) (step_tree (after g.branch (go_right i)) c'))

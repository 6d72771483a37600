-- A walk over a closed tree, segment by segment.
use Rattle.std.specs.Prelude.{◌≡◌, ℕ, Bool, false, nat_lt, if◌then◌else◌, List, [], ◌∷◌, length, Option, Some, None}
use Rattle.gs3_rules.specs.Rules.{Rule, alpha_parts, beta_parts}
use Rattle.gs3_rules.specs.Refutes.{preorder}
use Rattle.free_terms.specs.Free.{Name}
use Rattle.unify.specs.Offers.{Offer}
use Rattle.branch_rules.specs.Branch.{Branch, Done, Entry, go_left, go_right, entries, after, or_none, left_part}
use Rattle.branch_rules.specs.Branch.{right_part}
use Rattle.branch_rules.specs.Next.{ComesNext}
use Rattle.tab_tree.specs.ClosedTree.{ClosedTree, closed, forked}
use Rattle.translation.specs.StepTree.{StepTree, closes, goes_on, forks, or_zero}
use Rattle.translation.specs.Translation.{proof_below}

-- the branch behind these steps
abbrev pub after_all : Branch → List Done → Branch
after_all b [] = b
after_all b (step ∷ steps) = after_all (after b step) steps

-- each step comes next on its branch
abbrev pub AreNext : ℕ → Branch → StepTree → Type 0
AreNext d b (closes item) = Unit {0}
AreNext d b (goes_on step c) = ComesNext b d step × AreNext d (after b step) c
AreNext d b (forks i c c') =
    ComesNext b d (go_left i) × AreNext d (after b (go_left i)) c × AreNext d (after b (go_right i)) c'

-- each segment's branch is what its steps make of the branch that it begins with
abbrev pub GrowsFrom : Branch → ClosedTree → Type 0
GrowsFrom b (closed g item) = g.branch ≡ after_all b g.steps
GrowsFrom b (forked g c c') =
    (g.branch ≡ after_all b g.steps) × GrowsFrom (after g.branch (go_left (or_zero g.splits_at))) c
    × GrowsFrom (after g.branch (go_right (or_zero g.splits_at))) c'

-- whether the entry is among the first n ones, if one is given
abbrev pub is_there : Option ℕ → ℕ → Bool
is_there None n = false
is_there (Some i) n = nat_lt i n

-- the steps up to the one that appended the entry, if one is given, and then the rest
abbrev pub up_to : Option ℕ → StepTree → Branch → List Done → StepTree
up_to stop rest b [] = rest
up_to stop rest b (step ∷ steps) =
    if is_there stop (length (entries b)) then rest else goes_on step (up_to stop rest (after b step) steps)

-- how many entries a conjunctive step appends, and a split on its left and on its right
abbrev pub parts_of : Option Entry → ℕ
parts_of None = 0
parts_of (Some e) = length (or_none (alpha_parts e.formula))

abbrev pub left_of : Option Entry → ℕ
left_of None = 0
left_of (Some e) = length (left_part (beta_parts e.formula))

abbrev pub right_of : Option Entry → ℕ
right_of None = 0
right_of (Some e) = length (right_part (beta_parts e.formula))

-- the steps of the translation below a branch
abbrev pub steps_below : Offer → List Name → Branch → List ℕ → ℕ → StepTree → List Rule
steps_below s ys b places len c = preorder (proof_below s ys b places len c)

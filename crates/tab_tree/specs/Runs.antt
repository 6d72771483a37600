-- The steps of a segment, done one after the other.
use Rattle.std.specs.Prelude.{◌≡◌, ℕ, false, List, [], ◌∷◌, ◌++◌, Option, Some, None}
use Rattle.branch_rules.specs.Branch.{Branch, Done, go_left, is_split, after}
use Rattle.branch_rules.specs.Next.{ComesNext, IsLeaf}

-- These steps come next one after the other from the first branch on, none of them a side of a split, and lead to the
-- second branch.
pub data Runs (d : ℕ) (b : Branch) : List Done → Branch → Type 0 where
  begins : Runs d b [] b
  goes_on : {ds : List Done} {c : Branch} (s : Done) → Runs d b ds c → is_split s ≡ false → ComesNext c d s
      → Runs d b (ds ++ s ∷ []) (after c s)

-- The branch is a leaf, or its next step splits it at the place.
abbrev pub Ends : ℕ → Branch → Option ℕ → Type 0
Ends d b None = IsLeaf b d
Ends d b (Some i) = ComesNext b d (go_left i)

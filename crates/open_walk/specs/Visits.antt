-- What a visit does with the segments that wait, the last of which is visited next.
use Rattle.std.specs.Prelude.{◌≡◌, Bool, true, false, List, [], ◌∷◌, ◌++◌, None, ◌⊎◌}
use Rattle.tab_tree.specs.RoundValue.{RoundValue}
use Rattle.tab_tree.specs.SiteValue.{SiteValue, segment_of, IsRoot, AreParts}
use Rattle.open_walk.specs.Walk.{HasUnifiable}

-- the first segment of the round's tableau waits
abbrev pub Starts : RoundValue → List SiteValue → Type 0
Starts r waiting = (s : SiteValue) × IsRoot r s × (waiting ≡ s ∷ [])

-- the parts of the segment wait then, the left one behind the right one
abbrev pub PartsWait : RoundValue → SiteValue → List SiteValue → List SiteValue → Type 0
PartsWait r s before waiting =
    (left right : SiteValue) × AreParts r (segment_of s) left right
    × (waiting ≡ (before ++ right ∷ []) ++ left ∷ [])

-- The segment is an open leaf; or some offer equates an item of it, and nothing below it waits; or none does, and its
-- parts wait then.
abbrev pub Turns : RoundValue → SiteValue → List SiteValue → List SiteValue → Bool → Type 0
Turns r s before waiting true = (HasUnifiable (segment_of s) → ⊥) × (s.splits_at ≡ None)
Turns r s before waiting false =
    (HasUnifiable (segment_of s) × (waiting ≡ before))
    ⊎ ((HasUnifiable (segment_of s) → ⊥) × PartsWait r s before waiting)

-- The segments of a tableau. A segment is what one branch does between two splits.
use Rattle.std.specs.Prelude.{◌≡◌, ℕ, ◌+◌, ◌*◌, List, [], ◌∷◌, ◌++◌, length, Option, Some, None}
use Rattle.std.specs.Prelude.{◌⊎◌, if◌then◌else◌}
use Rattle.unify.specs.Offers.{Offer}
use Rattle.branch_rules.specs.Branch.{Branch, Done, go_left, go_right, entries, after}
use Rattle.tab_tree.specs.Tableau.{Tableau, leaf, step, split}
use Rattle.tab_tree.specs.Items.{Item, items_of, ClosesSome}

-- A segment: its name, the place where its own entries begin, the branch at its end, its steps in order, and the
-- principal of its split, which a leaf does not have.
pub record Segment : Type 0 where
  pub name : ℕ
  pub from : ℕ
  pub branch : Branch
  pub steps : List Done
  pub splits_at : Option ℕ

abbrev pub items : Segment → List Item
items g = items_of g.from (entries g.branch)

pub data Segments : Type 0 where
  tip : Segment → Segments
  node : Segment → Segments → Segments → Segments

-- The segments of the tableau below the branch. The first of them has this name, its own entries begin at the place,
-- and these steps of it are done. The parts of b are named 2b on the left and 2b + 1 on the right.
abbrev pub segments : ℕ → ℕ → List Done → Branch → Tableau → Segments
segments name from ds b leaf = tip (record { name = name; from = from; branch = b; steps = ds; splits_at = None })
segments name from ds b (step d t) = segments name from (ds ++ d ∷ []) (after b d) t
segments name from ds b (split i l r) =
    node (record { name = name; from = from; branch = b; steps = ds; splits_at = Some i })
    (segments (2 * name) (length (entries b)) [] (after b (go_left i)) l)
    (segments (2 * name + 1) (length (entries b)) [] (after b (go_right i)) r)

-- the segments of a whole tableau: the first one is named 1, and start entries are its own
abbrev pub all_segments : Branch → Tableau → Segments
all_segments b t = segments 1 0 [] b t

abbrev pub top : Segments → Segment
top (tip g) = g
top (node g l r) = g

-- The offer solves the first segment: it equates an item of it, or the segment splits and the offer solves both parts.
abbrev pub Solves : Offer → Segments → Type 0
Solves s (tip g) = ClosesSome s (entries g.branch) (items g)
Solves s (node g l r) = ClosesSome s (entries g.branch) (items g) ⊎ (Solves s l × Solves s r)

-- These are the segments from one of the segments on.
pub data IsAmong (gs : Segments) : Segments → Type 0 where
  itself : IsAmong gs gs
  on_left : {g : Segment} {l r : Segments} → IsAmong gs l → IsAmong gs (node g l r)
  on_right : {g : Segment} {l r : Segments} → IsAmong gs r → IsAmong gs (node g l r)

-- Segments by their names.
use Rattle.std.specs.Prelude.{ℕ, zero, suc, max, ◌/◌, ◌%◌, eqb, Bool, true, false, Option, Some, None, if◌then◌else◌}
use Rattle.tab_tree.specs.Segments.{Segments, tip, node}

-- one of the two parts: the right one where it is asked for, else the left one
abbrev pub part : Bool → Option Segments → Option Segments
part on_right None = None
part on_right (Some (tip g)) = None
part false (Some (node g l r)) = Some l
part true (Some (node g l r)) = Some r

-- The digits of a name tell the way to its segment: 1 is the first segment, and behind that each digit 0 leads to the
-- left part and each 1 to the right one. At most so many digits are read.
abbrev pub along : ℕ → Segments → ℕ → Option Segments
along zero gs n = None
along (suc k) gs n = if eqb n 1 then Some gs else part (eqb (n % 2) 1) (along k gs (n / 2))

-- the segments from the one of this name on
abbrev pub segments_at : Segments → ℕ → Option Segments
segments_at gs n = along n gs n

abbrev pub has_parts : Option Segments → Bool
has_parts None = false
has_parts (Some (tip g)) = false
has_parts (Some (node g l r)) = true

-- how many splits are below
abbrev pub height : Segments → ℕ
height (tip g) = 0
height (node g l r) = suc (max (height l) (height r))

abbrev pub height_at : Option Segments → ℕ
height_at None = 0
height_at (Some gs) = height gs

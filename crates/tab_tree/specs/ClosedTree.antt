-- The closed tree of an offer: each segment closes by its first item that the offer equates, and a segment without one
-- splits.
use Rattle.std.specs.Prelude.{◌≡◌, ◌⊎◌}
use Rattle.unify.specs.Offers.{Offer}
use Rattle.branch_rules.specs.Branch.{entries}
use Rattle.tab_tree.specs.Items.{Item, ClosesNone, IsFirstClosed}
use Rattle.tab_tree.specs.Segments.{Segment, Segments, tip, node, items}

pub data ClosedTree : Type 0 where
  closed : Segment → Item → ClosedTree
  forked : Segment → ClosedTree → ClosedTree → ClosedTree

abbrev pub FirstClosed : Offer → Segment → Item → Type 0
FirstClosed s g item = IsFirstClosed s (entries g.branch) (items g) item

abbrev pub NoneClosed : Offer → Segment → Type 0
NoneClosed s g = ClosesNone s (entries g.branch) (items g)

abbrev pub IsClosedTree : Offer → Segments → ClosedTree → Type 0
IsClosedTree s (tip g) (closed h item) = (h ≡ g) × FirstClosed s g item
IsClosedTree s (tip g) (forked h c c') = ⊥
IsClosedTree s (node g l r) (closed h item) = (h ≡ g) × FirstClosed s g item
IsClosedTree s (node g l r) (forked h c c') = (h ≡ g) × NoneClosed s g × IsClosedTree s l c × IsClosedTree s r c'

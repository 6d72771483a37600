-- Whether an offer equates an item, as a test.
use Rattle.std.specs.Prelude.{ℕ, Bool, true, false, ◌&&◌, eqb, List, length, slice_get, Option, Some, None}
use Rattle.fol_core.specs.Syntax.{atom, not}
use Rattle.free_terms.specs.Free.{FreeFormula}
use Rattle.unify.specs.Offers.{Offer}
use Rattle.unify.specs.Tests.{equates_all}
use Rattle.branch_rules.specs.Branch.{Entry, entries}
use Rattle.tab_tree.specs.Items.{Item, pair, false_at, not_true}
use Rattle.tab_tree.specs.Segments.{Segments, top, items}

-- the offer makes the one an atom and the other its negation
abbrev pub makes_opposite : Offer → FreeFormula → FreeFormula → Bool
makes_opposite s (atom p us) (not (atom q vs)) = eqb p q && equates_all s us vs
makes_opposite s a b = false

abbrev pub opposite_at : Offer → Option Entry → Option Entry → Bool
opposite_at s (Some e) (Some f) = makes_opposite s e.formula f.formula
opposite_at s _ _ = false

abbrev pub closes_item : Offer → List Entry → Item → Bool
closes_item s es (pair i j) = opposite_at s (slice_get es i) (slice_get es j)
closes_item s es (false_at i) = true
closes_item s es (not_true i) = true

abbrev pub closes_found : Offer → List Entry → Option Item → Bool
closes_found s es None = false
closes_found s es (Some item) = closes_item s es item

abbrev pub count_at : Option Segments → ℕ
count_at None = 0
count_at (Some gs) = length (items (top gs))

-- whether the offer equates the item of that number, in the first of the segments
abbrev pub closes_at : Option Segments → ℕ → Offer → Bool
closes_at None i s = false
closes_at (Some gs) i s = closes_found s (entries (top gs).branch) (slice_get (items (top gs)) i)

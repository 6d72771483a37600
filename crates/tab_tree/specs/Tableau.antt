-- The tableau of depth d, its closing offers and the least depth.
use Rattle.std.specs.Prelude.{◌≡◌, ℕ, ◌<◌, ◌≤◌, false, List, slice_get, Option, Some, None}
use Rattle.fol_core.specs.Syntax.{atom, verum, falsum, not}
use Rattle.free_terms.specs.Free.{FreeTerms, FreeFormula}
use Rattle.unify.specs.Offers.{Offer, IsOffer, EquatesAll}
use Rattle.rewrite_rules.specs.Rules.{RewriteRule}
use Rattle.branch_rules.specs.Branch.{Branch, Done, Entry, go_left, go_right, is_split, entries, after, root}
use Rattle.branch_rules.specs.Next.{ComesNext, IsLeaf}

-- A tableau below a branch: a leaf, one step and what is below it, or a split at a place.
pub data Tableau : Type 0 where
  leaf : Tableau
  step : Done → Tableau → Tableau
  split : ℕ → Tableau → Tableau → Tableau

-- It is the whole tableau of depth d below the branch.
abbrev pub IsTableau : ℕ → Branch → Tableau → Type 0
IsTableau d b leaf = IsLeaf b d
IsTableau d b (step s t) = (is_split s ≡ false) × ComesNext b d s × IsTableau d (after b s) t
IsTableau d b (split i l r) =
    ComesNext b d (go_left i) × IsTableau d (after b (go_left i)) l × IsTableau d (after b (go_right i)) r

-- Two formulas that the offer makes an atom and its negation, or one formula that is false by itself.
pub data Contradicts (s : Offer) (es : List Entry) : Type 0 where
  opposite : (i j p : ℕ) (us vs : FreeTerms) (m n : ℕ)
      → slice_get es i ≡ Some (record { formula = atom p us; level = m })
      → slice_get es j ≡ Some (record { formula = not (atom p vs); level = n })
      → EquatesAll s us vs → Contradicts s es
  absurd_true : (i n : ℕ) → slice_get es i ≡ Some (record { formula = not verum; level = n }) → Contradicts s es
  absurd_false : (i n : ℕ) → slice_get es i ≡ Some (record { formula = falsum; level = n }) → Contradicts s es

-- Each path from the branch to a leaf is contradictory under the one offer. What stands on a path are the entries of
-- its leaf.
abbrev pub AllClosed : Offer → Branch → Tableau → Type 0
AllClosed s b leaf = Contradicts s (entries b)
AllClosed s b (step d t) = AllClosed s (after b d) t
AllClosed s b (split i l r) = AllClosed s (after b (go_left i)) l × AllClosed s (after b (go_right i)) r

-- The offer closes the tableau of depth d.
abbrev pub Closes : List FreeFormula → List RewriteRule → ℕ → Offer → Type 0
Closes start rules d s =
    (t : Tableau) × IsTableau d (root start rules) t × IsOffer s × AllClosed s (root start rules) t

-- The least depth from 1 to the limit whose tableau some offer closes, or None.
abbrev pub Least : List FreeFormula → List RewriteRule → ℕ → Option ℕ → Type 0
Least start rules limit (Some d) =
    (1 ≤ d) × (d ≤ limit) × ((s : Offer) × Closes start rules d s)
    × ((e : ℕ) (s : Offer) → 1 ≤ e → e < d → Closes start rules e s → ⊥)
Least start rules limit None = (e : ℕ) (s : Offer) → 1 ≤ e → e ≤ limit → Closes start rules e s → ⊥

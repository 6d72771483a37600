-- The closing items of a segment.
use Rattle.std.specs.Prelude.{◌≡◌, ℕ, suc, max, eqb, if◌then◌else◌, List, [], ◌∷◌, ◌++◌, length, take, drop}
use Rattle.std.specs.Prelude.{slice_get, Option, Some, ◌⊎◌}
use Rattle.fol_core.specs.Syntax.{atom, verum, falsum, not}
use Rattle.free_terms.specs.Free.{FreeTerms, FreeFormula}
use Rattle.unify.specs.Offers.{Offer, EquatesAll}
use Rattle.branch_rules.specs.Branch.{Entry}

-- An atom and a negated atom of one predicate symbol, by their places; or one formula that is false.
pub data Item : Type 0 where
  pair : ℕ → ℕ → Item
  false_at not_true : ℕ → Item

-- the place of an item's newest formula
abbrev pub newest : Item → ℕ
newest (pair i j) = max i j
newest (false_at i) = i
newest (not_true i) = i

-- the item of an earlier and a later formula
abbrev pub paired : ℕ → FreeFormula → ℕ → FreeFormula → List Item
paired i (atom p us) j (not (atom q vs)) = if eqb p q then pair i j ∷ [] else []
paired i (not (atom q vs)) j (atom p us) = if eqb p q then pair j i ∷ [] else []
paired i a j b = []

abbrev pub single : ℕ → FreeFormula → List Item
single j falsum = false_at j ∷ []
single j (not verum) = not_true j ∷ []
single j a = []

-- the items of the formula at j with each earlier one, from the place i on
abbrev pub paired_all : ℕ → List Entry → ℕ → FreeFormula → List Item
paired_all i [] j b = []
paired_all i (e ∷ es) j b = paired i e.formula j b ++ paired_all (suc i) es j b

-- the items whose newest formula is among the later entries, by the later place and then the earlier
abbrev pub items_after : List Entry → List Entry → List Item
items_after earlier [] = []
items_after earlier (e ∷ later) =
    (paired_all 0 earlier (length earlier) e.formula ++ single (length earlier) e.formula)
    ++ items_after (earlier ++ e ∷ []) later

-- the items of a segment whose own entries begin at the place from: those with a newest formula among its own
abbrev pub items_of : ℕ → List Entry → List Item
items_of from es = items_after (take from es) (drop from es)

-- the offer makes the one an atom and the other its negation
abbrev pub ArgumentsEqual : Offer → Option Entry → Option Entry → Type 0
ArgumentsEqual s (Some e) (Some f) =
    (p : ℕ) × (us vs : FreeTerms) × (e.formula ≡ atom p us) × (f.formula ≡ not (atom p vs)) × EquatesAll s us vs
ArgumentsEqual s _ _ = ⊥

-- the offer equates the item; one formula that is false is equated by every offer
abbrev pub ClosesItem : Offer → List Entry → Item → Type 0
ClosesItem s es (pair i j) = ArgumentsEqual s (slice_get es i) (slice_get es j)
ClosesItem s es (false_at i) = Unit {0}
ClosesItem s es (not_true i) = Unit {0}

abbrev pub ClosesSome : Offer → List Entry → List Item → Type 0
ClosesSome s es [] = ⊥
ClosesSome s es (item ∷ items) = ClosesItem s es item ⊎ ClosesSome s es items

abbrev pub ClosesNone : Offer → List Entry → List Item → Type 0
ClosesNone s es [] = Unit {0}
ClosesNone s es (item ∷ items) = (ClosesItem s es item → ⊥) × ClosesNone s es items

-- the first item that the offer equates
abbrev pub IsFirstClosed : Offer → List Entry → List Item → Item → Type 0
IsFirstClosed s es [] found = ⊥
IsFirstClosed s es (item ∷ items) found =
    (ClosesItem s es item × (found ≡ item)) ⊎ ((ClosesItem s es item → ⊥) × IsFirstClosed s es items found)

-- What has to be made equal for an item.
use Rattle.std.specs.Prelude.{◌≡◌, ℕ, List, Option, None, Some, slice_get}
use Rattle.fol_core.specs.Syntax.{atom, verum, falsum, not}
use Rattle.free_terms.specs.Free.{FreeTerms}
use Rattle.branch_rules.specs.Branch.{Entry, entries}
use Rattle.tab_tree.specs.Items.{Item, pair, false_at, not_true}
use Rattle.tab_tree.specs.Literals.{Holds}
use Rattle.tab_tree.specs.Segments.{Segment, items}

-- The arguments of the item's atom and of its negated atom; none where the item is one formula that is false by itself.
abbrev pub HasArguments : List Entry → Item → Option (FreeTerms × FreeTerms) → Type 0
HasArguments es (pair i j) None = ⊥
HasArguments es (pair i j) (Some two) = (p : ℕ) × Holds es i (atom p two.0) × Holds es j (not (atom p two.1))
HasArguments es (false_at i) two = two ≡ None
HasArguments es (not_true i) two = two ≡ None

-- What an item says of the entries: an atom and a negated atom of one predicate symbol stand there, or a formula that
-- is false by itself.
abbrev pub IsItemOf : List Entry → Item → Type 0
IsItemOf es (pair i j) =
    (p : ℕ) × (us vs : FreeTerms) × Holds es i (atom p us) × Holds es j (not (atom p vs))
IsItemOf es (false_at i) = Holds es i falsum
IsItemOf es (not_true i) = Holds es i (not verum)

-- the segment's item of that number has these arguments
abbrev pub ItemHas : Segment → ℕ → Option (FreeTerms × FreeTerms) → Type 0
ItemHas g n two = (item : Item) × (slice_get (items g) n ≡ Some item) × HasArguments (entries g.branch) item two

-- One side of a split, with what it appends.
use Rattle.std.specs.Prelude.{◌≡◌, ℕ, ◌+◌, List, [], ◌∷◌, slice_get, Some}
use Rattle.free_terms.specs.View.{formulas_of}
use Rattle.free_terms.specs.View.{FreeTermFormula}
use Rattle.branch_rules.specs.Branch.{Entry, entries, metavars, made_of, segment, segment_after}
use Rattle.branch_rules.specs.BranchValue.{BranchValue, branch_of, done_of}
use Rattle.branch_rules.specs.ListsGrown.{place_of}
use Rattle.branch_rules.specs.declared.step.Done.{Done}
use Rattle.branch_rules.specs.declared.step.Done.TheVariants.{Step, Left, Right}
use Rattle.branch_rules.specs.declared.branch.Counts.{Counts}

-- the counts of a side of a split, in the segment of this name
abbrev pub side_of : Counts → ℕ → Counts
side_of c segment = record { segment = segment; metavars = 0; skolems = 0; splits = c.splits + 1 }

abbrev pub IsHalf : Done → Type 0
IsHalf (Step i kind) = ⊥
IsHalf (Left i) = Unit {0}
IsHalf (Right i) = Unit {0}

-- The step is a side of the split that is ready, the formulas are what it appends, and the name is its segment's.
pub record IsSide (b : BranchValue) (done : Done) (level : ℕ) (parts : List FreeTermFormula) (name : ℕ) : Type 0 where
  pub half : IsHalf done
  pub ready : b.ready ≡ Some (place_of done)
  pub entry : Entry
  pub at : slice_get (entries (branch_of b)) (place_of done) ≡ Some entry
  pub level_is : level ≡ entry.level
  pub makes : formulas_of parts ≡ made_of (metavars (branch_of b)) entry.formula (done_of done)
  pub name_is : name ≡ segment_after (segment (branch_of b)) (done_of done ∷ [])

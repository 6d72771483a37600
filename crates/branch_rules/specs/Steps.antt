-- What a call of `next` and one of `halves` answer.
use Rattle.std.specs.Prelude.{◌≡◌, ℕ, ◌+◌, [], ◌∷◌, ◌++◌, length, Some, None}
use Rattle.branch_rules.specs.Branch.{Done, go_left, go_right, entries, after}
use Rattle.branch_rules.specs.Next.{ComesNext, IsLeaf}
use Rattle.branch_rules.specs.BranchValue.{BranchValue, branch_of, done_as}
use Rattle.branch_rules.specs.declared.step.TabStep.{TabStep}
use Rattle.branch_rules.specs.declared.outcome.Next as next

-- the branch with one step more, and no place ready
pub record IsAfter (b : BranchValue) (d : Done) (c : BranchValue) : Type 0 where
  pub branch : branch_of c ≡ after (branch_of b) d
  pub rules : c.rules ≡ b.rules
  pub ready : c.ready ≡ None

-- the branch as it was, with the place ready
abbrev pub with_ready : BranchValue → ℕ → BranchValue
with_ready b place = record { start = b.start; rules = b.rules; steps = b.steps; ready = Some place }

abbrev pub done_by : TabStep → Done
done_by s = done_as s.place s.kind

-- The answer: the branch has no step; or its next step, which is none of class 3, was done; or its next step splits it
-- at the place, which is now ready.
abbrev pub IsNextAnswer : BranchValue → ℕ → next.Next → Type 0
IsNextAnswer b depth (next.TheVariants.Done c) = (c ≡ b) × IsLeaf (branch_of b) depth
IsNextAnswer b depth (next.TheVariants.One c s) =
    ComesNext (branch_of b) depth (done_by s) × IsAfter b (done_by s) c
    × (length (entries (branch_of c)) ≡ length (entries (branch_of b)) + s.appended)
IsNextAnswer b depth (next.TheVariants.Splits c place) =
    ComesNext (branch_of b) depth (go_left place) × (c ≡ with_ready b place)

-- both sides of the split at the place
pub record AreHalves (b : BranchValue) (place : ℕ) (left right : BranchValue) : Type 0 where
  pub left_side : IsAfter b (go_left place) left
  pub right_side : IsAfter b (go_right place) right

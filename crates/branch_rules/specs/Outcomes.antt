-- What comes of the search for the next step.
use Rattle.std.specs.Prelude.{◌≡◌, ℕ, ◌+◌, length}
use Rattle.branch_rules.specs.Branch.{go_left, after, entries}
use Rattle.branch_rules.specs.Next.{ComesNext, IsLeaf}
use Rattle.branch_rules.specs.BranchView.{branch_in, HoldSame}
use Rattle.branch_rules.specs.Steps.{done_by}
use Rattle.branch_rules.specs.declared.branch.Lists.{Lists}
use Rattle.branch_rules.specs.declared.work.Outcome.{Outcome}
use Rattle.branch_rules.specs.declared.work.Outcome.TheVariants.{Done, One, Splits}

-- The branch has no step, or a split comes next, and the lists hold what they did; or the step that comes next was
-- done.
abbrev pub IsOutcome : Lists → Lists → ℕ → Outcome → Type 0
IsOutcome l m depth Done = HoldSame l m × IsLeaf (branch_in l) depth
IsOutcome l m depth (Splits i) = HoldSame l m × ComesNext (branch_in l) depth (go_left i)
IsOutcome l m depth (One s) =
    ComesNext (branch_in l) depth (done_by s) × (branch_in m ≡ after (branch_in l) (done_by s)) × (m.rules ≡ l.rules)
    × (length (entries (branch_in m)) ≡ length (entries (branch_in l)) + s.appended)

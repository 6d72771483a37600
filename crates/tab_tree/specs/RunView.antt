-- What a run of the steps of a segment came to.
use Rattle.std.specs.Prelude.{◌≡◌, ℕ, List, map, None}
use Rattle.branch_rules.specs.BranchValue.{BranchValue, branch_of}
use Rattle.branch_rules.specs.Steps.{done_by}
use Rattle.branch_rules.specs.declared.step.TabStep.{TabStep}
use Rattle.tab_tree.specs.Runs.{Runs, Ends}
use Rattle.tab_tree.specs.SiteValue.{SiteValue}
use Rattle.tab_tree.specs.declared.segment.Run.{Run}

-- From the branch on its steps come next one after the other, up to a leaf or a split.
pub record DidRun (d : ℕ) (b : BranchValue) (r : Run) : Type 0 where
  pub runs : Runs d (branch_of b) (map done_by r.steps) (branch_of r.branch)
  pub ends : Ends d (branch_of r.branch) r.splits_at
  pub rules : r.branch.rules ≡ b.rules
  pub ready : r.branch.ready ≡ r.splits_at

-- the steps so far
pub record HasRun (d : ℕ) (b : BranchValue) (steps : List TabStep) (c : BranchValue) : Type 0 where
  pub runs : Runs d (branch_of b) (map done_by steps) (branch_of c)
  pub rules : c.rules ≡ b.rules
  pub ready : c.ready ≡ None

-- the site that a run makes
abbrev pub site_by : ℕ → ℕ → ℕ → Run → SiteValue
site_by name depth from r = record {
  name = name;
  depth = depth;
  from = from;
  branch = r.branch;
  steps = r.steps;
  splits_at = r.splits_at;
}

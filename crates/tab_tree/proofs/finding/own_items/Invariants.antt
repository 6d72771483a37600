use Rattle.std.proofs.Common.{◌≡◌, ◌++◌, take}
use Rattle.branch_rules.specs.Branch.{entries}
use Rattle.branch_rules.specs.BranchValue.{branch_of}
use Rattle.tab_tree.specs.Items.{items_of}
use Rattle.tab_tree.specs.Literals.{occurrences}
use Rattle.tab_tree.specs.SiteValue.{items_in}
use Rattle.tab_tree.proofs.finding.own_items.Given as goal

abbrev pub invariant-loop-place : goal.invariant-loop-place
invariant-loop-place l =
    (items_in l.out ++ items_of l.place (entries (branch_of l.branch)) ≡ items_of l.from (entries (branch_of l.branch)))
    × (l.index ≡ occurrences (take l.place (entries (branch_of l.branch))))

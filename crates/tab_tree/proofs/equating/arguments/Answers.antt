use Rattle.std.proofs.Common.{sym, subst}
use Rattle.branch_rules.specs.Branch.{entries}
use Rattle.branch_rules.specs.BranchValue.{branch_of}
use Rattle.tab_tree.specs.Arguments.{IsItemOf}
use Rattle.tab_tree.specs.SiteValue.{item_of, segment_of}
use Rattle.tab_tree.proofs.ItemArguments.{segment_item}
use Rattle.tab_tree.proofs.equating.arguments.Goals as goal

pub arguments_of-requires : goal.arguments_of-requires
arguments_of-requires c =
    subst (λ b. IsItemOf (entries (branch_of b)) (item_of c.item_at.result)) (sym c.branch-site.ensures)
    (segment_item (segment_of c.args.site.now) c.args.item (item_of c.item_at.result) c.item_at.ensures)

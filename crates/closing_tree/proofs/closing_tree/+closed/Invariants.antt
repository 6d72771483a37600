use Rattle.std.proofs.Common.{◌+◌, ◌-◌, ◌*◌, ◌^◌}
use Rattle.closing_tree.proofs.closing_tree.+closed.Given as goal

-- names rise on the way down
abbrev pub decreases-closed_from : goal.decreases-closed_from
decreases-closed_from l = 3 * (2 ^ 128 - l.site.name) + 2

abbrev pub decreases-closed_below : goal.decreases-closed_below
decreases-closed_below l = 3 * (2 ^ 128 - l.site.now.name) + 1

abbrev pub decreases-closed_both : goal.decreases-closed_both
decreases-closed_both l = 3 * (2 ^ 128 - l.left.name) + 3

use Rattle.std.proofs.Common.{◌+◌, ◌*◌}
use Rattle.tableau_rows.proofs.walk.+walk.Given as goal

abbrev pub decreases-push_below : goal.decreases-push_below
decreases-push_below l = 2 * l.levels + 2

abbrev pub decreases-push_from : goal.decreases-push_from
decreases-push_from l = 2 * l.levels + 1

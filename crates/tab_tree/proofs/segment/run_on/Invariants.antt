use Rattle.tab_tree.specs.RunView.{HasRun}
use Rattle.tab_tree.proofs.SegmentRuns.{room_of}
use Rattle.tab_tree.proofs.segment.run_on.Given as goal

abbrev pub invariant-loop-steps : goal.invariant-loop-steps
invariant-loop-steps l = HasRun l.depth l.fn.branch l.steps l.at

abbrev pub decreases-loop-steps : goal.decreases-loop-steps
decreases-loop-steps l = room_of l.at

use Rattle.std.proofs.Common.{◌≡◌, take}
use Rattle.history_text.specs.Lines.{history_of}
use Rattle.goeland_run.specs.Histories.{histories_of}
use Rattle.goeland_run.proofs.histories.lines_of.Given as goal

abbrev pub invariant-loop-node : goal.invariant-loop-node
invariant-loop-node l = history_of l.lines ≡ histories_of (take l.node-index l.node-items)

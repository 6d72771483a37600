use Rattle.std.proofs.Common.{◌≡◌, [], length, reverse}
use Rattle.fof_parse.specs.Reader.Text.{from}
use Rattle.fof_parse.specs.Reader.Reading.{behind_balanced}
use Rattle.fof_parse.proofs.ending.behind_balanced.Given as goal

abbrev pub invariant-loop-token : goal.invariant-loop-token
invariant-loop-token l = behind_balanced (reverse l.open.items) (from l.text l.at) ≡ behind_balanced [] (from l.text l.initial.at)

abbrev pub decreases-loop-token : goal.decreases-loop-token
decreases-loop-token l = length (from l.text l.at)

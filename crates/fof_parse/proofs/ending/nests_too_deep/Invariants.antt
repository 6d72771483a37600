use Rattle.std.proofs.Common.{◌≡◌, ◌≤◌, [], nat_lt, length, reverse}
use Rattle.fof_parse.specs.Reader.Text.{from}
use Rattle.fof_parse.specs.Nesting.{nesting}
use Rattle.fof_parse.proofs.ending.nests_too_deep.Given as goal

abbrev pub invariant-loop-token : goal.invariant-loop-token
invariant-loop-token l = record {
  same : nat_lt 500 (nesting l.count (reverse l.kept.items) (from l.text l.at)) ≡ nat_lt 500 (nesting 0 [] (from l.text 0));
  low : l.count ≤ 500;
}

abbrev pub decreases-loop-token : goal.decreases-loop-token
decreases-loop-token l = length (from l.text l.at)

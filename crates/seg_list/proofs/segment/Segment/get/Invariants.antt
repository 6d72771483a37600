use Rattle.std.proofs.Common.{◌≡◌, slice_get}
use Rattle.seg_list.proofs.segment.Segment.get.Given as goal

abbrev pub invariant-loop-at : goal.invariant-loop-at
invariant-loop-at g l = slice_get l.at.items l.place ≡ slice_get l.self.items l.place

use Rattle.std.proofs.Common.{◌∙◌, arith}
use Rattle.seg_list.proofs.Places.{stands_in}
use Rattle.seg_list.proofs.segment.Segment.get.Goals as goal

pub returns-then-at-place : goal.returns-then-at-place
returns-then-at-place g c =
    let same =
    stands_in c.at.inside.above _ c.at.inside.items.items c.at.inside.start c.at.inside.depth c.args.place
    c.at.view_is c.at.invariant.0 (omega arith) in
    c.item_at.ensures ∙ (same ∙ c.loop-at.invariant)

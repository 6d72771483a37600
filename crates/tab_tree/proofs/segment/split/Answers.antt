use Rattle.std.proofs.Common.{◌≡◌, Some, ap, sym, ◌∙◌, subst, arith, refl}
use Rattle.tab_tree.specs.SiteValue.{segment_of, root_under, IsSegment}
use Rattle.tab_tree.specs.SiteView.{value_of}
use Rattle.branch_rules.specs.Branch.{go_left, go_right}
use Rattle.tab_tree.proofs.Names.{names_fit}
use Rattle.tab_tree.proofs.Prefix.{part_literals}
use Rattle.tab_tree.proofs.SegmentRuns.{left_made, right_made, parts_made}
use Rattle.tab_tree.proofs.segment.split.Goals as goal

pub overflow_mul-site-inside : goal.overflow_mul-site-inside
overflow_mul-site-inside c =
    let lt = names_fit c.site.inside.depth (root_under c.site.inside.branch) (segment_of (value_of c.site.inside)) c.in-Some.place refl c.site.invariant.segment c.in-Some.is in
    omega (arith, lt)

pub finish-requires-clause-segment : goal.finish-requires-clause-segment
finish-requires-clause-segment c =
    left_made (value_of c.site.inside) c.in-Some.place c.len-from.result c.in_ok-left.left c.in_ok-left.right c.in_ok-left-2.left c.in_ok-right.right
    c.site.invariant.segment c.in-Some.is c.len-from.ensures c.in_ok-left.ensures c.in_ok-left-2.ensures c.in_ok-right.ensures

pub finish-requires-2-clause-segment : goal.finish-requires-2-clause-segment
finish-requires-2-clause-segment c =
    right_made (value_of c.site.inside) c.in-Some.place c.len-from.result c.in_ok-left.left c.in_ok-left.right c.in_ok-left-2.left c.in_ok-right.right
    c.site.invariant.segment c.in-Some.is c.len-from.ensures c.in_ok-left.ensures c.in_ok-left-2.ensures c.in_ok-right.ensures

pub returns-clause-parts : goal.returns-clause-parts
returns-clause-parts c =
    parts_made c.args.round.now (value_of c.site.inside) c.args.site.now c.in-Some.place c.len-from.result c.in_ok-left.left c.in_ok-left.right
    c.in_ok-left-2.left c.in_ok-right.right c.in_ok-left-3.left c.in_ok-right-2.right (sym c.site.view_is) c.requires
    c.site.invariant.segment c.in-Some.is c.len-from.ensures c.in_ok-left.ensures c.in_ok-left-2.ensures c.in_ok-right.ensures
    c.in_ok-left-3.ensures c.in_ok-right-2.ensures

pub finish-requires-clause-index : goal.finish-requires-clause-index
finish-requires-clause-index c =
    part_literals c.site.inside.depth c.len-from.result c.site.inside.branch c.in_ok-left.left (go_left c.in-Some.place)
    c.in_ok-left-2.left c.site.inside.index c.in_ok-of_left.of_left c.in_ok-left.ensures.left_side c.in_ok-left-2.ensures
    c.len-from.ensures c.site.invariant.indexed c.in_ok-of_left.ensures.left

pub finish-requires-2-clause-index : goal.finish-requires-2-clause-index
finish-requires-2-clause-index c =
    part_literals c.site.inside.depth c.len-from.result c.site.inside.branch c.in_ok-left.right (go_right c.in-Some.place)
    c.in_ok-right.right c.site.inside.index c.in_ok-of_left.of_right c.in_ok-left.ensures.right_side c.in_ok-right.ensures
    c.len-from.ensures c.site.invariant.indexed c.in_ok-of_left.ensures.right

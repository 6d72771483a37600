use Rattle.std.proofs.Common.{rules}
use Rattle.unify.specs.View.{offer_of}
use Rattle.deskolem.specs.View.{names_of}
use Rattle.deskolem.proofs.Lined.{lines_remain, rooms_left, line_added, line_refused, lines_added}
use Rattle.deskolem.proofs.measuring.measure_lines.Goals as goal

pub loop-line-init : goal.loop-line-init
loop-line-init c = (search rules, c.requires.room, c.no_extents-noted.ensures _ _ _, lines_remain (offer_of c.args.offer.now) (names_of c.args.names.now) c.args.lengths.now (record { bytes = 6; depth = 0 }) c.args.lines.now)

pub loop-line-preserved : goal.loop-line-preserved
loop-line-preserved c = (
  search rules,
  rooms_left c.args.lines.now c.loop-line.line-index c.loop-line.invariant.1,
  search rules,
  line_added (offer_of c.args.offer.now) (names_of c.args.names.now) c.args.lengths.now (record { bytes = 6; depth = 0 }) c.args.lines.now c.loop-line.count c.in-Ok.more c.loop-line.line-index c.args.limit c.line-item.result c.loop-line.invariant.3
      (search rules) (search rules) c.in-Ok.ensures.sum,
)

pub returns-in-Err : goal.returns-in-Err
returns-in-Err c =
    line_refused (offer_of c.args.offer.now) (names_of c.args.names.now) c.args.lengths.now (record { bytes = 6; depth = 0 }) c.args.lines.now c.loop-line.count c.loop-line.line-index c.args.limit c.line-item.result c.in-Err.e c.loop-line.invariant.3
    (search rules) (search rules) c.in-Err.ensures.sum

pub returns : goal.returns
returns c =
    lines_added (offer_of c.args.offer.now) (names_of c.args.names.now) c.args.lengths.now (record { bytes = 6; depth = 0 }) c.args.lines.now c.loop-line.count c.loop-line.line-index c.args.limit c.loop-line.invariant.3 (search rules) c.loop-line.invariant.0

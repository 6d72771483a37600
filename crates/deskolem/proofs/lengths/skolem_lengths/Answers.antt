use Rattle.std.proofs.Common.{rules}
use Rattle.deskolem.proofs.Spanned.{spans_next}
use Rattle.deskolem.proofs.lengths.skolem_lengths.Goals as goal

pub loop-name-preserved : goal.loop-name-preserved
loop-name-preserved c =
    spans_next c.args.names.now c.as_slice-name-items.result.now c.loop-name.name-index c.loop-name.lengths c.put.new.lengths c.in_ok-put.ensures c.loop-name.invariant (search rules) (search rules)
    (search rules)

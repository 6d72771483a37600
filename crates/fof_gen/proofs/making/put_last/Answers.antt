use Rattle.fof_gen.proofs.Lines.{last_put}
use Rattle.fof_gen.proofs.making.put_last.Goals as goal

pub returns : goal.returns
returns c = last_put _ _ _ _ c.in_ok-put.ensures c.in_ok-extend_from_slice.ensures.items

use Rattle.fof_gen.proofs.Lines.{rule_put}
use Rattle.fof_gen.proofs.making.put_rule.Goals as goal

pub returns : goal.returns
returns c = rule_put _ _ _ _ _ _ c.in_ok-put.ensures c.in_ok-put-2.ensures c.in_ok-put-3.ensures c.in_ok-extend_from_slice.ensures.items

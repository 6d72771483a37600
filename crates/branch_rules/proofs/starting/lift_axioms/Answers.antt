use Rattle.std.proofs.Common.{◌+◌, arith}
use Rattle.branch_rules.proofs.Lifting.{lifted_start, lifted_more, next_no_param, lifted_all}
use Rattle.branch_rules.proofs.starting.lift_axioms.Goals as goal

pub loop-i-init : goal.loop-i-init
loop-i-init c = lifted_start c.args.axioms.now _ c.new-out.ensures c.requires

pub lift-requires : goal.lift-requires
lift-requires c = next_no_param c.args.axioms.now c.loop-i.i c.index-axioms-i.result c.loop-i.out (omega arith) c.index-axioms-i.is c.loop-i.invariant

pub loop-i-preserved : goal.loop-i-preserved
loop-i-preserved c =
    lifted_more c.args.axioms.now c.loop-i.i (c.loop-i.i + 1) c.index-axioms-i.result c.loop-i.out c.push.new.self c.in_ok-lifted.lifted (omega arith) (omega arith) c.index-axioms-i.is c.in_ok-lifted.ensures c.in_ok-push.ensures.ok c.loop-i.invariant

pub returns : goal.returns
returns c = lifted_all c.args.axioms.now c.loop-i.i c.loop-i.out (omega arith) c.loop-i.invariant

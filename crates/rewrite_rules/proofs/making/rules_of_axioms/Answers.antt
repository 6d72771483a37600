use Rattle.std.proofs.Common.{arith}
use Rattle.std.proofs.lemmas.Result.{IfOk-weaker}
use Rattle.rewrite_rules.proofs.Marks.{begun, one_no_param, kept_more, ended}
use Rattle.rewrite_rules.proofs.making.rules_of_axioms.Goals as goal

pub loop-i-init : goal.loop-i-init
loop-i-init c = begun c.as_slice-axioms.result.now c.args.axioms.now _ _ c.as_slice-axioms.ensures c.new-items.ensures c.new-marks.ensures c.requires

pub rule_of_axiom-requires : goal.rule_of_axiom-requires
rule_of_axiom-requires c =
    one_no_param c.as_slice-axioms.result.now c.loop-i.i c.index-axioms-i.result c.loop-i.items (omega arith) c.index-axioms-i.is c.loop-i.invariant.made

pub loop-i-preserved : goal.loop-i-preserved
loop-i-preserved c =
    kept_more c.as_slice-axioms.result.now c.loop-i.i c.in_ok-place.place c.index-axioms-i.result c.loop-i.items c.add.new.items c.loop-i.marks c.add.new.marks c.in_ok-made.made
    (omega arith) c.index-axioms-i.is c.in_ok-place.ensures c.in_ok-made.ensures c.in_ok-add.ensures.items c.in_ok-add.ensures.marks c.loop-i.invariant

pub of-requires : goal.of-requires
of-requires c = c.loop-i.invariant.marked

pub returns : goal.returns
returns c =
    IfOk-weaker _ _ _ (λ made is. ended c.as_slice-axioms.result.now c.args.axioms.now c.loop-i.i c.loop-i.items made c.loop-i.marks c.as_slice-axioms.ensures (omega arith) is c.loop-i.invariant)
    c.of.ensures

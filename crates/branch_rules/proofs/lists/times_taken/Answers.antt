use Rattle.std.proofs.Common.{◌≡◌, ◌+◌, suc, length, arith, ◌∙◌}
use Rattle.branch_rules.specs.BranchView.{branch_in}
use Rattle.branch_rules.proofs.Counted.{counts_one, counts_none, all_counted}
use Rattle.branch_rules.proofs.lists.times_taken.Goals.{then-takes, else-takes}
use Rattle.branch_rules.proofs.lists.times_taken.Goals as goal

pub loop-n-preserved : goal.loop-n-preserved
loop-n-preserved c = record {
  count = elim c.if-takes.branch [
    | then-takes w ↦
        w.times-is
        ∙ counts_one (branch_in c.args.lists.now).steps c.args.place c.loop-n.n (c.loop-n.n + 1) c.loop-n.times c.takes.result (omega arith) c.takes.ensures w.if-takes.true c.loop-n.invariant.count
    | else-takes w ↦
        w.times-is
        ∙ counts_none (branch_in c.args.lists.now).steps c.args.place c.loop-n.n (c.loop-n.n + 1) c.loop-n.times c.takes.result (omega arith) c.takes.ensures w.if-takes.false c.loop-n.invariant.count
  ];
  within = elim c.if-takes.branch [
    | then-takes w ↦ omega (arith, w.times-is, c.loop-n.invariant.within)
    | else-takes w ↦ omega (arith, w.times-is, c.loop-n.invariant.within)
  ];
}

pub returns : goal.returns
returns c = all_counted c.args.lists.now c.args.place c.loop-n.n c.loop-n.times (omega (arith, c.len-n-end.ensures.value)) c.loop-n.invariant.count

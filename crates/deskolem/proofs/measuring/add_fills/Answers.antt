use Rattle.std.proofs.Common.{◌-◌, rules}
use Rattle.unify.specs.View.{offer_of}
use Rattle.deskolem.proofs.Fills.{fill_refused, fill_added, all_added, all_placed}
use Rattle.deskolem.proofs.measuring.add_fills.Goals as goal

pub loop-at-preserved : goal.loop-at-preserved
loop-at-preserved c = (
  search rules,
  search rules,
  search rules,
  search rules,
  fill_added (offer_of c.args.offer.now) c.args.lengths.now c.args.so_far c.args.rewriting.now.axiom c.args.rewriting.now.len c.args.rewriting.now.rewritten.fills
      c.loop-at.count c.in-Ok.more c.loop-at.place c.loop-at.next c.loop-at.at (c.loop-at.at - 1) c.args.limit c.index-fills-at.result (search rules) c.loop-at.invariant.4 (search rules) (search rules)
      c.in-Ok.ensures.sum,
)

pub returns-in-Err-clause-sum : goal.returns-in-Err-clause-sum
returns-in-Err-clause-sum c =
    fill_refused (offer_of c.args.offer.now) c.args.lengths.now c.args.so_far c.args.rewriting.now.axiom c.args.rewriting.now.len c.args.rewriting.now.rewritten.fills
    c.loop-at.count c.loop-at.place c.loop-at.next c.loop-at.at (c.loop-at.at - 1) c.args.limit c.index-fills-at.result c.in-Err.e (search rules) c.loop-at.invariant.4 (search rules) (search rules)
    c.in-Err.ensures.sum

pub returns-clause-place : goal.returns-clause-place
returns-clause-place c =
    all_placed (offer_of c.args.offer.now) c.args.lengths.now c.args.so_far c.args.rewriting.now.axiom c.args.rewriting.now.len c.args.rewriting.now.rewritten.fills
    c.loop-at.count c.loop-at.place c.loop-at.next c.loop-at.at (search rules) c.loop-at.invariant.4

pub returns-clause-sum : goal.returns-clause-sum
returns-clause-sum c =
    all_added (offer_of c.args.offer.now) c.args.lengths.now c.args.so_far c.args.rewriting.now.axiom c.args.rewriting.now.len c.args.rewriting.now.rewritten.fills
    c.loop-at.count c.loop-at.place c.loop-at.next c.loop-at.at c.args.limit (search rules) (search rules) c.loop-at.invariant.4

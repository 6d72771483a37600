use Rattle.std.proofs.Common.{rules, ℕ, List, subst, sym, arith}
use Rattle.lit_index.proofs.Linked.{IsBack, back_within, back_on, back_ends}
use Rattle.lit_index.proofs.segment.own_places.Goals as goal

pub index-found-requires : goal.index-found-requires
index-found-requires c =
    omega (arith, back_within c.args.held.now.items c.args.literal c.loop-at.at c.in-Some.i c.args.out.now.items c.loop-at.out.items c.requires.linked c.loop-at.invariant c.in-Some.is)

pub loop-at-smaller : goal.loop-at-smaller
loop-at-smaller c =
    (back_on c.args.held.now.items c.args.literal c.loop-at.at c.in-Some.i c.args.out.now.items c.loop-at.out.items c.requires.linked c.loop-at.invariant c.in-Some.is
    c.index-found.result.now c.index-found.ensures).1

pub loop-at-preserved : goal.loop-at-preserved
loop-at-preserved c =
    let P : List ℕ → Type 0 = λ out. IsBack c.args.held.now.items c.args.literal c.index-found.result.now.earlier c.args.out.now.items out in
    subst P (sym c.in_ok-push.ensures.items)
    (back_on c.args.held.now.items c.args.literal c.loop-at.at c.in-Some.i c.args.out.now.items c.loop-at.out.items c.requires.linked c.loop-at.invariant c.in-Some.is
    c.index-found.result.now c.index-found.ensures).0

pub returns : goal.returns
returns c = back_ends c.args.held.now.items c.args.literal c.loop-at.at c.args.out.now.items c.loop-at.out.items c.loop-at.invariant (search rules)

use Rattle.unify.specs.View.{offer_of}
use Rattle.unify.specs.Work.{pairs_of}
use Rattle.unify.specs.declared.work.Step.TheVariants as step
use Rattle.unify.proofs.Reduce.{reduces_self}
use Rattle.unify.proofs.Steps.{popped, popped_less, popped_memo}
use Rattle.unify.proofs.step.step.Goals as goal

pub loop-pair-init : goal.loop-pair-init
loop-pair-init c = record { reduces = reduces_self (offer_of c.args.s.now) (pairs_of c.args.work.now.items); memo = c.requires.memo }

pub loop-pair-smaller : goal.loop-pair-smaller
loop-pair-smaller c =
    popped_less (offer_of c.args.s.now) c.loop-pair.work.items _ c.in-Some.pair (pairs_of c.settled.new.work.items) _ c.in-Some.ensures.items c.in-Agreed.is
    c.in_ok-settled.ensures.step

pub loop-pair-preserved : goal.loop-pair-preserved
loop-pair-preserved c = record {
  reduces = popped _ _ c.loop-pair.work.items _ c.in-Some.pair (pairs_of c.settled.new.work.items) _ step.Agreed c.loop-pair.invariant.reduces c.in-Some.ensures.items
      c.in-Agreed.is c.in_ok-settled.ensures.step;
  memo = popped_memo (offer_of c.args.s.now) _ c.in-Some.pair (pairs_of c.settled.new.work.items) c.settled.new.memo _ step.Agreed c.in-Agreed.is
      c.in_ok-settled.ensures.step c.in_ok-settled.ensures.memo;
}

pub returns-in-Clash-clause-means : goal.returns-in-Clash-clause-means
returns-in-Clash-clause-means c =
    popped _ _ c.loop-pair.work.items _ c.in-Some.pair (pairs_of c.settled.new.work.items) _ step.Clash c.loop-pair.invariant.reduces c.in-Some.ensures.items c.in-Clash.is
    c.in_ok-settled.ensures.step

pub returns-in-Bind-clause-means : goal.returns-in-Bind-clause-means
returns-in-Bind-clause-means c =
    popped _ _ c.loop-pair.work.items _ c.in-Some.pair (pairs_of c.settled.new.work.items) _ (step.Bind c.in-Bind.binding) c.loop-pair.invariant.reduces
    c.in-Some.ensures.items c.in-Bind.is c.in_ok-settled.ensures.step

pub returns-in-Bind-clause-memo : goal.returns-in-Bind-clause-memo
returns-in-Bind-clause-memo c =
    popped_memo (offer_of c.args.s.now) _ c.in-Some.pair (pairs_of c.settled.new.work.items) c.settled.new.memo _ (step.Bind c.in-Bind.binding) c.in-Bind.is
    c.in_ok-settled.ensures.step c.in_ok-settled.ensures.memo

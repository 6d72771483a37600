use Rattle.std.proofs.Common.{List, All, sym, subst}
use Rattle.nego_node.specs.NodeValue.{NodeValue}
use Rattle.nego_core.specs.Bare.{bare}
use Rattle.nego_core.specs.Facts.{HasHistory, TookAllowed, TurnedDownOnce, AnswersTruly}
use Rattle.nego_core.specs.Verdict.{IsDecided, IsNeverStuck}
use Rattle.nego_core.proofs.Facts.{all-histories, all-allowed, all-once, all-answers, is-decided, is-never-stuck}
use Rattle.nego_core.proofs.Picked.{picked-next}
use Rattle.nego_core.proofs.board.run_picks.Goals as goal

pub loop-pick-preserved : goal.loop-pick-preserved
loop-pick-preserved g c =
    picked-next _ _ _ _ c.as_slice-pick-items.result.now c.loop-pick.pick-index _ _ _ c.loop-pick.unlawful _ _ c.in_ok-did.did c.counted-unlawful.result c.loop-pick.invariant c.in_ok-did.ensures
    c.loop-pick-test.true c.counted-unlawful.ensures

pub returns-clause-histories : goal.returns-clause-histories
returns-clause-histories g c =
    subst (λ (l : List (NodeValue _ _)). All (HasHistory g.F.Offer.Offer.tree (g.F.Field.tree c.args.field.now) c.args.round) (bare l)) (sym c.into_nodes-nodes.ensures)
    (all-histories _ _ (g.met.F.Field.laws c.args.field.now) c.args.round _ _ c.loop-pick.invariant.plays.play)

pub returns-clause-allowed : goal.returns-clause-allowed
returns-clause-allowed g c =
    subst (λ (l : List (NodeValue _ _)). All (TookAllowed g.F.Offer.Offer.tree (g.F.Field.tree c.args.field.now) c.args.round) (bare l)) (sym c.into_nodes-nodes.ensures)
    (all-allowed _ _ (g.met.F.Field.laws c.args.field.now) c.args.round _ _ c.loop-pick.invariant.plays.play)

pub returns-clause-once : goal.returns-clause-once
returns-clause-once g c =
    subst (λ (l : List (NodeValue _ _)). All (TurnedDownOnce g.F.Offer.Offer.tree (g.F.Field.tree c.args.field.now) c.args.round) (bare l)) (sym c.into_nodes-nodes.ensures)
    (all-once _ _ (g.met.F.Field.laws c.args.field.now) c.args.round _ _ c.loop-pick.invariant.plays.play)

pub returns-clause-answers : goal.returns-clause-answers
returns-clause-answers g c =
    subst (λ (l : List (NodeValue _ _)). All (AnswersTruly g.F.Offer.Offer.tree (g.F.Field.tree c.args.field.now) c.args.round) (bare l)) (sym c.into_nodes-nodes.ensures)
    (all-answers _ _ (g.met.F.Field.laws c.args.field.now) c.args.round _ _ c.loop-pick.invariant.plays.play)

pub returns-clause-decided : goal.returns-clause-decided
returns-clause-decided g c =
    subst (λ (l : List (NodeValue _ _)). IsDecided g.F.Offer.Offer.tree (g.F.Field.tree c.args.field.now) (bare l)) (sym c.into_nodes-nodes.ensures)
    (is-decided _ _ (g.met.F.Field.laws c.args.field.now) c.args.round _ _ c.loop-pick.invariant.plays.play)

pub returns-clause-never_stuck : goal.returns-clause-never_stuck
returns-clause-never_stuck g c =
    subst (λ (l : List (NodeValue _ _)). IsNeverStuck g.F.Offer.Offer.tree (g.F.Field.tree c.args.field.now) c.args.round (bare l)) (sym c.into_nodes-nodes.ensures)
    (is-never-stuck _ _ (g.met.F.Field.laws c.args.field.now) c.args.round _ _ c.loop-pick.invariant.plays.play)

-- What the verdict on a round says of the offers that close its tableau.
use Rattle.std.proofs.Common.{◌≡◌, ℕ, Option, Some, None, List, refl, sym, subst}
use Rattle.unify.specs.View.{offer_of}
use Rattle.tab_tree.specs.RoundValue.{RoundValue}
use Rattle.tab_tree.specs.declared.words.Engine.{Engine}
use Rattle.tab_tree.specs.declared.words.Engine.TheVariants as engine
use Rattle.nego_node.specs.Proposed.{Proposed}
use Rattle.nego_node.specs.declared.answers.Answer.{Answer}
use Rattle.nego_plain.specs.declared.settling.Verdict.{Verdict}
use Rattle.nego_plain.specs.declared.settling.Verdict.TheVariants.{Closed, Open, Spent}
use Rattle.pool_run.specs.Ends.{IsAnswerEnd, IsTrueEnd, end_of}
use Rattle.pool_run.specs.declared.outcome.PoolEnd.{PoolEnd}
use Rattle.pool_run.specs.declared.outcome.PoolEnd.TheVariants as pool
use Rattle.round_offers.specs.RoundOffer.{RoundOffer, tree_of_round, tree_of_offer}
use Rattle.round_offers.proofs.RoundLaws.{round_of_tree, round_closes, none_closes}
use Rattle.deepening.specs.Kept.{root_offer}
use Rattle.deepening.specs.Rounds.{RoundNodes, RoundRun, IsPlainRound, IsBoardRound, IsPoolRun, IsByPlain, IsByBoard, IsByAgents, IsByEngine, IsSettledSo}
use Rattle.deepening.specs.RoundEnds.{Settles, SettlesPool}
use Rattle.deepening.specs.declared.order.Way.{Way}
use Rattle.deepening.specs.declared.kept.Kept.{Kept}
use Rattle.deepening.specs.declared.limits.Limits.{Limits}
use Rattle.deepening.proofs.Answering.{board-offer-is, pool-offer-is}
use Rattle.deepening.proofs.Roots.{root-offer-is}

pub plain-settles : (tries : Option ℕ) (r : RoundValue) (nodes : RoundNodes) (v : Verdict RoundOffer) → IsPlainRound tries r nodes v → Settles r v
plain-settles tries r nodes (Closed p) w = (round_of_tree p.offer r w.settled.verdict.2, (round_closes r p.offer).0 w.settled.verdict.3)
plain-settles tries r nodes (Open task) w = none_closes r w.settled.verdict.2
plain-settles tries r nodes Spent w = tt

answer-settles : (r : RoundValue) (a : Option (Answer RoundOffer)) (v : Verdict RoundOffer)
    → IsAnswerEnd tree_of_offer (tree_of_round r) r.depth a (end_of v) → Settles r v
answer-settles r a (Closed p) w = (round_of_tree p.offer r w.2, (round_closes r p.offer).0 w.3)
answer-settles r a (Open task) w = none_closes r w.2
answer-settles r a Spent w = tt

pub board-settles : (seed turns : ℕ) (r : RoundValue) (nodes : RoundNodes) (v : Verdict RoundOffer)
    → IsBoardRound seed turns r nodes v → Settles r v
board-settles seed turns r nodes v w = answer-settles r _ v w.answers

end-settles : (limit tries : ℕ) (r : RoundValue) (nodes : RoundNodes) (e : PoolEnd RoundOffer)
    → IsTrueEnd tree_of_offer (tree_of_round r) r.depth limit tries nodes e → SettlesPool r e
end-settles limit tries r nodes (pool.Closed p) w = (round_of_tree p.offer r w.2, (round_closes r p.offer).0 w.3)
end-settles limit tries r nodes (pool.Open task) w = none_closes r w.2
end-settles limit tries r nodes pool.Spent w = tt

pub pool-settles : (limit : ℕ) (r : RoundValue) (run : RoundRun) → IsPoolRun limit r run → SettlesPool r run.end
pool-settles limit r run w = end-settles limit run.tries r run.nodes run.end w.end

verdict-of-pool : (r : RoundValue) (v : Verdict RoundOffer) → SettlesPool r (end_of v) → Settles r v
verdict-of-pool r (Closed p) w = w
verdict-of-pool r (Open task) w = w
verdict-of-pool r Spent w = tt

module _ (way : Way) (limits : Limits) (r : RoundValue) (kept : Kept) where
  by-engine : (v : Verdict RoundOffer) (e : Option Engine) → IsByEngine way limits r kept v e → Settles r v
  by-engine v None w = absurd w
  by-engine v (Some engine.Plain) w = plain-settles limits.tries r kept.nodes v w.ended
  by-engine v (Some engine.Board) w = board-settles w.seed w.turns r kept.nodes v w.ended
  by-engine v (Some engine.Agents) w = verdict-of-pool r v (subst (SettlesPool r) w.end (pool-settles _ r w.run w.ended))

  -- what the verdict says of the offers, whichever engine came to it
  pub settles : (v : Verdict RoundOffer) → IsSettledSo way limits r kept v → Settles r v
  settles v w = by-engine v kept.engine w.1

  module _ (p : Proposed RoundOffer) where
    of-plain : IsPlainRound limits.tries r kept.nodes (Closed p) → root_offer kept.nodes ≡ Some p.offer
    of-plain w = root-offer-is tree_of_offer (tree_of_round r) r.depth w.settled.made w.settled.board kept.nodes p w.settled.run w.settled.verdict.0 w.settled.nodes

    of-board : (seed turns : ℕ) → IsBoardRound seed turns r kept.nodes (Closed p) → root_offer kept.nodes ≡ Some p.offer
    of-board seed turns w = board-offer-is tree_of_offer (tree_of_round r) r.depth w.board kept.nodes p w.answers.0 w.first w.runs w.same w.rising

    of-agents : IsByAgents way limits r kept (Closed p) → root_offer kept.nodes ≡ Some p.offer
    of-agents w =
        let end = subst (IsTrueEnd tree_of_offer (tree_of_round r) r.depth _ w.run.tries w.run.nodes) w.end w.ended.end in
        subst (λ (nodes : RoundNodes). root_offer nodes ≡ Some p.offer) w.nodes
        (pool-offer-is tree_of_offer (tree_of_round r) r.depth w.run.nodes p end.0 w.ended.nodes)

    root-of : (e : Option Engine) → IsByEngine way limits r kept (Closed p) e → root_offer kept.nodes ≡ Some p.offer
    root-of None w = absurd w
    root-of (Some engine.Plain) w = of-plain w.ended
    root-of (Some engine.Board) w = of-board w.seed w.turns w.ended
    root-of (Some engine.Agents) w = of-agents w

    -- the offer is that of the root's last event, whichever engine came to it
    pub root-offer : IsSettledSo way limits r kept (Closed p) → root_offer kept.nodes ≡ Some p.offer
    root-offer w = root-of kept.engine w.1

-- A round that was settled, and how it ends a search.
use Rattle.std.proofs.Common.{◌≡◌, ◌≢◌, ℕ, List, Option, Some, None, refl, sym, subst}
use Rattle.tab_tree.specs.RoundValue.{RoundValue}
use Rattle.tab_tree.specs.declared.words.Engine.{Engine}
use Rattle.tab_tree.specs.declared.words.Engine.TheVariants as engine
use Rattle.gs3_rules.specs.declared.step.Step.{Step}
use Rattle.nego_node.proofs.Sides.{same-some}
use Rattle.nego_plain.specs.declared.settling.Verdict.{Verdict}
use Rattle.nego_plain.specs.declared.settling.Verdict.TheVariants as verdict
use Rattle.pool_run.specs.Ends.{end_of}
use Rattle.pool_run.specs.declared.outcome.PoolEnd.{PoolEnd}
use Rattle.pool_run.specs.declared.outcome.PoolEnd.TheVariants as pool
use Rattle.round_offers.specs.RoundOffer.{RoundOffer}
use Rattle.deepening.specs.Rounds.{RoundNodes, RoundRun, IsBoardRound, IsPoolRun, ServesNot, IsLeftToPlain, IsSettledSo, pool_limit}
use Rattle.deepening.specs.RoundEnds.{EndsRound, EndsVerdict, EndsByOffer, IsLeftByAgents, IsWorth}
use Rattle.deepening.specs.declared.agents.Worth.TheVariants as worth
use Rattle.deepening.specs.declared.endings.Ending.{Ending}
use Rattle.deepening.specs.declared.endings.Ending.TheVariants.{Found, Exhausted, Spent, Long, Deep}
use Rattle.deepening.specs.declared.kept.Kept.{Kept}
use Rattle.deepening.specs.declared.limits.Limits.{Limits}
use Rattle.deepening.specs.declared.order.Order.TheVariants.{Scheduled}
use Rattle.deepening.specs.declared.order.Way.{Way}
use Rattle.deepening.specs.declared.order.Way.TheVariants.{Alone, Agents}

not-by-agents : (e : Option Engine) (ending : Ending) → e ≢ Some engine.Agents → IsLeftByAgents e ending
not-by-agents e (Found steps) away = tt
not-by-agents e (Exhausted answer) away = away
not-by-agents e (Spent made) away = away
not-by-agents e Long away = away
not-by-agents e Deep away = away

pub some-engine : (e : Engine) → e ≢ engine.Agents → Some e ≢ Some engine.Agents
some-engine e away same = away (same-some refl same)

module _ (way : Way) (limits : Limits) (r : RoundValue) (kept : Kept) where
  with-ending : (ending : Ending) → EndsByOffer way limits r kept ending → EndsRound way limits r kept (Some ending)
  with-ending (Found steps) w = w
  with-ending (Exhausted answer) w = absurd w.ends.2
  with-ending (Spent made) w = absurd w.ends.2
  with-ending Long w = w
  with-ending Deep w = w

  -- a round with a verdict of one thread's engine
  pub ends-by-verdict : (v : Verdict RoundOffer) (ending : Option Ending) → kept.engine ≢ Some engine.Agents
      → IsSettledSo way limits r kept v → EndsVerdict r limits v ending → EndsRound way limits r kept ending
  ends-by-verdict (verdict.Closed p) ending away w (e, is, ends) =
      subst (EndsRound way limits r kept) (sym is)
      (with-ending e (record { proposal = p; settled = w; ends = ends; by = not-by-agents kept.engine e away }))
  ends-by-verdict (verdict.Open task) ending away w is =
      subst (EndsRound way limits r kept) (sym is) (record { task = task; settled = w })
  ends-by-verdict verdict.Spent ending away w is =
      subst (EndsRound way limits r kept) (sym is) (record { settled = w; most = refl })

-- a board's verdict
pub by-board : (seed turns : ℕ) (limits : Limits) (r : RoundValue) (nodes : RoundNodes) (v : Verdict RoundOffer)
    → IsBoardRound seed turns r nodes v
    → IsSettledSo (Alone (Scheduled seed turns)) limits r (record { depth = r.depth; engine = Some engine.Board; nodes = nodes; given_up = None }) v
by-board seed turns limits r nodes v w =
    (refl, record { seed = seed; turns = turns; asked = refl; ended = w; alone_settled = refl })

-- a pool's verdict
module _ (workers : ℕ) (limits : Limits) (r : RoundValue) (run : RoundRun) (is : IsPoolRun (pool_limit limits) r run) where
  abbrev pub pooled : Kept
  pooled = record { depth = r.depth; engine = Some engine.Agents; nodes = run.nodes; given_up = None }

  by-agents : (v : Verdict RoundOffer) → run.end ≡ end_of v → v ≢ verdict.Spent → IsSettledSo (Agents workers) limits r pooled v
  by-agents v ends serves = (
    refl,
    record { workers = workers; asked = refl; run = run; ended = is; nodes = refl; end = ends; serves = serves; alone_settled = refl },
  )

  proof-end : (e : PoolEnd RoundOffer) (steps : List Step) → run.end ≡ e → IsWorth limits r e (worth.Proof steps)
      → EndsRound (Agents workers) limits r pooled (Some (Found steps))
  proof-end (pool.Closed p) steps ends w =
      record { proposal = p; settled = by-agents (verdict.Closed p) ends (λ e. cc); ends = w; by = tt }
  proof-end (pool.Open task) steps ends w = absurd w
  proof-end pool.Spent steps ends w = absurd w

  open-end : (e : PoolEnd RoundOffer) → run.end ≡ e → IsWorth limits r e worth.Open → EndsRound (Agents workers) limits r pooled None
  open-end (pool.Closed p) ends w = absurd w
  open-end (pool.Open task) ends w = record { task = task; settled = by-agents (verdict.Open task) ends (λ e. cc) }
  open-end pool.Spent ends w = absurd w

  nothing-end : (e : PoolEnd RoundOffer) → run.end ≡ e → IsWorth limits r e worth.Nothing → IsLeftToPlain (Agents workers) limits r (Some run)
  nothing-end (pool.Closed p) ends w = (run, refl, record { run_is = is; serves_not = subst (ServesNot limits r) (sym ends) w })
  nothing-end (pool.Open task) ends w = absurd w
  nothing-end pool.Spent ends w = (run, refl, record { run_is = is; serves_not = subst (ServesNot limits r) (sym ends) w })

  pub ends-with-proof : (steps : List Step) → IsWorth limits r run.end (worth.Proof steps)
      → EndsRound (Agents workers) limits r pooled (Some (Found steps))
  ends-with-proof steps w = proof-end run.end steps refl w

  pub ends-open-too : IsWorth limits r run.end worth.Open → EndsRound (Agents workers) limits r pooled None
  ends-open-too w = open-end run.end refl w

  pub left-to-plain : IsWorth limits r run.end worth.Nothing → IsLeftToPlain (Agents workers) limits r (Some run)
  left-to-plain w = nothing-end run.end refl w

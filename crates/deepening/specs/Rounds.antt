-- The last round of a search, as it is kept.
use Rattle.std.specs.Prelude.{◌≡◌, ◌≢◌, ◌≤◌, ◌<◌, ◌⊎◌, ℕ, List, All, Option, Some, None, IsPermutation}
use Rattle.std.specs.Option.{unwrap_or}
use Rattle.fof_parse.specs.Problem.{PlainProblem}
use Rattle.fof_parse.specs.ProblemView.{plain_problem}
use Rattle.unify.specs.Offers.{Offer}
use Rattle.unify.specs.View.{offer_of}
use Rattle.rewrite_rules.specs.Rules.{RewriteRule}
use Rattle.rewrite_rules.specs.RuleView.{rules_in}
use Rattle.tab_tree.specs.RoundValue.{RoundValue, root_of}
use Rattle.tab_tree.specs.declared.words.Engine.{Engine}
use Rattle.tab_tree.specs.declared.words.Engine.TheVariants as engine
use Rattle.round_offers.specs.RoundOffer.{RoundOffer, tree_of_round, tree_of_offer}
use Rattle.round_offers.specs.RoundTableau.{tableau_of}
use Rattle.tab_field.specs.PlaceValue.{PlaceValue}
use Rattle.nego_node.specs.NodeValue.{NodeValue}
use Rattle.nego_node.specs.Order.{AreRising}
use Rattle.nego_node.specs.Board.{first_board}
use Rattle.nego_node.specs.Proposed.{Proposed}
use Rattle.nego_plain.specs.Settling.{IsSettled}
use Rattle.nego_plain.specs.declared.settling.Verdict.{Verdict}
use Rattle.nego_plain.specs.declared.settling.Verdict.TheVariants.{Closed, Spent}
use Rattle.nego_plain.specs.declared.tries.Tries.{Tries}
use Rattle.nego_core.specs.Bare.{bare}
use Rattle.nego_core.specs.Facts.{HasHistory}
use Rattle.nego_core.specs.Links.{StandsAt}
use Rattle.nego_core.specs.Picking.{Leads}
use Rattle.nego_core.specs.Schedule.{scheduled}
use Rattle.nego_core.specs.Verdict.{root_answer}
use Rattle.pool_run.specs.Ends.{AreOfRound, IsAnswerEnd, IsTrueEnd, end_of}
use Rattle.pool_run.specs.Values.{RunValue}
use Rattle.pool_run.specs.declared.outcome.PoolEnd.{PoolEnd}
use Rattle.pool_run.specs.declared.outcome.PoolEnd.TheVariants as pool
use Rattle.translation.specs.Measures.{MeasuredProof, Translates}
use Rattle.deskolem.specs.Answer.{most_nesting}
use Rattle.deepening.specs.Kept.{root_offer}
use Rattle.deepening.specs.declared.kept.Kept.{Kept}
use Rattle.deepening.specs.declared.limits.Limits.{Limits}
use Rattle.deepening.specs.declared.limits.TheConstants.{POOL_TRIES}
use Rattle.deepening.specs.declared.order.Order.TheVariants.{Plain, Scheduled}
use Rattle.deepening.specs.declared.order.Way.{Way}
use Rattle.deepening.specs.declared.order.Way.TheVariants.{Alone, Agents}

-- Negotiations over a round's tableau.
abbrev pub RoundNodes : Type 0
RoundNodes = List (NodeValue PlaceValue RoundOffer)

-- What a pool did on a round.
abbrev pub RoundRun : Type 0
RoundRun = RunValue PlaceValue RoundOffer

-- The plain order was followed over the round's tableau, with the tries of one round, from the root alone up to the
-- verdict.
pub record IsPlainRound (tries : Option ℕ) (round : RoundValue) (nodes : RoundNodes)
    (verdict : Verdict RoundOffer) : Type 0 where
  pub before : Tries
  pub after : Tries
  pub limit : before.limit ≡ tries
  pub none_made : before.made ≡ 0
  pub settled : IsSettled tree_of_offer (tree_of_round round) round.depth before after verdict nodes

module _ (seed turns : ℕ) (round : RoundValue) where
  -- The picks of the schedule lead from the root alone to the board, whose nodes stand in the order of opening.
  abbrev pub LeadsTo : RoundNodes → Type 0
  LeadsTo board =
      (unlawful : ℕ) × Leads tree_of_offer (tree_of_round round) round.depth (first_board round.depth) 0
      (scheduled seed turns) (bare board) unlawful

  -- The picks of the schedule lead to a board whose root, which stands first, has the verdict's answer. Each history is
  -- a run of the machine.
  pub record IsBoardRound (nodes : RoundNodes) (verdict : Verdict RoundOffer) : Type 0 where
    pub board : RoundNodes
    pub led : LeadsTo board
    pub first : StandsAt (bare board) 0 1
    pub runs : All (HasHistory tree_of_offer (tree_of_round round) round.depth) (bare board)
    pub answers : IsAnswerEnd tree_of_offer (tree_of_round round) round.depth (root_answer (bare board))
        (end_of verdict)
    pub same : IsPermutation board nodes
    pub rising : AreRising nodes

  -- The picks of the schedule lead to a board whose root has no answer.
  pub record IsUndecided : Type 0 where
    pub board : RoundNodes
    pub led : LeadsTo board
    pub no_answer : root_answer (bare board) ≡ None

-- how many tries a pool has
abbrev pub pool_limit : Limits → ℕ
pool_limit limits = unwrap_or limits.tries POOL_TRIES

-- A pool with so many tries worked on the round. Each history is a run of the machine.
pub record IsPoolRun (limit : ℕ) (round : RoundValue) (run : RoundRun) : Type 0 where
  pub tries : run.tries ≤ limit
  pub nodes : AreOfRound tree_of_offer (tree_of_round round) round.depth run.nodes
  pub end : IsTrueEnd tree_of_offer (tree_of_round round) round.depth limit run.tries run.nodes run.end

-- the translation of the closed tree that the round's tableau has under the offer
abbrev pub IsTranslationOf : RoundValue → Offer → MeasuredProof → Type 0
IsTranslationOf r s found = Translates (plain_problem r.problem).symbols.functions s (root_of r) (tableau_of r) found

-- the translation is over a limit
abbrev pub IsOver : Limits → MeasuredProof → Type 0
IsOver limits found = (limits.proof_bytes < found.bytes) ⊎ (most_nesting < found.nesting)

-- What a pool ended with serves for no verdict: its tries were spent, or its offer has a translation that is over a
-- limit.
abbrev pub ServesNot : Limits → RoundValue → PoolEnd RoundOffer → Type 0
ServesNot limits round (pool.Closed p) =
    (found : MeasuredProof) × IsTranslationOf round (offer_of p.offer.bindings) found × IsOver limits found
ServesNot limits round (pool.Open e) = ⊥
ServesNot limits round pool.Spent = Unit {0}

-- a pool gave the round up
pub record IsGivenUp (limits : Limits) (round : RoundValue) (run : RoundRun) : Type 0 where
  pub run_is : IsPoolRun (pool_limit limits) round run
  pub serves_not : ServesNot limits round run.end

-- what came before the plain order had to settle the round
abbrev pub IsLeftToPlain : Way → Limits → RoundValue → Option RoundRun → Type 0
IsLeftToPlain (Alone Plain) limits round given_up = given_up ≡ None
IsLeftToPlain (Alone (Scheduled seed turns)) limits round given_up = (given_up ≡ None) × IsUndecided seed turns round
IsLeftToPlain (Agents workers) limits round given_up =
    (run : RoundRun) × (given_up ≡ Some run) × IsGivenUp limits round run

-- Which engine settled a round, and what it did.
module _ (way : Way) (limits : Limits) (round : RoundValue) (kept : Kept) (verdict : Verdict RoundOffer) where
  pub record IsByPlain : Type 0 where
    pub left : IsLeftToPlain way limits round kept.given_up
    pub ended : IsPlainRound limits.tries round kept.nodes verdict

  pub record IsByBoard : Type 0 where
    pub seed : ℕ
    pub turns : ℕ
    pub asked : way ≡ Alone (Scheduled seed turns)
    pub ended : IsBoardRound seed turns round kept.nodes verdict
    pub alone_settled : kept.given_up ≡ None

  pub record IsByAgents : Type 0 where
    pub workers : ℕ
    pub asked : way ≡ Agents workers
    pub run : RoundRun
    pub ended : IsPoolRun (pool_limit limits) round run
    pub nodes : run.nodes ≡ kept.nodes
    pub end : run.end ≡ end_of verdict
    pub serves : verdict ≢ Spent
    pub alone_settled : kept.given_up ≡ None

  abbrev pub IsByEngine : Option Engine → Type 0
  IsByEngine None = ⊥
  IsByEngine (Some engine.Plain) = IsByPlain
  IsByEngine (Some engine.Board) = IsByBoard
  IsByEngine (Some engine.Agents) = IsByAgents

  -- what is kept is what settled the round
  abbrev pub IsSettledSo : Type 0
  IsSettledSo = (kept.depth ≡ round.depth) × IsByEngine kept.engine

module _ (problem : PlainProblem) (rules : List RewriteRule) (limits : Limits) (way : Way) (kept : Kept) where
  -- The round of that depth over the problem and its rules ended with the verdict, and is kept.
  pub record IsLastRound (d : ℕ) (verdict : Verdict RoundOffer) : Type 0 where
    pub round : RoundValue
    pub of_problem : plain_problem round.problem ≡ problem
    pub of_rules : rules_in round.rules ≡ rules
    pub of_depth : round.depth ≡ d
    pub ended : IsSettledSo way limits round kept verdict

  -- The round ended with an offer, which is that of the root's last event, and this is the translation of the closed
  -- tree that the round's tableau has under it.
  pub record IsClosed (d : ℕ) (found : MeasuredProof) : Type 0 where
    pub proposal : Proposed RoundOffer
    pub last : IsLastRound d (Closed proposal)
    pub of_root : root_offer kept.nodes ≡ Some proposal.offer
    pub translated : IsTranslationOf last.round (offer_of proposal.offer.bindings) found

-- The root's last event, where each of the nodes that are kept has a history of its own.
use Rattle.std.proofs.Common.{◌≡◌, ◌∙◌, ℕ, ◌<◌, Bool, true, false, Option, Some, None, List, [], ◌∷◌, All, length, zero, suc, ap, refl, subst, arith}
use Rattle.std.specs.Prelude.{slice_get, slice_index_or, Contains, Any, IsPermutation}
use Rattle.std.proofs.lemmas.Bool.{eq-eqb}
use Rattle.std.proofs.lemmas.List.Elements.{All-head}
use Rattle.std.proofs.lemmas.List.Sorted.{Contains-permutation}
use Rattle.nego_laws.specs.Tree.{Tree, Solves}
use Rattle.nego_node.specs.NodeValue.{NodeValue}
use Rattle.nego_node.specs.Proposed.{Proposed}
use Rattle.nego_node.specs.Machine.{State, beginning}
use Rattle.nego_node.specs.Lawful.{IsRun, replay}
use Rattle.nego_node.specs.Order.{AreRising}
use Rattle.nego_node.specs.Board.{BoardNode, node_named}
use Rattle.nego_node.specs.BoardSound.{IsBoard}
use Rattle.nego_node.specs.declared.answers.Answer.{Answer}
use Rattle.nego_node.specs.declared.answers.Answer.TheVariants as answer
use Rattle.nego_node.proofs.Sides.{none-some, same-some}
use Rattle.nego_plain.specs.Settling.{Says}
use Rattle.nego_plain.specs.declared.settling.Verdict.{Verdict}
use Rattle.nego_plain.specs.declared.settling.Verdict.TheVariants.{Closed, Open, Spent}
use Rattle.nego_core.specs.Bare.{bare_node, bare}
use Rattle.nego_core.specs.Facts.{HasHistory, AnswersTruly, Answers}
use Rattle.nego_core.specs.Links.{StandsAt}
use Rattle.nego_core.specs.Verdict.{root_answer, IsDecided}
use Rattle.pool_run.specs.Ends.{IsOfRound, AreOfRound, RootAnswers, IsAnswerEnd, end_of}
use Rattle.deepening.specs.Kept.{root_offer}
use Rattle.deepening.proofs.LastOffers.{last-offer-is, false-true}
use Rattle.deepening.proofs.Roots.{found-at}

module _ {S O : Type 0} where
  at-place : (nodes : List (NodeValue S O)) (k : ℕ) (d : NodeValue S O) → k < length nodes → slice_get nodes k ≡ Some (slice_index_or nodes k d)
  at-place [] k d less = absurd (omega (arith, less))
  at-place (n ∷ nodes) zero d less = refl
  at-place (n ∷ nodes) (suc k) d less = at-place nodes k d (omega (arith, less))

  -- the root is at that place, its history is a run, and it answers the offer
  pub root-answers : (tree : O → Tree O) (t : Tree O) (round k : ℕ) (nodes : List (NodeValue S O)) (n : NodeValue S O) (p : Proposed O)
      → AreRising nodes → slice_get nodes k ≡ Some n → n.state.name ≡ 1
      → IsRun tree t (beginning round n.state.name) n.history → replay t (beginning round n.state.name) n.history ≡ n.state
      → n.state.answer ≡ Some (answer.Proposal p) → root_offer nodes ≡ Some p.offer
  root-answers tree t round k nodes n p rising at named run replays says =
      found-at nodes k n rising at named
      ∙ last-offer-is tree t round n.state.name n.history p run (ap (λ (s : State O). s.answer) replays ∙ says)

  -- the first node of a board, which is its root
  record IsBoardRoot (tree : O → Tree O) (t : Tree O) (round : ℕ) (board : List (NodeValue S O)) (a : Answer O) : Type 0 where
    root : NodeValue S O
    on : Contains board root
    named : root.state.name ≡ 1
    says : root.state.answer ≡ Some a
    history : HasHistory tree t round (bare_node root)

  board-root : (tree : O → Tree O) (t : Tree O) (round : ℕ) (board : List (NodeValue S O)) (a : Answer O)
      → root_answer (bare board) ≡ Some a → StandsAt (bare board) 0 1 → All (HasHistory tree t round) (bare board)
      → IsBoardRoot tree t round board a
  board-root tree t round [] a says first runs = absurd (none-some refl says)
  board-root tree t round (m ∷ ms) a says first runs =
      record {
        root = m;
        on = (0, omega arith, refl);
        named = ap (λ (n : BoardNode O). n.state.name) (same-some refl first.1) ∙ first.2;
        says = says;
        history = All-head (HasHistory tree t round) (bare_node m) (bare ms) runs;
      }

  -- Where a board's root answers an offer, the root's last event has it.
  pub board-offer-is : (tree : O → Tree O) (t : Tree O) (round : ℕ) (board nodes : List (NodeValue S O)) (p : Proposed O)
      → root_answer (bare board) ≡ Some (answer.Proposal p) → StandsAt (bare board) 0 1 → All (HasHistory tree t round) (bare board)
      → IsPermutation board nodes → AreRising nodes → root_offer nodes ≡ Some p.offer
  board-offer-is tree t round board nodes p says first runs same rising =
      let r = board-root tree t round board (answer.Proposal p) says first runs in
      let c = Contains-permutation board nodes r.root same r.on in
      root-answers tree t round c.0 nodes r.root p rising (at-place nodes c.0 r.root c.1 ∙ ap Some c.2) r.named r.history.runs
      r.history.replays r.says

  -- The same of nodes that a pool leaves.
  pub pool-offer-is : (tree : O → Tree O) (t : Tree O) (round : ℕ) (nodes : List (NodeValue S O)) (p : Proposed O)
      → RootAnswers nodes (answer.Proposal p) → AreOfRound tree t round nodes → root_offer nodes ≡ Some p.offer
  pool-offer-is tree t round nodes p (k, n, less, at, (named, says)) are =
      let node = subst (IsOfRound tree t round) at (are.each k n less) in
      root-answers tree t n.state.round k nodes n p are.rising (at-place nodes k n less ∙ ap Some at) named node.node.runs
      node.node.replays says

module _ {O : Type 0} (tree : O → Tree O) (t : Tree O) (round : ℕ) where
  -- what the root of a board answers ends a pool as truly
  pub board-answers : (ns : List (BoardNode O)) (a : Answer O) (v : Verdict O) → IsBoard tree t round ns → StandsAt ns 0 1
      → All (AnswersTruly tree t round) ns → IsDecided tree t ns → root_answer ns ≡ Some a → Says false (Some a) v
      → IsAnswerEnd tree t round (root_answer ns) (end_of v)
  board-answers [] a v board first truly decided is says = absurd (none-some refl is)
  board-answers (m ∷ ms) a v board first truly decided is says = by-verdict v says
    where
      named : m.state.name ≡ 1
      named = ap (λ (n : BoardNode O). n.state.name) (same-some refl first.1) ∙ first.2

      there : node_named (m ∷ ms) 1 ≡ Some m
      there = rw (eq-eqb m.state.name 1 named) refl

      answers : (b : Answer O) → m.state.answer ≡ Some b → Answers tree t round m b
      answers b said = All-head (AnswersTruly tree t round) m ms truly b said

      by-verdict : (w : Verdict O) → Says false (Some a) w → IsAnswerEnd tree t round m.state.answer (end_of w)
      by-verdict (Closed p) said =
          let own = is ∙ said in
          let true_ = answers (answer.Proposal p) own in
          (own, board.first m p.task there true_.held, true_.truth.1.belongs, subst (λ (b : ℕ). Solves t p.offer b) (true_.node ∙ named) true_.truth.1.solves)
      by-verdict (Open e) said =
          let own = is ∙ said in
          let true_ = answers (answer.Exhausted e) own in
          (own, board.first m e there true_.held, λ s of_tree solves. absurd (false-true ((decided (answer.Exhausted e) own).1 (s, of_tree, solves))))
      by-verdict Spent said = absurd said

use Rattle.std.proofs.Common.{◌≡◌, ◌∙◌, ℕ, zero, suc, ◌+◌, ◌-◌, ◌^◌, ◌<◌, ◌≤◌, min, Bool, true, false, ◌&&◌, is_some, ◌⊎◌, inl, inr, Option, Some, None, List, [], ◌∷◌, All, Any, Contains, IsPermutation, length, map, not, nat_lt, nat_le, sum_by, sym, ap, refl, subst, arith, if◌then◌else◌}
use Rattle.std.proofs.lemmas.Bool.{leb-true}
use Rattle.std.proofs.lemmas.List.Elements.{All-nil, All-cons, All-head, All-tail, All-weaker}
use Rattle.std.proofs.lemmas.List.Sorted.{All-permutation, Contains-permutation}
use Rattle.nego_laws.specs.Tree.{Tree, Laws, Solves}
use Rattle.nego_node.specs.Machine.{State, half, other, side_of, has_proposal, answered_in, generation_of}
use Rattle.nego_node.specs.NodeValue.{NodeValue, IsNode}
use Rattle.nego_node.specs.Moves.{next_move, seeks, move_when_split, is_spent, is_present, is_exhausted, on_trial_in}
use Rattle.nego_node.specs.Board.{BoardNode, node_named, first_board, said_at}
use Rattle.nego_node.specs.BoardSound.{AreDistinct, IsOfBoard, IsBoard}
use Rattle.nego_node.specs.declared.tasks.Side.{Side}
use Rattle.nego_node.specs.declared.answers.Answer.{Answer}
use Rattle.nego_node.specs.declared.answers.Answer.TheVariants as answer
use Rattle.nego_node.specs.declared.acts.Act.{Act}
use Rattle.nego_node.specs.declared.acts.Act.TheVariants.{Receive, Post, Make}
use Rattle.nego_node.specs.declared.moves.Move.{Move}
use Rattle.nego_node.specs.declared.moves.Move.TheVariants.{Wait, Try, Split, Ask, Adopt, Agree, Forbid, Refuse, Exhaust}
use Rattle.nego_node.proofs.Sides.{none-some}
use Rattle.nego_node.proofs.BoardLookups.{here, further, found-in, found-name}
use Rattle.nego_node.proofs.Boards.{first-is-board, happens-board, said-some}
use Rattle.nego_plain.specs.PlainOrder.{IsPlainPick, receives, moves, asks, posts, below, PlainRun, stays, goes, tried_of}
use Rattle.nego_plain.specs.Views.{board_node}
use Rattle.nego_plain.specs.Engine.{has_reached}
use Rattle.nego_plain.specs.Settling.{Counts, IsSettled, IsVerdict}
use Rattle.nego_plain.specs.declared.tries.Tries.{Tries}
use Rattle.nego_plain.specs.declared.settling.Verdict.{Verdict}
use Rattle.nego_plain.specs.declared.settling.Verdict.TheVariants as verdict
use Rattle.pool_run.specs.Ends.{IsOfRound, AreOfRound, HasTry, RootAnswers, IsTrueEnd, end_of, tries_with}

abbrev is_try : Move → Bool
is_try Try = true
is_try _ = false

no-try : (x : Move) → is_try x ≡ false → x ≡ Try → ⊥
no-try x is e = absurd (let k : false ≡ true = sym is ∙ ap is_try e in cc)

-- A choice between moves is no Try where both are not.
if-else : (b : Bool) (x y : Move) → is_try x ≡ false → is_try y ≡ false → is_try (if b then x else y) ≡ false
if-else true x y f h = f
if-else false x y f h = h

module _ {O : Type 0} (s : State O) where
  -- Who has split tries nothing.
  split-tries-nothing : (o : Option Side) → is_try (move_when_split false s o) ≡ false
  split-tries-nothing None =
      if-else (is_spent s.left.slot) _ _ refl
      (if-else (is_spent s.right.slot) _ _ refl
      (if-else (has_proposal s.left.slot) _ _ refl
      (if-else (has_proposal s.right.slot) _ _ refl
      (if-else (not (is_some s.left.slot)) _ _ refl refl))))
  split-tries-nothing (Some side) =
      if-else (not (is_some (half s (other side)).slot)) _ _ refl
      (if-else (has_proposal (half s (other side)).slot) _ _
      (if-else (is_present (generation_of s.held) (half s (other side)).slot) _ _ refl refl)
      (if-else (is_exhausted (answered_in (half s (other side)).slot) && on_trial_in (half s (other side)).slot) _ _ refl refl))

-- Whoever is to try an item is so without being eager or with it.
same-try : (a b : Bool) (x y : Move) → (x ≡ Try → ⊥) → (if a then Wait else if b then Try else x) ≡ Try → (if a then Wait else if b then Try else y) ≡ Try
same-try true b x y f e = absurd (let k : Wait ≡ Try = e in cc)
same-try false true x y f e = refl
same-try false false x y f e = absurd (f e)

eager-tries : {O : Type 0} (t : Tree O) (s : State O) → next_move t false s ≡ Try → next_move t true s ≡ Try
eager-tries t s =
    same-try (not (seeks s)) (nat_lt s.next (t.items s.name)) _ _
    (no-try _ (if-else (not (t.parted s.name)) Exhaust _ refl (if-else (not s.has_split) Split _ refl (split-tries-nothing s (side_of s.trial)))))

module _ {O : Type 0} where
  -- a node of a name is in the list
  stands : (ns : List (BoardNode O)) (b : ℕ) (n : BoardNode O) → node_named ns b ≡ Some n → Contains ns n
  stands [] b n e = absurd (none-some refl e)
  stands (m ∷ ns) b n e =
      elim (found-in m ns b n e) [
        | inl at ↦ (0, omega arith, at.1)
        | inr on ↦ let w = stands ns b n on.1 in (suc w.0, omega (arith, w.1), w.2)
      ]

  -- what holds of each node by its name holds of all
  all-named : (P : BoardNode O → Type 0) (ns : List (BoardNode O)) → AreDistinct ns → ((b : ℕ) (n : BoardNode O) → node_named ns b ≡ Some n → P n) → All P ns
  all-named P [] d f = All-nil P
  all-named P (n ∷ ns) d f =
      All-cons P n ns (f n.state.name n (here n ns n.state.name refl))
      (all-named P ns d.1 (λ b m e. f b m (further n ns b (λ same. none-some d.0 (ap (λ (x : ℕ). node_named ns x) same ∙ e)) ∙ e)))

  -- where the pick of the plain order is Try, its node is to try an item
  pick-tries : (t : Tree O) (ns : List (BoardNode O)) {b d : ℕ} {act : Act} → IsPlainPick t ns b d act → act ≡ Make Try → (n : BoardNode O) × (node_named ns d ≡ Some n) × (next_move t false n.state ≡ Try)
  pick-tries t ns (receives n is none) e = absurd (let k : Receive ≡ Make Try = e in cc)
  pick-tries t ns (moves n step is holds next goes_on) e = (n, is, next ∙ (let k : Make step ≡ Make Try = e in cc))
  pick-tries t ns (asks n c side k is waits its other) e = absurd (let k : Receive ≡ Make Try = e in cc)
  pick-tries t ns (posts n c side k a is waits its holds says) e = absurd (let k : Post side ≡ Make Try = e in cc)
  pick-tries t ns (below n c side k is waits its holds none more) e = pick-tries t ns more e

module _ {S O : Type 0} where
  -- nodes of a program, of which the board's are the same without sites
  from-bare : (P : BoardNode O → Type 0) (nodes : List (NodeValue S O)) (n : BoardNode O) → Contains (map (λ v. board_node v) nodes) n → P n → Any (λ v. P (board_node v)) nodes
  from-bare P [] n (k, within, is) p = absurd (omega (arith, within))
  from-bare P (v ∷ nodes) n (zero, within, is) p = (0, v, omega arith, refl, subst P (sym is) p)
  from-bare P (v ∷ nodes) n (suc k, within, is) p =
      let w = from-bare P nodes n (k, omega (arith, within), is) p in (suc w.0, w.1, omega (arith, w.2), w.3, w.4)

  all-bare : (P : BoardNode O → Type 0) (nodes : List (NodeValue S O)) → All P (map (λ v. board_node v) nodes) → All (λ v. P (board_node v)) nodes
  all-bare P [] all = All-nil (λ (v : NodeValue S O). P (board_node v))
  all-bare P (v ∷ nodes) all =
      All-cons (λ (v : NodeValue S O). P (board_node v)) v nodes (All-head P (board_node v) (map (λ v. board_node v) nodes) all)
      (all-bare P nodes (All-tail P (board_node v) (map (λ v. board_node v) nodes) all))

module _ {O : Type 0} (tree : O → Tree O) (t : Tree O) (laws : Laws t (λ s. tree s ≡ t)) (round : ℕ) where
  -- the plain order keeps what a board is
  run-board : {made : ℕ} {ns : List (BoardNode O)} → PlainRun tree t round (first_board round) made ns → IsBoard tree t round ns
  run-board stays = first-is-board tree t laws round
  run-board (goes {ns = ms} act e run none pick is happens) = happens-board tree t laws round ms _ e _ (run-board run) happens

  -- a node of such a board
  abbrev IsBare : BoardNode O → Type 0
  IsBare n = (n.state.round ≡ round) × IsNode tree t n.state.name n.state n.history

  of-board : (b : ℕ) (n : BoardNode O) → IsOfBoard tree t round b n → IsBare n
  of-board b n is = (is.of_round, subst (λ (c : ℕ). IsNode tree t c n.state n.history) (sym is.node.is_named) is.node)

  module _ {S : Type 0} (before after : Tries) (v : Verdict O) (nodes : List (NodeValue S O)) (so : IsSettled tree t round before after v nodes) where
    board-is : IsBoard tree t round so.board
    board-is = run-board so.run

    pub settled-nodes : AreOfRound tree t round nodes
    settled-nodes =
        record {
          each =
              All-weaker (λ n. IsBare (board_node n)) (IsOfRound tree t round) (λ n p. record { same_round = p.0; node = p.1 }) nodes
              (all-bare IsBare nodes
              (All-permutation IsBare so.board (map (λ n. board_node n) nodes) so.nodes.same
              (all-named IsBare so.board board-is.distinct (λ b n is. of-board b n (board-is.nodes b n is)))));
          rising = so.nodes.rising;
        }

    -- a fact of a node of the board is one of a node of the program
    among : (P : BoardNode O → Type 0) (b : ℕ) (n : BoardNode O) → node_named so.board b ≡ Some n → P n → Any (λ v. P (board_node v)) nodes
    among P b n is p =
        from-bare P nodes n (Contains-permutation so.board (map (λ n. board_node n) nodes) n so.nodes.same (stands so.board b n is)) p

    root-says : (a : Answer O) → said_at so.board 1 ≡ Some a → RootAnswers nodes a
    root-says a says =
        let w = said-some (node_named so.board 1) a says in
        among (λ n. (n.state.name ≡ 1) × (n.state.answer ≡ Some a)) 1 w.0 w.1 (found-name so.board 1 w.0 w.1, w.2)

    module _ (limit drawn : ℕ) (few : drawn ≤ limit) (fits : limit < 2 ^ 64) (is_limit : before.limit ≡ Some (limit - drawn)) (is_new : before.made ≡ 0) where
      made-is : after.made ≡ min so.made (2 ^ 64 - 1)
      made-is = let e : after.made ≡ min (before.made + so.made) (2 ^ 64 - 1) = so.counts.made (omega (arith, is_new)) in omega (arith, e, is_new)

      made-within : after.made ≤ limit - drawn
      made-within =
          elim (so.counts.within (limit - drawn) is_limit) [
            | inl none ↦ omega (arith, none, made-is)
            | inr le ↦ le
          ]

      pub settled-within : drawn + after.made ≤ limit
      settled-within = omega (arith, made-within, few)

      pub settled-tries : drawn + after.made ≡ tries_with drawn nodes
      settled-tries =
          let tried : sum_by (λ n. tried_of n.history) nodes ≡ so.made = so.tried in
          let m = made-within in
          let e = made-is in
          omega (arith, tried, m, e, few, fits)

      spent-is : has_reached after.limit after.made ≡ true → drawn + after.made ≡ limit
      spent-is spent =
          let reached : nat_le (limit - drawn) after.made ≡ true = ap (λ (o : Option ℕ). has_reached o after.made) (sym (so.counts.limit ∙ is_limit)) ∙ spent in
          omega (arith, leb-true (limit - drawn) after.made reached, made-within, few)

      -- the end is as true as the verdict
      pub settled-end : IsTrueEnd tree t round limit (drawn + after.made) nodes (end_of v)
      settled-end = by-verdict v so.verdict
        where
          by-verdict : (w : Verdict O) → IsVerdict tree t round so.board after w → IsTrueEnd tree t round limit (drawn + after.made) nodes (end_of w)
          by-verdict (verdict.Closed p) says = (root-says (answer.Proposal p) says.0, says.1, says.2, says.3)
          by-verdict (verdict.Open e) says = (root-says (answer.Exhausted e) says.0, says.1, says.2)
          by-verdict verdict.Spent says =
              let w = pick-tries t so.board says.2 refl in
              (spent-is says.3, among (λ n. next_move t true n.state ≡ Try) says.1 w.0 w.1 (eager-tries t w.0.state w.2))

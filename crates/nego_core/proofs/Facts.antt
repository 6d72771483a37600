use Rattle.std.proofs.Common.{◌≡◌, ◌≢◌, ◌∙◌, ℕ, suc, ◌%◌, ◌<◌, true, ◌↔◌, inl, inr, Option, Some, List, [], ◌∷◌, All, length, slice_get, sym, ap, refl, subst}
use Rattle.std.proofs.lemmas.Option.{slice_get_within}
use Rattle.std.proofs.Math.Nat.{mod-eq_of_lt}
use Rattle.std.proofs.lemmas.List.Elements.{All-nil, All-cons}
use Rattle.nego_laws.specs.Tree.{Tree, Laws, Solves}
use Rattle.nego_node.specs.Machine.{State, beginning, is_proposal}
use Rattle.nego_node.specs.Lawful.{IsRun, replay}
use Rattle.nego_node.specs.Sound.{Keeps}
use Rattle.nego_node.specs.Board.{BoardNode, node_named, said_by, MayAct}
use Rattle.nego_node.specs.BoardSound.{AreDistinct, IsOfBoard}
use Rattle.nego_node.specs.declared.tasks.Task.{Task}
use Rattle.nego_node.specs.declared.tasks.Side.TheVariants.{Left, Right}
use Rattle.nego_node.specs.declared.moves.Move.TheVariants as moves
use Rattle.nego_node.specs.declared.acts.Act.{Act}
use Rattle.nego_node.specs.declared.acts.Act.TheVariants.{Receive, Post, Make}
use Rattle.nego_node.proofs.Sides.{none-some, same-some}
use Rattle.nego_node.proofs.Allowed.{run-allowed}
use Rattle.nego_node.proofs.TurnedDown.{history-once}
use Rattle.nego_node.proofs.BoardLookups.{here, further, found-in, found-name}
use Rattle.nego_node.proofs.BoardMoves.{SomeAct, never-stuck, verdict}
use Rattle.nego_core.specs.Acts.{acts}
use Rattle.nego_core.specs.Links.{IsPlay}
use Rattle.nego_core.specs.Picking.{MayPick}
use Rattle.nego_core.specs.Verdict.{root_answer, IsDecided, IsOpen, IsNeverStuck}
use Rattle.nego_core.specs.Facts.{HasHistory, TookAllowed, TurnedDownOnce, AnswersTruly}
use Rattle.nego_core.specs.declared.links.Link.{Link}
use Rattle.nego_core.specs.declared.picks.Pick.{Pick}

module _ {O : Type 0} where
  -- what holds of each node by its name holds of all
  all-named : (P : BoardNode O → Type 0) (ns : List (BoardNode O)) → AreDistinct ns → ((b : ℕ) (n : BoardNode O) → node_named ns b ≡ Some n → P n) → All P ns
  all-named P [] d f = All-nil P
  all-named P (n ∷ ns) d f =
      All-cons P n ns (f n.state.name n (here n ns n.state.name refl))
      (all-named P ns d.1 (λ b m e.
      f b m (further n ns b (λ same. none-some d.0 (ap (λ (x : ℕ). node_named ns x) same ∙ e)) ∙ e)))

  -- where a node of a name stands
  stands : (ns : List (BoardNode O)) (b : ℕ) (n : BoardNode O) → node_named ns b ≡ Some n → (i : ℕ) × (slice_get ns i ≡ Some n)
  stands [] b n e = absurd (none-some refl e)
  stands (m ∷ ns) b n e =
      elim (found-in m ns b n e) [
        | inl at ↦ (0, ap Some at.1)
        | inr on ↦ let w = stands ns b n on.1 in (suc w.0, w.1)
      ]

-- every act but to wait has a number
number-of : (act : Act) → act ≢ Make moves.Wait → (k : ℕ) × (slice_get acts k ≡ Some act)
number-of Receive ne = (0, refl)
number-of (Make moves.Try) ne = (1, refl)
number-of (Make moves.Split) ne = (2, refl)
number-of (Make (moves.Ask Left)) ne = (3, refl)
number-of (Make (moves.Ask Right)) ne = (4, refl)
number-of (Post Left) ne = (5, refl)
number-of (Post Right) ne = (6, refl)
number-of (Make (moves.Adopt Left)) ne = (7, refl)
number-of (Make (moves.Adopt Right)) ne = (8, refl)
number-of (Make moves.Agree) ne = (9, refl)
number-of (Make moves.Forbid) ne = (10, refl)
number-of (Make moves.Refuse) ne = (11, refl)
number-of (Make moves.Exhaust) ne = (12, refl)
number-of (Make moves.Wait) ne = absurd (ne refl)

module _ {O : Type 0} (tree : O → Tree O) (t : Tree O) (laws : Laws t (λ s. tree s ≡ t)) (round : ℕ) (ns : List (BoardNode O)) (links : List Link) (play : IsPlay tree t round ns links) where
  has-history : (b : ℕ) (n : BoardNode O) → node_named ns b ≡ Some n → HasHistory tree t round n
  has-history b n e =
      let known : IsOfBoard tree t round b n = play.board.nodes b n e in
      let start : beginning {O = O} n.state.round b ≡ beginning round n.state.name =
      ap (λ (x : ℕ). beginning {O = O} x b) known.of_round ∙ ap (λ (x : ℕ). beginning {O = O} round x) (sym known.node.is_named)
      in
      record {
        runs = subst (λ (s : State O). IsRun tree t s n.history) start known.node.runs;
        replays = ap (λ (s : State O). replay t s n.history) (sym start) ∙ known.node.replays;
      }

  pub all-histories : All (HasHistory tree t round) ns
  all-histories = all-named (HasHistory tree t round) ns play.board.distinct has-history

  pub all-allowed : All (TookAllowed tree t round) ns
  all-allowed =
      all-named (TookAllowed tree t round) ns play.board.distinct
      (λ b n e. run-allowed tree t (beginning round n.state.name) n.history (has-history b n e).runs)

  pub all-once : All (TurnedDownOnce tree t round) ns
  all-once =
      all-named (TurnedDownOnce tree t round) ns play.board.distinct
      (λ b n e side g. history-once tree t round n.state.name n.history (has-history b n e).runs side g)

  answers : (n : BoardNode O) → Keeps tree t n.state → AnswersTruly tree t round n
  answers n (inl first) a said = absurd (none-some (ap (λ (x : State O). x.answer) first) said)
  answers n (inr w) a said =
      let known = w.1.answer a said in
      record {
        held = w.1.held ∙ ap Some (sym known.0);
        node = ap (λ (x : Task O). x.node) known.0 ∙ w.1.node;
        truth = known.1;
      }

  pub all-answers : All (AnswersTruly tree t round) ns
  all-answers =
      all-named (AnswersTruly tree t round) ns play.board.distinct (λ b n e. answers n (play.board.nodes b n e).node.keeps)

  -- the first node is the root
  root-is-first : (n : BoardNode O) (ms : List (BoardNode O)) → ns ≡ n ∷ ms → node_named ns 1 ≡ Some n
  root-is-first n ms e =
      let w = play.starts in
      let same : n ≡ w.0 = same-some {a = n} refl (ap (λ (l : List (BoardNode O)). slice_get l 0) (sym e) ∙ w.1) in
      ap (λ (l : List (BoardNode O)). node_named l 1) e ∙ here n ms 1 (ap (λ (x : BoardNode O). x.state.name) same ∙ w.2)

  pub is-decided : IsDecided tree t ns
  is-decided a said = of-list ns refl said
    where
      of-list : (l : List (BoardNode O)) → ns ≡ l → root_answer l ≡ Some a → (is_proposal (Some a) ≡ true) ↔ ((s : O) × (tree s ≡ t) × Solves t s 1)
      of-list [] e is = absurd (none-some refl is)
      of-list (n ∷ ms) e is =
          verdict tree t laws round ns play.board a (ap (λ (o : Option (BoardNode O)). said_by o) (root-is-first n ms e) ∙ is)

  moves-at : (b : ℕ) (n : BoardNode O) (act : Act) → MayAct t round ns b n.state act → act ≢ Make moves.Wait
  moves-at b n act may e = subst (λ (x : Act). MayAct t round ns b n.state x) e may

  some-pick : SomeAct tree t laws round ns play.board → (p : Pick) × (p.node < length ns) × MayPick tree t round ns p
  some-pick some =
      let b : ℕ = some.0 in
      let n : BoardNode O = some.1 in
      let act : Act = some.2 in
      let at = stands ns b n some.3 in
      let number = number-of act (moves-at b n act some.4) in
      let within : at.0 < length ns = slice_get_within ns at.0 n at.1 in
      let same : at.0 % length ns ≡ at.0 = mod-eq_of_lt within in (
        record { node = at.0; act = number.0 },
        within,
        record {
          node = n;
          is_node = ap (λ (k : ℕ). slice_get ns k) same ∙ at.1;
          act = act;
          is_act = number.1;
          may = subst (λ (x : ℕ). MayAct t round ns x n.state act) (sym (found-name ns b n some.3)) some.4;
        },
      )

  pub is-never-stuck : IsNeverStuck tree t round ns
  is-never-stuck is_open = of-list ns refl is_open
    where
      of-list : (l : List (BoardNode O)) → ns ≡ l → IsOpen l → (p : Pick) × (p.node < length ns) × MayPick tree t round ns p
      of-list [] e is = absurd is
      of-list (n ∷ ms) e is =
          some-pick (never-stuck tree t laws round ns play.board n is.0.0 (root-is-first n ms e) is.0.1 is.1)

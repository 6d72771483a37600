use Rattle.std.proofs.Common.{◌≡◌, ◌≢◌, ◌∙◌, ℕ, ◌<◌, ◌≤◌, nat_eq, nat_le, if◌then◌else◌, [], ◌∷◌, Bool, true, false, Option, Some, None, List, ◌++◌, map, sym, ap, refl, subst, arith, IsSome, MatchBool}
use Rattle.std.proofs.lemmas.List.Sorted.{IsPermutation-trans, sum_by-IsPermutation}
use Rattle.std.proofs.lemmas.List.Sums.{sum_by-cons}
use Rattle.std.proofs.lemmas.Bool.{leb-true}
use Rattle.nego_node.specs.Histories.{one_if}
use Rattle.nego_node.specs.Order.{AreRising}
use Rattle.nego_node.proofs.Rising.{once-rising}
use Rattle.nego_node.proofs.Rising as counts
use Rattle.nego_laws.specs.Tree.{Tree, Laws, Solves, left_of, right_of}
use Rattle.nego_node.specs.Truth.{Serves, NothingServes}
use Rattle.nego_node.specs.Machine.{part_of}
use Rattle.nego_node.specs.Sound.{IsSound}
use Rattle.nego_node.specs.NodeValue.{NodeValue}
use Rattle.nego_node.specs.declared.tasks.Task.{Task}
use Rattle.nego_node.specs.declared.tasks.Side.TheVariants.{Left, Right}
use Rattle.nego_node.specs.declared.answers.Answer.{Answer}
use Rattle.nego_node.specs.declared.answers.Answer.TheVariants.{Proposal, Exhausted}
use Rattle.nego_node.specs.declared.acts.Act.TheVariants.{Make}
use Rattle.nego_node.specs.declared.moves.Move.TheVariants.{Try}
use Rattle.nego_node.specs.Board.{BoardNode, node_named, first_task, said_by, said_at}
use Rattle.nego_node.proofs.Sides.{sound-for}
use Rattle.nego_plain.specs.Width.{Sites, leaf, fork, sites_at, attempts}
use Rattle.nego_plain.specs.PlainOrder.{IsPlainPick}
use Rattle.nego_plain.specs.PlainOrder as order
use Rattle.nego_plain.specs.Family.{Family, top}
use Rattle.nego_plain.specs.Fits.{IsFamily}
use Rattle.nego_plain.specs.BoardOf.{nodes_of, count, has_name}
use Rattle.nego_plain.specs.Engine.{NextIsTry, here, left_below, right_below, is_spent, has_reached}
use Rattle.nego_plain.specs.Views.{board_node, family_below}
use Rattle.nego_plain.specs.Settling.{IsUnderWay, IsSettled, IsVerdict, Says, AreSorted}
use Rattle.nego_plain.specs.declared.tries.Tries.{Tries}
use Rattle.nego_plain.specs.declared.settling.Verdict.{Verdict}
use Rattle.nego_plain.specs.declared.settling.Verdict.TheVariants.{Closed, Open, Spent}
use Rattle.nego_plain.specs.declared.family.Below.{Below}
use Rattle.nego_plain.proofs.Joining.{top-below}
use Rattle.nego_plain.proofs.Tests.{no-bool}
use Rattle.nego_plain.proofs.Boards.{count-cons, Has, has-top, has-left, has-right, first, later, find}
use Rattle.nego_plain.proofs.Running.{top-node, root-node, all-sites}
use Rattle.nego_plain.proofs.Left.{one-left}
use Rattle.nego_plain.proofs.Attempts.{run-tries, tries-in-order}

one-name : (b : Bool) → (if b then 1 else 0) ≡ one_if b
one-name true = refl
one-name false = refl

-- as many nodes of a board have a name as of the program's
module _ {S O : Type 0} where
  named-count : (c : ℕ) (xs : List (NodeValue S O)) → count c (map (λ n. board_node n) xs) ≡ counts.count c xs
  named-count c [] = refl
  named-count c (x ∷ xs) =
      omega (arith, count-cons c (board_node x) (map (λ n. board_node n) xs), sum_by-cons (counts.is_named c) x xs, one-name (nat_eq x.state.name c), named-count c xs)

module _ {O : Type 0} (tree : O → Tree O) (t : Tree O) (laws : Laws t (λ s. tree s ≡ t)) (round : ℕ) where
  -- the next attempt of a family is the pick on its board
  pub next-pick : (ns : List (BoardNode O)) (b : ℕ) (sh : Sites) {f : Family O} → IsFamily tree t round b sh f → ((n : BoardNode O) → Has n (nodes_of f) → node_named ns n.state.name ≡ Some n) → NextIsTry t f → (c : ℕ) × IsPlainPick t ns (top f).state.name c (Make Try)
  next-pick ns b sh fam finds (here f seeks next) = ((top f).state.name, order.moves (top f) Try (finds (top f) (has-top f)) seeks.0 next (λ e. cc))
  next-pick ns b (leaf own) fam finds (left_below n l r k waits held quiet more) = absurd fam
  next-pick ns b (fork own x y) fam finds (left_below n l r k waits held quiet more) =
      let m : BoardNode O = top l in
      let at_l : m.state.name ≡ part_of n.state.name Left = (top-node tree t laws round (left_of b) x l fam.2).named ∙ ap left_of (sym fam.0.named) in
      let its : node_named ns (part_of n.state.name Left) ≡ Some m = subst (λ (c : ℕ). node_named ns c ≡ Some m) at_l (finds m (later m n (nodes_of l ++ nodes_of r) (has-left (nodes_of r) (has-top l)))) in
      let sub = next-pick ns (left_of b) x fam.2 (λ i h. finds i (later i n (nodes_of l ++ nodes_of r) (has-left (nodes_of r) h))) more in
      (sub.0, order.below n m Left k (finds n (first n (nodes_of l ++ nodes_of r))) waits its held quiet (subst (λ (c : ℕ). IsPlainPick t ns c sub.0 (Make Try)) at_l sub.1))
  next-pick ns b (leaf own) fam finds (right_below n l r k waits held quiet more) = absurd fam
  next-pick ns b (fork own x y) fam finds (right_below n l r k waits held quiet more) =
      let m : BoardNode O = top r in
      let at_r : m.state.name ≡ part_of n.state.name Right = (top-node tree t laws round (right_of b) y r fam.3).named ∙ ap right_of (sym fam.0.named) in
      let its : node_named ns (part_of n.state.name Right) ≡ Some m = subst (λ (c : ℕ). node_named ns c ≡ Some m) at_r (finds m (later m n (nodes_of l ++ nodes_of r) (has-right (nodes_of l) (has-top r)))) in
      let sub = next-pick ns (right_of b) y fam.3 (λ i h. finds i (later i n (nodes_of l ++ nodes_of r) (has-right (nodes_of l) h))) more in
      (sub.0, order.below n m Right k (finds n (first n (nodes_of l ++ nodes_of r))) waits its held quiet (subst (λ (c : ℕ). IsPlainPick t ns c sub.0 (Make Try)) at_r sub.1))

  module _ (before after : Tries) (f : Family O) (u : IsUnderWay tree t round before after f) where
    said-is : (a : Option (Answer O)) → (top f).state.answer ≡ a → said_at u.board 1 ≡ a
    said-is a e = ap (λ (o : Option (BoardNode O)). said_by o) (root-node tree t laws round before after f u) ∙ e

    root-sound : IsSound tree t (top f).state (first_task t round)
    root-sound = sound-for tree t (top f).state (first_task t round) (top-node tree t laws round 1 (sites_at t 1) f u.family).keeps u.held

    -- what the verdict says is true
    verdict-true : (limited : Bool) (v : Verdict O) → Says limited (top f).state.answer v → MatchBool limited (NextIsTry t f × ((top f).state.answer ≡ None) × (is_spent after ≡ true)) (IsSome (top f).state.answer) → IsVerdict tree t round u.board after v
    verdict-true true v says ends =
        subst (λ (z : Verdict O). IsVerdict tree t round u.board after z) (sym says) (
        let named : (top f).state.name ≡ 1 = (top-node tree t laws round 1 (sites_at t 1) f u.family).named in
        let p = next-pick u.board 1 (sites_at t 1) u.family (λ n h. find u.board f u.is_board n h) ends.0 in
        (said-is None ends.1, p.0, subst (λ (c : ℕ). IsPlainPick t u.board c p.0 (Make Try)) named p.1, ends.2)
        )
    verdict-true false (Closed p) says ends =
        let truth = root-sound.answer (Proposal p) says in
        let serves : Serves tree t p.task p.offer = truth.1.1 in
        (said-is (Some (Proposal p)) says, truth.0, serves.belongs, subst (λ (z : Task O). Solves t p.offer z.node) truth.0 serves.solves)
    verdict-true false (Open e) says ends =
        let truth = root-sound.answer (Exhausted e) says in
        let nothing : NothingServes tree t (first_task t round) = subst (λ (z : Task O). NothingServes tree t z) truth.0 truth.1.1 in
        (said-is (Some (Exhausted e)) says, truth.0, λ s mine solves. no-bool (nothing.is_banned s mine (laws.free_is_least s mine) solves) refl)
    verdict-true false Spent says ends = absurd says

    -- where the limit stopped it, an attempt was left
    strict : (limited : Bool) (v : Verdict O) → Says limited (top f).state.answer v → MatchBool limited (NextIsTry t f × ((top f).state.answer ≡ None) × (is_spent after ≡ true)) (IsSome (top f).state.answer) → v ≡ Spent → u.made < attempts (sites_at t 1)
    strict true v says ends e = omega (arith, u.bound, one-left tree t round 1 (sites_at t 1) (all-sites tree t laws 1) u.family ends.0)
    strict false v says ends e = absurd (let none : Says false (top f).state.answer Spent = subst (λ (z : Verdict O). Says false (top f).state.answer z) e says in none)

    -- each name is there once
    rises : {S : Type 0} (nodes : List (NodeValue S O)) → AreSorted u.board nodes → AreRising nodes
    rises nodes sorted =
        once-rising nodes
        (λ c. omega (arith, u.is_board.once c, sum_by-IsPermutation (has_name c) u.board (map (λ n. board_node n) nodes) sorted.0, named-count c nodes))
        sorted.1

    -- the limit is reached only where there is one
    no-limit : (limited : Bool) (v : Verdict O) → Says limited (top f).state.answer v → MatchBool limited (NextIsTry t f × ((top f).state.answer ≡ None) × (is_spent after ≡ true)) (IsSome (top f).state.answer) → before.limit ≡ None → v ≢ Spent
    no-limit true v says ends none e =
        no-bool (sym (ap (λ (o : Option ℕ). has_reached o after.made) (u.counts.limit ∙ none)) ∙ ends.2) refl
    no-limit false v says ends none e = absurd (let no_one : Says false (top f).state.answer Spent = subst (λ (z : Verdict O). Says false (top f).state.answer z) e says in no_one)

    -- and only where it is below what the tree allows
    limit-enough : (limited : Bool) (v : Verdict O) → Says limited (top f).state.answer v → MatchBool limited (NextIsTry t f × ((top f).state.answer ≡ None) × (is_spent after ≡ true)) (IsSome (top f).state.answer) → (most : ℕ) → before.limit ≡ Some most → before.made ≡ 0 → attempts (sites_at t 1) ≤ most → v ≢ Spent
    limit-enough true v says ends most is fresh low e =
        let reached : nat_le most after.made ≡ true = sym (ap (λ (o : Option ℕ). has_reached o after.made) (u.counts.limit ∙ is)) ∙ ends.2 in
        omega (arith, leb-true most after.made reached, u.counts.made (omega (arith, fresh)), fresh, strict true v says ends e, low)
    limit-enough false v says ends most is fresh low e = absurd (let no_one : Says false (top f).state.answer Spent = subst (λ (z : Verdict O). Says false (top f).state.answer z) e says in no_one)

    pub is-settled : {S : Type 0} (limited : Bool) (v : Verdict O) (nodes : List (NodeValue S O)) → Says limited (top f).state.answer v → MatchBool limited (NextIsTry t f × ((top f).state.answer ≡ None) × (is_spent after ≡ true)) (IsSome (top f).state.answer) → AreSorted (nodes_of f) nodes → IsSettled tree t round before after v nodes
    is-settled limited v nodes says ends sorted =
        let sorted-all : AreSorted u.board nodes = (IsPermutation-trans u.board (nodes_of f) (map (λ n. board_node n) nodes) u.is_board.nodes sorted.0, sorted.1) in
        record {
          board = u.board;
          made = u.made;
          run = u.run;
          counts = u.counts;
          tried = tries-in-order u.board nodes sorted-all.0 ∙ run-tries u.run;
          bound = omega (arith, u.bound);
          spent = strict limited v says ends;
          unlimited = no-limit limited v says ends;
          enough = limit-enough limited v says ends;
          verdict = verdict-true limited v says ends;
          nodes = record { same = IsPermutation-trans u.board (nodes_of f) (map (λ n. board_node n) nodes) u.is_board.nodes sorted.0; rising = rises nodes sorted-all };
        }

-- the same of the program's family
pub settled-so : {F O S : Type 0} (tree : O → Tree O) (t : Tree O) (laws : Laws t (λ s. tree s ≡ t)) (round : ℕ) (before after : Tries) (n : BoardNode O) (b : Below F O S) (limited : Bool) (v : Verdict O) (nodes : List (NodeValue S O)) → IsUnderWay tree t round before after (family_below n b) → Says limited n.state.answer v → MatchBool limited (NextIsTry t (family_below n b) × (n.state.answer ≡ None) × (is_spent after ≡ true)) (IsSome n.state.answer) → AreSorted (nodes_of (family_below n b)) nodes → IsSettled tree t round before after v nodes
settled-so {O = O} tree t laws round before after n b limited v nodes u says ends sorted =
    is-settled tree t laws round before after (family_below n b) u limited v nodes
    (subst (λ (z : BoardNode O). Says limited z.state.answer v) (sym (top-below n b)) says)
    (subst (λ (z : BoardNode O). MatchBool limited (NextIsTry t (family_below n b) × (z.state.answer ≡ None) × (is_spent after ≡ true)) (IsSome z.state.answer)) (sym (top-below n b)) ends)
    sorted

-- The offer with which the root of a board answers is that of its last event.
use Rattle.std.proofs.Common.{◌≡◌, ◌∙◌, ℕ, ◌<◌, ◌≤◌, ◌+◌, Bool, true, false, ◌⊎◌, inl, inr, Option, Some, None, List, [], ◌∷◌, ◌++◌, map, zero, suc, sym, ap, refl, subst, arith, if◌then◌else◌, nat_eq}
use Rattle.std.specs.Prelude.{slice_get, Contains, length}
use Rattle.std.proofs.Common.{get_or}
use Rattle.std.proofs.lemmas.List.Sorted.{Contains-permutation}
use Rattle.std.proofs.lemmas.Bool.{ne_eqb, eq-eqb, cases_eq}
use Rattle.nego_laws.specs.Tree.{Tree}
use Rattle.nego_node.specs.NodeValue.{NodeValue}
use Rattle.nego_node.specs.Proposed.{Proposed}
use Rattle.nego_node.specs.Machine.{State, after}
use Rattle.nego_node.specs.Order.{AreRising}
use Rattle.nego_node.specs.Board.{BoardNode, node_named, opened, with_event, first_board, said_by, said_at, done, Happens}
use Rattle.nego_node.specs.declared.tasks.Task.{Task}
use Rattle.nego_node.specs.declared.answers.Answer.{Answer}
use Rattle.nego_node.specs.declared.answers.Answer.TheVariants as answer
use Rattle.nego_node.specs.declared.events.Outcome.{Outcome}
use Rattle.nego_node.specs.declared.events.Outcome.TheVariants as outcome
use Rattle.nego_node.specs.declared.events.Event.{Event}
use Rattle.nego_node.specs.declared.events.Event.TheVariants.{Received, Tried, Split, Asked, Posted, Adopted, Agreed, Forbidden, Refused, Exhausted}
use Rattle.nego_node.proofs.Sides.{none-some, same-some}
use Rattle.nego_node.proofs.Boards.{said-some}
use Rattle.nego_node.proofs.BoardLookups.{From, is_here, was_there, is_new, comes-from, found-in, found-name}
use Rattle.nego_plain.specs.PlainOrder.{PlainRun, stays, goes}
use Rattle.nego_plain.specs.Settling.{AreInOrder}
use Rattle.nego_plain.specs.Views.{board_node}
use Rattle.deepening.specs.Kept.{offer_by, last_offer, root_offer}
use Rattle.deepening.proofs.LastOffers.{last-is, answered}

module _ {O : Type 0} where
  -- what is said of a root
  pub record RootOffers (board : List (BoardNode O)) (offer : O) : Type 0 where
    pub root : BoardNode O
    pub is_root : node_named board 1 ≡ Some root
    pub last : last_offer root.history ≡ Some offer

  said-none : (ns : List (BoardNode O)) (n : BoardNode O) → said_at ns 1 ≡ None → node_named ns 1 ≡ Some n → n.state.answer ≡ None
  said-none ns n none is = sym (ap (λ (o : Option (BoardNode O)). said_by o) is) ∙ none

  by-event : (tree : O → Tree O) (t : Tree O) (round : ℕ) (ns ns' : List (BoardNode O)) (b : ℕ) (e : Event O) (p : Proposed O)
      → said_at ns 1 ≡ None → Happens tree t round ns b e ns' → said_at ns' 1 ≡ Some (answer.Proposal p) → RootOffers ns' p.offer
  by-event tree t round ns ns' b e p none h said =
      let w = said-some (node_named ns' 1) (answer.Proposal p) said in
      let there : node_named (done t round ns b e) 1 ≡ Some w.0 = ap (λ (x : List (BoardNode O)). node_named x 1) (sym h.becomes) ∙ w.1 in
      record { root = w.0; is_root = w.1; last = from w.0 w.2 (comes-from t e round ns b h.node h.is_node 1 w.0 there) }
    where
      from : (m : BoardNode O) → m.state.answer ≡ Some (answer.Proposal p) → From t e round ns b 1 m → last_offer m.history ≡ Some p.offer
      from m is (is_here n at was becomes) =
          let there : node_named ns 1 ≡ Some n = ap (λ (x : ℕ). node_named ns x) at ∙ was in
          let after_is : (after t n.state e).answer ≡ Some (answer.Proposal p) = ap (λ (x : BoardNode O). x.state.answer) (sym becomes) ∙ is in
          ap (λ (x : BoardNode O). last_offer x.history) becomes ∙ (last-is n.history e ∙ answered t n.state e p (said-none ns n none there) after_is)
      from m is (was_there away was) = absurd (none-some (said-none ns m none was) is)
      from m is (is_new side split at none_there away becomes) =
          absurd (none-some (ap (λ (x : BoardNode O). x.state.answer) becomes) is)

  -- Where a run of the plain order ends with a proposal of the root, the root's last event has its offer.
  pub root-offers : (tree : O → Tree O) (t : Tree O) (round made : ℕ) (board : List (BoardNode O)) (p : Proposed O)
      → PlainRun tree t round (first_board round) made board → said_at board 1 ≡ Some (answer.Proposal p) → RootOffers board p.offer
  root-offers tree t round made board p stays said = absurd (none-some refl said)
  root-offers tree t round made board p (goes {b = b} {ns = ns} {ns' = ns'} act e run none pick of_act happens) said =
      by-event tree t round ns ns' b e p none happens said

  in-list : (ns : List (BoardNode O)) (b : ℕ) (n : BoardNode O) → node_named ns b ≡ Some n → Contains ns n
  in-list [] b n is = absurd (none-some refl is)
  in-list (m ∷ ns) b n is =
      elim (found-in m ns b n is) [
        | inl at ↦ (0, omega arith, at.1)
        | inr on ↦ let w = in-list ns b n on.1 in (suc w.0, omega (arith, w.1), w.2)
      ]

module _ {S O : Type 0} where
  node-at : (nodes : List (NodeValue S O)) (k : ℕ) (root : BoardNode O) → k < length (map (λ n. board_node n) nodes)
      → get_or (map (λ n. board_node n) nodes) k root ≡ root
      → (n : NodeValue S O) × (slice_get nodes k ≡ Some n) × (board_node n ≡ root)
  node-at [] k root less at = absurd (omega (arith, less))
  node-at (n ∷ nodes) zero root less at = (n, refl, at)
  node-at (n ∷ nodes) (suc k) root less at = node-at nodes k root (omega (arith, less)) at

  -- among nodes in the rising order of their names, the one with the name 1 is found
  pub found-at : (nodes : List (NodeValue S O)) (k : ℕ) (n : NodeValue S O) → AreRising nodes → slice_get nodes k ≡ Some n
      → n.state.name ≡ 1 → root_offer nodes ≡ last_offer n.history
  found-at [] k n rising at named = absurd (none-some refl at)
  found-at (m ∷ nodes) zero n rising at named =
      let same : m ≡ n = same-some refl at in
      let is : nat_eq m.state.name 1 ≡ true = eq-eqb m.state.name 1 (ap (λ (x : NodeValue S O). x.state.name) same ∙ named) in
      rw is (ap (λ (x : NodeValue S O). last_offer x.history) same)
  found-at (m ∷ nodes) (suc k) n rising at named =
      let less : m.state.name < n.state.name = rising 0 (suc k) m n (omega arith) refl at in
      let not_it : nat_eq m.state.name 1 ≡ false = ne_eqb m.state.name 1 (λ e. absurd (omega (arith, less, named, e))) in
      rw not_it (found-at nodes k n (λ i j x y lt e f. rising (suc i) (suc j) x y (omega (arith, lt)) e f) at named)

  -- Where a run of the plain order ends with a proposal of the root, its nodes have the offer as that of the root's last
  -- event.
  pub root-offer-is : (tree : O → Tree O) (t : Tree O) (round made : ℕ) (board : List (BoardNode O)) (nodes : List (NodeValue S O)) (p : Proposed O)
      → PlainRun tree t round (first_board round) made board → said_at board 1 ≡ Some (answer.Proposal p) → AreInOrder board nodes
      → root_offer nodes ≡ Some p.offer
  root-offer-is tree t round made board nodes p run said order =
      let r = root-offers tree t round made board p run said in
      let c = Contains-permutation board (map (λ n. board_node n) nodes) r.root order.same (in-list board 1 r.root r.is_root) in
      let w = node-at nodes c.0 r.root c.1 c.2 in
      let named : w.0.state.name ≡ 1 = ap (λ (x : BoardNode O). x.state.name) w.2 ∙ found-name board 1 r.root r.is_root in
      found-at nodes c.0 w.0 order.rising w.1 named ∙ (ap (λ (x : BoardNode O). last_offer x.history) w.2 ∙ r.last)

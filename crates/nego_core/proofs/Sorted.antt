use Rattle.std.proofs.Common.{◌≡◌, ◌∙◌, ℕ, ◌+◌, ◌≤◌, inl, inr, None, List, [], ◌∷◌, sym, ap, refl, arith}
use Rattle.std.specs.List.Sorted.{IsPermutation, IsNonDecreasingBy}
use Rattle.std.proofs.lemmas.Bool.{cases_eq}
use Rattle.std.proofs.lemmas.List.Sorted.{sum_by-IsPermutation}
use Rattle.nego_node.specs.NodeValue.{NodeValue}
use Rattle.nego_node.specs.Board.{node_named}
use Rattle.nego_node.specs.BoardSound.{AreDistinct}
use Rattle.nego_node.specs.Order.{AreRising}
use Rattle.nego_node.proofs.Sides.{none-some}
use Rattle.nego_node.proofs.BoardLookups.{here, further}
use Rattle.nego_node.proofs.Rising.{is_named, count, counts-here, counts-on, once-rising}
use Rattle.nego_core.specs.Bare.{bare_node, bare}

-- A sort of nodes of distinct names makes the names rise.
module _ {S O : Type 0} where
  none-counts : (b : ℕ) (nodes : List (NodeValue S O)) → node_named (bare nodes) b ≡ None → count b nodes ≡ 0
  none-counts b [] e = refl
  none-counts b (v ∷ nodes) e =
      elim (cases_eq v.state.name b) [
        | inl same ↦ absurd (none-some e (here (bare_node v) (bare nodes) b same))
        | inr away ↦ counts-on b v nodes away ∙ (let k : count b nodes ≡ 0 = none-counts b nodes (sym (further (bare_node v) (bare nodes) b away) ∙ e) in omega arith)
      ]

  distinct-counts : (nodes : List (NodeValue S O)) → AreDistinct (bare nodes) → (b : ℕ) → count b nodes ≤ 1
  distinct-counts [] d b = omega arith
  distinct-counts (v ∷ nodes) d b =
      elim (cases_eq v.state.name b) [
        | inl same ↦
            let e : count b (v ∷ nodes) ≡ 1 + count b nodes = counts-here b v nodes same in
            let k : count b nodes ≡ 0 = none-counts b nodes (ap (λ (x : ℕ). node_named (bare nodes) x) (sym same) ∙ d.0) in
            omega arith
        | inr away ↦
            let e : count b (v ∷ nodes) ≡ 0 + count b nodes = counts-on b v nodes away in
            let k : count b nodes ≤ 1 = distinct-counts nodes d.1 b in
            omega arith
      ]

  pub sorted-rising : (nodes sorted : List (NodeValue S O)) → AreDistinct (bare nodes) → IsPermutation nodes sorted → IsNonDecreasingBy (λ (n : NodeValue S O). n.state.name) sorted → AreRising sorted
  sorted-rising nodes sorted d moved order =
      once-rising sorted
      (λ b. let e : count b sorted ≡ count b nodes = sum_by-IsPermutation (is_named b) nodes sorted moved in let k : count b nodes ≤ 1 = distinct-counts nodes d b in omega arith)
      order

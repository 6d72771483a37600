use Rattle.std.proofs.Common.{◌≡◌, ◌∙◌, ℕ, zero, suc, ◌+◌, ◌<◌, ◌≤◌, Bool, inl, inr, Some, List, [], ◌∷◌, length, slice_get, get_or, nat_eq, ap, refl, arith}
use Rattle.std.specs.List.{sum_by}
use Rattle.std.specs.List.Sorted.{IsNonDecreasingBy}
use Rattle.std.proofs.Math.Nat.{eq-or-lt_of_le}
use Rattle.std.proofs.lemmas.Bool.{eq-eqb, ne_eqb, cases_eq}
use Rattle.std.proofs.lemmas.Option.{slice_get_within, get_or_from_slice_get}
use Rattle.std.proofs.lemmas.List.Sums.{sum_by-cons}
use Rattle.nego_node.specs.NodeValue.{NodeValue}
use Rattle.nego_node.specs.Histories.{one_if}
use Rattle.nego_node.specs.Order.{AreRising}
use Rattle.nego_node.proofs.Sides.{none-some, same-some}

-- Where names don't fall and each name is there once, they rise.
module _ {S O : Type 0} where
  -- how many nodes have a name
  abbrev pub is_named : ℕ → NodeValue S O → ℕ
  is_named b v = one_if (nat_eq v.state.name b)

  abbrev pub count : ℕ → List (NodeValue S O) → ℕ
  count b nodes = sum_by (is_named b) nodes

  pub counts-here : (b : ℕ) (v : NodeValue S O) (nodes : List (NodeValue S O)) → v.state.name ≡ b → count b (v ∷ nodes) ≡ 1 + count b nodes
  counts-here b v nodes e = sum_by-cons (is_named b) v nodes ∙ ap (λ (x : Bool). one_if x + count b nodes) (eq-eqb v.state.name b e)

  pub counts-on : (b : ℕ) (v : NodeValue S O) (nodes : List (NodeValue S O)) → (v.state.name ≡ b → ⊥) → count b (v ∷ nodes) ≡ 0 + count b nodes
  counts-on b v nodes e = sum_by-cons (is_named b) v nodes ∙ ap (λ (x : Bool). one_if x + count b nodes) (ne_eqb v.state.name b e)

  pub counts-more : (b : ℕ) (v : NodeValue S O) (nodes : List (NodeValue S O)) → count b nodes ≤ count b (v ∷ nodes)
  counts-more b v nodes =
      elim (cases_eq v.state.name b) [
        | inl same ↦ let e : count b (v ∷ nodes) ≡ 1 + count b nodes = counts-here b v nodes same in omega arith
        | inr away ↦ let e : count b (v ∷ nodes) ≡ 0 + count b nodes = counts-on b v nodes away in omega arith
      ]

  counts-one : (nodes : List (NodeValue S O)) (i : ℕ) (n : NodeValue S O) → slice_get nodes i ≡ Some n → 1 ≤ count n.state.name nodes
  counts-one [] i n e = absurd (none-some refl e)
  counts-one (v ∷ nodes) zero n e =
      let k : count n.state.name (v ∷ nodes) ≡ 1 + count n.state.name nodes =
      counts-here n.state.name v nodes (ap (λ (x : NodeValue S O). x.state.name) (same-some refl e))
      in
      omega arith
  counts-one (v ∷ nodes) (suc i) n e =
      let k : 1 ≤ count n.state.name nodes = counts-one nodes i n e in
      let l : count n.state.name nodes ≤ count n.state.name (v ∷ nodes) = counts-more n.state.name v nodes in
      omega arith

  -- two places have nodes of two names
  apart : (nodes : List (NodeValue S O)) → ((b : ℕ) → count b nodes ≤ 1) → (i j : ℕ) (m n : NodeValue S O) → i < j → slice_get nodes i ≡ Some m → slice_get nodes j ≡ Some n → m.state.name ≡ n.state.name → ⊥
  apart [] few i j m n l e h same = none-some refl e
  apart (v ∷ nodes) few i zero m n l e h same = absurd (omega arith)
  apart (v ∷ nodes) few zero (suc j) m n l e h same =
      let k : 1 ≤ count n.state.name nodes = counts-one nodes j n h in
      let q : count n.state.name (v ∷ nodes) ≡ 1 + count n.state.name nodes =
      counts-here n.state.name v nodes (ap (λ (x : NodeValue S O). x.state.name) (same-some refl e) ∙ same)
      in
      let z : count n.state.name (v ∷ nodes) ≤ 1 = few n.state.name in
      absurd (omega arith)
  apart (v ∷ nodes) few (suc i) (suc j) m n l e h same =
      apart nodes (λ b. let k : count b nodes ≤ count b (v ∷ nodes) = counts-more b v nodes in let z : count b (v ∷ nodes) ≤ 1 = few b in omega arith) i j m n (omega arith) e h same

  pub once-rising : (nodes : List (NodeValue S O)) → ((b : ℕ) → count b nodes ≤ 1) → IsNonDecreasingBy (λ (n : NodeValue S O). n.state.name) nodes → AreRising nodes
  once-rising nodes few order =
      λ i j m n l at_i at_j.
      let within : j < length nodes = slice_get_within nodes j n at_j in
      let le : (get_or nodes i m).state.name ≤ (get_or nodes j m).state.name = order i j m (omega arith) within in
      let low : (get_or nodes i m).state.name ≡ m.state.name = ap (λ (x : NodeValue S O). x.state.name) (get_or_from_slice_get nodes i m m at_i) in
      let high : (get_or nodes j m).state.name ≡ n.state.name = ap (λ (x : NodeValue S O). x.state.name) (get_or_from_slice_get nodes j n m at_j) in
      let both : m.state.name ≤ n.state.name = omega arith in
      elim (eq-or-lt_of_le both) [
        | inr less ↦ less
        | inl same ↦ absurd (apart nodes few i j m n l at_i at_j same)
      ]

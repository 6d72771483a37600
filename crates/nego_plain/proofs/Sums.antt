use Rattle.std.proofs.Common.{◌≡◌, ℕ, ◌+◌, ◌*◌, ◌≤◌, Bool, true, false, arith, mul-add, add-mul}
use Rattle.std.proofs.lemmas.Nat.{mul-le}
use Rattle.nego_plain.specs.Rest.{one_if, picked}

-- The sums of a node with parts: x is what the left part has, y the right one, each with a pending proposal; p and q are the efforts there,
-- and v and k the proposals and the effort of one trial.
abbrev pub rest_of : ℕ → ℕ → ℕ → Bool → ℕ → ℕ
rest_of left v x trial y = left + x * v + picked trial y 0

abbrev pub effort_of : ℕ → ℕ → ℕ → ℕ → ℕ → ℕ → Bool → ℕ → ℕ → ℕ
effort_of m left k rank p x trial q y = left + m * rank + p + x * k + picked trial (q + m * (5 * y)) 0

module _ (m v w left : ℕ) where
  -- the effort of one trial
  abbrev k : ℕ
  k = w + m * (5 * v + 8)

  -- a change on the left side without a trial
  pub on_left : (cost rank rank' p p' x x' y y' q q' : ℕ) (z z' : Bool) → z ≡ false → z' ≡ false → x' ≤ x → m * rank' + p' + cost ≤ m * rank + p → (rest_of left v x' z' y' ≤ rest_of left v x z y) × (effort_of m left k rank' p' x' z' q' y' + cost ≤ effort_of m left k rank p x z q y)
  on_left cost rank rank' p p' x x' y y' q q' z z' e e' le less =
      rw (e, e') (
        omega (arith, mul-le x' v x v le (omega arith)),
        omega (arith, mul-le x' k x k le (omega arith), less),
      )

  -- a change on the right side in a trial
  pub on_right : (cost made rank rank' p p' x x' y y' q q' : ℕ) (z z' : Bool) → z ≡ true → z' ≡ true → x' ≤ x → p' ≤ p → y' + made ≤ y → m * rank' + q' + m * (5 * y') + cost ≤ m * rank + q + m * (5 * y) → (rest_of left v x' z' y' + made ≤ rest_of left v x z y) × (effort_of m left k rank' p' x' z' q' y' + cost ≤ effort_of m left k rank p x z q y)
  on_right cost made rank rank' p p' x x' y y' q q' z z' e e' le lep ley less =
      rw (e, e') (
        omega (arith, mul-le x' v x v le (omega arith), ley),
        omega (arith, mul-le x' k x k le (omega arith), less, lep),
      )

  -- a trial begins
  pub on_adopting : (rank rank' p p' x x' y y' q q' : ℕ) (z z' : Bool) → z ≡ false → z' ≡ true → x' + 1 ≤ x → p' ≤ p → rank' ≤ rank + 7 → y' ≤ v → q' ≤ w → (rest_of left v x' z' y' ≤ rest_of left v x z y) × (effort_of m left k rank' p' x' z' q' y' + m ≤ effort_of m left k rank p x z q y)
  on_adopting rank rank' p p' x x' y y' q q' z z' e e' le lep ler ley leq =
      let a : (x' + 1) * v ≤ x * v = mul-le (x' + 1) v x v le (omega arith) in
      let b : (x' + 1) * k ≤ x * k = mul-le (x' + 1) k x k le (omega arith) in
      let c : m * rank' ≤ m * (rank + 7) = mul-le m rank' m (rank + 7) (omega arith) ler in
      let d : m * (5 * y') ≤ m * (5 * v) = mul-le m (5 * y') m (5 * v) (omega arith) (omega arith) in
      let a1 : (x' + 1) * v ≡ x' * v + 1 * v = add-mul x' 1 v in
      let b1 : (x' + 1) * k ≡ x' * k + 1 * k = add-mul x' 1 k in
      let c1 : m * (rank + 7) ≡ m * rank + m * 7 = mul-add m rank 7 in
      let d1 : m * (5 * v + 8) ≡ m * (5 * v) + m * 8 = mul-add m (5 * v) 8 in
      rw (e, e') (omega (arith, a, a1, ley), omega (arith, b, b1, c, c1, d, d1, leq, lep))

  -- a trial ends
  pub on_forbidding : (rank rank' p p' x x' y y' q q' : ℕ) (z z' : Bool) → z ≡ true → z' ≡ false → x' ≤ x → p' ≤ p → rank' + 1 ≤ rank → (rest_of left v x' z' y' ≤ rest_of left v x z y) × (effort_of m left k rank' p' x' z' q' y' + m ≤ effort_of m left k rank p x z q y)
  on_forbidding rank rank' p p' x x' y y' q q' z z' e e' le lep ler =
      let c : m * (rank' + 1) ≤ m * rank = mul-le m (rank' + 1) m rank (omega arith) ler in
      let c1 : m * (rank' + 1) ≡ m * rank' + m * 1 = mul-add m rank' 1 in
      rw (e, e') (
        omega (arith, mul-le x' v x v le (omega arith)),
        omega (arith, mul-le x' k x k le (omega arith), c, c1, lep),
      )

  -- no more is left than a fresh task gives
  pub at_most : (full own rank p q x y u : ℕ) (z : Bool) → left ≤ own → x + one_if z ≤ u → picked z y 0 ≤ v → p ≤ full → q ≤ w → rank ≤ 5 + picked z 5 0 → (rest_of left v x z y ≤ own + u * v) × (effort_of m left k rank p x z q y ≤ own + m * 6 + full + u * k)
  at_most full own rank p q x y u false l lex ley lep leq ler =
      let c : m * rank ≤ m * 5 = mul-le m rank m 5 (omega arith) (omega (arith, ler)) in
      (omega (arith, mul-le x v u v (omega (arith, lex)) (omega arith), l), omega (arith, mul-le x k u k (omega (arith, lex)) (omega arith), c, lep, l))
  at_most full own rank p q x y u true l lex ley lep leq ler =
      let a : (x + 1) * v ≤ u * v = mul-le (x + 1) v u v lex (omega arith) in
      let b : (x + 1) * k ≤ u * k = mul-le (x + 1) k u k lex (omega arith) in
      let a1 : (x + 1) * v ≡ x * v + 1 * v = add-mul x 1 v in
      let b1 : (x + 1) * k ≡ x * k + 1 * k = add-mul x 1 k in
      let c : m * rank ≤ m * 10 = mul-le m rank m 10 (omega arith) (omega (arith, ler)) in
      let d : m * (5 * y) ≤ m * (5 * v) = mul-le m (5 * y) m (5 * v) (omega arith) (omega (arith, ley)) in
      let d1 : m * (5 * v + 8) ≡ m * (5 * v) + m * 8 = mul-add m (5 * v) 8 in
      (omega (arith, a, a1, ley, l), omega (arith, b, b1, c, d, d1, lep, leq, l))

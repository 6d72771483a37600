use Rattle.std.proofs.Common.{◌≡◌, ℕ, zero, suc, ◌+◌, ◌*◌, ◌^◌, ◌<◌, ◌≤◌, max, Bool, true, false, ◌⊎◌, inl, inr, sym, ap, refl, arith, mul_assoc, mul_comm, ◌∙◌, All, nat_le, leb-false, leb-true}
use Rattle.std.proofs.Math.Nat.{pow-succ'}
use Rattle.std.proofs.lemmas.Nat.{mul-le}
use Rattle.nego_laws.specs.Tree.{Tree, left_of, right_of}
use Rattle.nego_node.specs.Board.{BoardNode}
use Rattle.nego_plain.specs.Width.{Sites, leaf, fork}
use Rattle.nego_plain.specs.Family.{Family, alone, with_parts, top}
use Rattle.nego_plain.specs.Fits.{IsFamily}
use Rattle.nego_plain.specs.BoardOf.{nodes_of}
use Rattle.nego_plain.proofs.Boards.{Has, first, later, has-left, has-right, has-all}

either : (a b d : ℕ) → d ≤ max a b → (d ≤ a) ⊎ (d ≤ b)
either a b d h = go (nat_le d a) refl
  where
    go : (x : Bool) → nat_le d a ≡ x → (d ≤ a) ⊎ (d ≤ b)
    go true e = inl (leb-true d a e)
    go false e = inr (omega (arith, leb-false d a e, h))

doubled : (b d : ℕ) → b * 2 ^ suc d ≡ (2 * b) * 2 ^ d
doubled b d = ap (λ (n : ℕ). b * n) (pow-succ' 2 d) ∙ (sym (mul_assoc b 2 (2 ^ d)) ∙ ap (λ (n : ℕ). n * 2 ^ d) (mul_comm b 2))

more : (b d : ℕ) → (2 * b) * 2 ^ d ≤ (2 * b + 1) * 2 ^ d
more b d = mul-le (2 * b) (2 ^ d) (2 * b + 1) (2 ^ d) (omega arith) (omega arith)

-- How deep the program goes down a family: once for each level. Names double from level to level.
module _ {O : Type 0} where
  abbrev pub depth : Family O → ℕ
  depth (alone n) = 0
  depth (with_parts n l r) = max (depth l) (depth r) + 1

  -- a node with a name that so many levels need
  pub record IsDeep (b d : ℕ) (f : Family O) : Type 0 where
    pub node : BoardNode O
    pub has : Has node (nodes_of f)
    pub name : b * 2 ^ d ≤ node.state.name

module _ {O : Type 0} (tree : O → Tree O) (t : Tree O) (round : ℕ) where
  named : (b : ℕ) (sh : Sites) (f : Family O) → IsFamily tree t round b sh f → (top f).state.name ≡ b
  named b (leaf own) (alone n) fam = fam.named
  named b (leaf own) (with_parts n l r) fam = absurd fam
  named b (fork own x y) (alone n) fam = fam.0.named
  named b (fork own x y) (with_parts n l r) fam = fam.0.named

  at-top : (b : ℕ) (f : Family O) (n : BoardNode O) → Has n (nodes_of f) → n.state.name ≡ b → IsDeep b 0 f
  at-top b f n has e = record { node = n; has = has; name = omega (arith, e) }

  pub deep : (b d : ℕ) (sh : Sites) (f : Family O) → IsFamily tree t round b sh f → d ≤ depth f → IsDeep b d f
  deep b zero (leaf own) (alone n) fam h = at-top b (alone n) n (first n _) fam.named
  deep b (suc d) (leaf own) (alone n) fam h = absurd (omega (arith, h))
  deep b d (leaf own) (with_parts n l r) fam h = absurd fam
  deep b zero (fork own x y) (alone n) fam h = at-top b (alone n) n (first n _) fam.0.named
  deep b (suc d) (fork own x y) (alone n) fam h = absurd (omega (arith, h))
  deep b zero (fork own x y) (with_parts n l r) fam h = at-top b (with_parts n l r) n (first n _) fam.0.named
  deep b (suc d) (fork own x y) (with_parts n l r) fam h =
      elim (either (depth l) (depth r) d (omega (arith, h))) [
        | inl g ↦
            let sub = deep (left_of b) d x l fam.2 g in
            record { node = sub.node; has = later sub.node n _ (has-left (nodes_of r) sub.has); name = omega (arith, sub.name, doubled b d) }
        | inr g ↦
            let sub = deep (right_of b) d y r fam.3 g in
            record { node = sub.node; has = later sub.node n _ (has-right (nodes_of l) sub.has); name = omega (arith, sub.name, doubled b d, more b d) }
      ]

  -- names of 128 bits have room for 127 levels below the root
  pub within-127 : (sh : Sites) (f : Family O) → IsFamily tree t round 1 sh f → All (λ n. n.state.name < 2 ^ 128) (nodes_of f) → depth f ≤ 127
  within-127 sh f fam fits = go (nat_le 128 (depth f)) refl
    where
      go : (x : Bool) → nat_le 128 (depth f) ≡ x → depth f ≤ 127
      go true e =
          let d = deep 1 128 sh f fam (leb-true 128 (depth f) e) in
          absurd (omega (arith, d.name, has-all (λ (n : BoardNode O). n.state.name < 2 ^ 128) d.has fits))
      go false e = omega (arith, leb-false 128 (depth f) e)

use Rattle.std.proofs.Common.{◌≡◌, ℕ, ◌+◌, ◌*◌, ◌/◌, ◌<◌, ◌≤◌, nat_eq, refl, arith}
use Rattle.std.proofs.lemmas.Bool.{eqb-true, eqb-false, cond_both}
use Rattle.nego_node.specs.Machine.{part_of}
use Rattle.nego_node.specs.Board.{parent_of, side_within}
use Rattle.nego_node.specs.declared.tasks.Side.{Side}
use Rattle.nego_node.specs.declared.tasks.Side.TheVariants.{Left, Right}

-- a part has a greater name
pub part-above : (b : ℕ) (side : Side) → 1 ≤ b → b < part_of b side
part-above b Left le = omega arith
part-above b Right le = omega arith

pub not-itself : (b : ℕ) (side : Side) → 1 ≤ b → part_of b side ≡ b → ⊥
not-itself b side le e = let l : b < part_of b side = part-above b side le in omega arith

pub part-not-one : (b : ℕ) (side : Side) → 1 ≤ b → part_of b side ≡ 1 → ⊥
part-not-one b side le e = let l : b < part_of b side = part-above b side le in omega arith

pub same-part : (x y : ℕ) (a c : Side) → part_of x a ≡ part_of y c → (x ≡ y) × (a ≡ c)
same-part x y Left Left e = (omega arith, refl)
same-part x y Left Right e = absurd (omega arith)
same-part x y Right Left e = absurd (omega arith)
same-part x y Right Right e = (omega arith, refl)

pub parent-part : (b : ℕ) (side : Side) → parent_of (part_of b side) ≡ b
parent-part b Left = omega arith
parent-part b Right = omega arith

pub within-part : (b : ℕ) (side : Side) → side_within (part_of b side) ≡ side
within-part b Left =
    cond_both (nat_eq (2 * ((2 * b) / 2)) (2 * b)) Left Right (λ (x : Side). x ≡ Left) (λ e. refl) (λ e. absurd (eqb-false (2 * ((2 * b) / 2)) (2 * b) e (omega arith)))
within-part b Right =
    cond_both (nat_eq (2 * ((2 * b + 1) / 2)) (2 * b + 1)) Left Right (λ (x : Side). x ≡ Right)
    (λ e. absurd (let k : 2 * ((2 * b + 1) / 2) ≡ 2 * b + 1 = eqb-true (2 * ((2 * b + 1) / 2)) (2 * b + 1) e in omega arith)) (λ e. refl)

-- every name is that of a part of its parent
pub part-parent : (b : ℕ) → part_of (parent_of b) (side_within b) ≡ b
part-parent b =
    cond_both (nat_eq (2 * (b / 2)) b) Left Right (λ (x : Side). part_of (b / 2) x ≡ b) (λ e. eqb-true (2 * (b / 2)) b e)
    (λ e. let n : 2 * (b / 2) ≡ b → ⊥ = eqb-false (2 * (b / 2)) b e in odd n)
  where
    odd : (2 * (b / 2) ≡ b → ⊥) → 2 * (b / 2) + 1 ≡ b
    odd n = omega arith

pub parent-positive : (b : ℕ) → 1 ≤ b → (b ≡ 1 → ⊥) → 1 ≤ parent_of b
parent-positive b le ne = omega arith

-- The segments below a segment, by their numbers: none stands below both of its parts.
use Rattle.std.proofs.Common.{◌≡◌, ℕ, suc, ◌+◌, ◌*◌, ◌^◌, ◌<◌, ◌≤◌, leb, true, false, arith, ◌⊎◌, inl, inr, pow-suc, pow_mono, pow_pos, mul-le-mul_left, mul-le-mul_right}
use Rattle.std.proofs.lemmas.Bool.Decides.{leb_tells}

-- the segment m is the segment n or stands below it
abbrev pub Below : ℕ → ℕ → Type 0
Below n m = (k : ℕ) × (n * 2 ^ k ≤ m) × (m < suc n * 2 ^ k)

pub below_itself : (n : ℕ) → Below n n
below_itself n = (0, omega arith, omega arith)

pub not_above : (n m : ℕ) → Below n m → n ≤ m
not_above n m (k, low, high) = omega (arith, mul-le-mul_left n (pow_pos k), low)

left_range : (n m k p : ℕ) → 2 ^ suc k ≡ p * 2 → 2 * n * p ≤ m → m < suc (2 * n) * p → (n * 2 ^ suc k ≤ m) × (m < suc n * 2 ^ suc k)
left_range n m k p e low high = rw e (omega (arith, low), omega (arith, high))

right_range : (n m k p : ℕ) → 2 ^ suc k ≡ p * 2 → (2 * n + 1) * p ≤ m → m < suc (2 * n + 1) * p → (n * 2 ^ suc k ≤ m) × (m < suc n * 2 ^ suc k)
right_range n m k p e low high = rw e (omega (arith, low), omega (arith, high))

pub below_left : (n m : ℕ) → Below (2 * n) m → Below n m
below_left n m (k, low, high) = let r = left_range n m k (2 ^ k) (pow-suc 2 k) low high in (suc k, r.0, r.1)

pub below_right : (n m : ℕ) → Below (2 * n + 1) m → Below n m
below_right n m (k, low, high) = let r = right_range n m k (2 ^ k) (pow-suc 2 k) low high in (suc k, r.0, r.1)

-- with p and q for the two powers
shallower : (n m p q : ℕ) → p ≤ q → m < suc (2 * n) * p → (2 * n + 1) * q ≤ m → ⊥
shallower n m p q le high low = omega (arith, mul-le-mul_left n le, high, low)

deeper : (n m p q : ℕ) → 1 ≤ n → q * 2 ≤ p → 2 * n * p ≤ m → m < suc (2 * n + 1) * q → ⊥
deeper n m p q pos le low high = omega (arith, mul-le-mul_left n le, mul-le-mul_right q pos, low, high)

pub apart : (n m : ℕ) → 1 ≤ n → Below (2 * n) m → Below (2 * n + 1) m → ⊥
apart n m pos (k, low, high) (j, low', high') = by_depth (leb_tells k j) where
  by_depth : ((leb k j ≡ true) × (k ≤ j)) ⊎ ((leb k j ≡ false) × (j < k)) → ⊥
  by_depth (inl p) = shallower n m (2 ^ k) (2 ^ j) (pow_mono p.1) high low'
  by_depth (inr p) = deeper n m (2 ^ k) (2 ^ j) pos (rw (← pow-suc 2 j) (pow_mono p.1)) low high'

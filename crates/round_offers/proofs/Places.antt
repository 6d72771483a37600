-- Where the segments of a name's parts are.
use Rattle.std.proofs.Common.{◌≡◌, ℕ, zero, suc, ◌+◌, ◌*◌, ◌/◌, ◌%◌, ◌<◌, ◌≤◌, eqb, Bool, true, false, Option, Some, None, refl, ap, sym, ◌∙◌, arith, ◌⊎◌, inl, inr, if◌then◌else◌}
use Rattle.std.proofs.lemmas.Bool.{false≢true}
use Rattle.std.proofs.lemmas.Bool.Decides.{eqb_tells}
use Rattle.tab_tree.specs.Segments.{Segments, tip, node}
use Rattle.round_offers.specs.Places.{part, along, segments_at, has_parts, height_at}

part_none : (d : Bool) → part d None ≡ None
part_none true = refl
part_none false = refl

-- what stands where the digits are read on
abbrev on_from : Segments → ℕ → Option Segments → Option Segments
on_from gs n o = if eqb n 1 then Some gs else part (eqb (n % 2) 1) o

none_on : (gs : Segments) (n : ℕ) → (n ≡ 1 → ⊥) → on_from gs n None ≡ None
none_on gs n other = by_case (eqb_tells n 1) where
  by_case : ((eqb n 1 ≡ true) × (n ≡ 1)) ⊎ ((eqb n 1 ≡ false) × (n ≡ 1 → ⊥)) → on_from gs n None ≡ None
  by_case (inl e) = absurd (other e.1)
  by_case (inr e) = ap (λ (c : Bool). if c then Some gs else part (eqb (n % 2) 1) None) e.0 ∙ part_none (eqb (n % 2) 1)

-- For a name that is 1 nothing more is read.
alike_on : (gs : Segments) (n : ℕ) (o q : Option Segments) → ((n ≡ 1 → ⊥) → o ≡ q) → on_from gs n o ≡ on_from gs n q
alike_on gs n o q same = by_case (eqb_tells n 1) where
  by_case : ((eqb n 1 ≡ true) × (n ≡ 1)) ⊎ ((eqb n 1 ≡ false) × (n ≡ 1 → ⊥)) → on_from gs n o ≡ on_from gs n q
  by_case (inl e) =
      ap (λ (c : Bool). if c then Some gs else part (eqb (n % 2) 1) o) e.0
      ∙ sym (ap (λ (c : Bool). if c then Some gs else part (eqb (n % 2) 1) q) e.0)
  by_case (inr e) = ap (on_from gs n) (same e.1)

half_below : (m n : ℕ) → n ≤ suc m → (n ≡ 1 → ⊥) → n / 2 ≤ m
half_below m n h other = omega (arith, h)

-- enough digits are read
stable : (gs : Segments) (j k n : ℕ) → n ≤ j → n ≤ k → along j gs n ≡ along k gs n
stable gs zero zero n p q = refl
stable gs zero (suc k) n p q =
    sym (none_on gs n (λ e. omega (arith, e, p))) ∙ ap (on_from gs n) (stable gs zero k (n / 2) (omega (arith, p)) (omega (arith, p)))
stable gs (suc j) zero n p q =
    ap (on_from gs n) (stable gs j zero (n / 2) (omega (arith, q)) (omega (arith, q))) ∙ none_on gs n (λ e. omega (arith, e, q))
stable gs (suc j) (suc k) n p q =
    alike_on gs n (along j gs (n / 2)) (along k gs (n / 2)) (λ other. stable gs j k (n / 2) (half_below j n p other) (half_below k n q other))

-- of a name that is no 1, by its last digit
pub by_digit : (gs : Segments) (n : ℕ) → 1 < n → segments_at gs n ≡ part (eqb (n % 2) 1) (segments_at gs (n / 2))
by_digit gs zero h = let no : ⊥ = omega (arith, h) in absurd no
by_digit gs (suc k) h = by_case (eqb_tells (suc k) 1) where
  by_case : ((eqb (suc k) 1 ≡ true) × (suc k ≡ 1)) ⊎ ((eqb (suc k) 1 ≡ false) × (suc k ≡ 1 → ⊥))
      → (if eqb (suc k) 1 then Some gs else part (eqb (suc k % 2) 1) (along k gs (suc k / 2))) ≡ part (eqb (suc k % 2) 1) (segments_at gs (suc k / 2))
  by_case (inl e) = let no : ⊥ = omega (arith, h, e.1) in absurd no
  by_case (inr e) =
      ap (λ (c : Bool). if c then Some gs else part (eqb (suc k % 2) 1) (along k gs (suc k / 2))) e.0
      ∙ ap (part (eqb (suc k % 2) 1)) (stable gs k (suc k / 2) (suc k / 2) (omega arith) (omega arith))

even : (n : ℕ) → eqb ((2 * n) % 2) 1 ≡ false
even n = by_case (eqb_tells ((2 * n) % 2) 1) where
  by_case : ((eqb ((2 * n) % 2) 1 ≡ true) × ((2 * n) % 2 ≡ 1)) ⊎ ((eqb ((2 * n) % 2) 1 ≡ false) × ((2 * n) % 2 ≡ 1 → ⊥)) → eqb ((2 * n) % 2) 1 ≡ false
  by_case (inl e) = let no : ⊥ = omega (arith, e.1) in absurd no
  by_case (inr e) = e.0

odd : (n : ℕ) → eqb ((2 * n + 1) % 2) 1 ≡ true
odd n = by_case (eqb_tells ((2 * n + 1) % 2) 1) where
  by_case : ((eqb ((2 * n + 1) % 2) 1 ≡ true) × ((2 * n + 1) % 2 ≡ 1)) ⊎ ((eqb ((2 * n + 1) % 2) 1 ≡ false) × ((2 * n + 1) % 2 ≡ 1 → ⊥)) → eqb ((2 * n + 1) % 2) 1 ≡ true
  by_case (inl e) = e.0
  by_case (inr e) = let no : ⊥ = e.1 (omega arith) in absurd no

pub at_left : (gs : Segments) (n : ℕ) → 0 < n → segments_at gs (2 * n) ≡ part false (segments_at gs n)
at_left gs n h =
    let half : (2 * n) / 2 ≡ n = omega arith in
    by_digit gs (2 * n) (omega (arith, h)) ∙ ap (λ c. part c (segments_at gs ((2 * n) / 2))) (even n) ∙ ap (λ k. part false (segments_at gs k)) half

pub at_right : (gs : Segments) (n : ℕ) → 0 < n → segments_at gs (2 * n + 1) ≡ part true (segments_at gs n)
at_right gs n h =
    let half : (2 * n + 1) / 2 ≡ n = omega arith in
    by_digit gs (2 * n + 1) (omega (arith, h)) ∙ ap (λ c. part c (segments_at gs ((2 * n + 1) / 2))) (odd n) ∙ ap (λ k. part true (segments_at gs k)) half

pub at_first : (gs : Segments) → segments_at gs 1 ≡ Some gs
at_first gs = refl

-- no segment is named 0
pub named : (gs : Segments) (n : ℕ) → has_parts (segments_at gs n) ≡ true → 0 < n
named gs zero e = absurd (false≢true e)
named gs (suc n) e = omega arith

pub left_lower : (o : Option Segments) → has_parts o ≡ true → height_at (part false o) < height_at o
left_lower None e = absurd (false≢true e)
left_lower (Some (tip g)) e = absurd (false≢true e)
left_lower (Some (node g l r)) e = omega arith

pub right_lower : (o : Option Segments) → has_parts o ≡ true → height_at (part true o) < height_at o
right_lower None e = absurd (false≢true e)
right_lower (Some (tip g)) e = absurd (false≢true e)
right_lower (Some (node g l r)) e = omega arith

-- What holds of all segments of a tableau.
use Rattle.std.proofs.Common.{◌≡◌, ℕ, zero, suc, ◌+◌, ◌*◌, ◌/◌, ◌%◌, ◌≤◌, eqb, Bool, true, false, Option, Some, None, refl, ap, sym, ◌∙◌, subst, arith, ◌⊎◌, inl, inr}
use Rattle.std.proofs.lemmas.Bool.Decides.{eqb_tells}
use Rattle.tab_tree.specs.Segments.{Segments, tip, node}
use Rattle.round_offers.specs.Places.{part, segments_at}
use Rattle.round_offers.proofs.Places.{by_digit}
use Rattle.round_offers.proofs.Somes.{some_once, none_is_some}

-- It holds of the first segment with its name, and of those below.
abbrev pub Everywhere : (ℕ → Segments → Type 0) → ℕ → Segments → Type 0
Everywhere P n (tip g) = P n (tip g)
Everywhere P n (node g l r) = P n (node g l r) × Everywhere P (2 * n) l × Everywhere P (2 * n + 1) r

pub of_first : (P : ℕ → Segments → Type 0) (n : ℕ) (gs : Segments) → Everywhere P n gs → P n gs
of_first P n (tip g) h = h
of_first P n (node g l r) h = h.0

of_left : (P : ℕ → Segments → Type 0) (m : ℕ) (ks hs : Segments) → Everywhere P m ks → part false (Some ks) ≡ Some hs → Everywhere P (2 * m) hs
of_left P m (tip g) hs h e = absurd (none_is_some hs e)
of_left P m (node g l r) hs h e = subst (λ x. Everywhere P (2 * m) x) (some_once l hs e) h.1

of_right : (P : ℕ → Segments → Type 0) (m : ℕ) (ks hs : Segments) → Everywhere P m ks → part true (Some ks) ≡ Some hs → Everywhere P (2 * m + 1) hs
of_right P m (tip g) hs h e = absurd (none_is_some hs e)
of_right P m (node g l r) hs h e = subst (λ x. Everywhere P (2 * m + 1) x) (some_once r hs e) h.2

-- the digit of a name tells the half of it
abbrev Halved : ℕ → Bool → Type 0
Halved n true = n ≡ 2 * (n / 2) + 1
Halved n false = n ≡ 2 * (n / 2)

halved : (n : ℕ) → Halved n (eqb (n % 2) 1)
halved n = by_case (eqb_tells (n % 2) 1) where
  by_case : ((eqb (n % 2) 1 ≡ true) × (n % 2 ≡ 1)) ⊎ ((eqb (n % 2) 1 ≡ false) × (n % 2 ≡ 1 → ⊥)) → Halved n (eqb (n % 2) 1)
  by_case (inl e) = subst (Halved n) (sym e.0) (omega (arith, e.1))
  by_case (inr e) = subst (Halved n) (sym e.0) (omega (arith, e.1))

of_part : (P : ℕ → Segments → Type 0) (n : ℕ) (d : Bool) (o : Option Segments) (hs : Segments) → Halved n d
    → ((ks : Segments) → o ≡ Some ks → Everywhere P (n / 2) ks) → part d o ≡ Some hs → Everywhere P n hs
of_part P n true None hs q below e = absurd (none_is_some hs e)
of_part P n false None hs q below e = absurd (none_is_some hs e)
of_part P n true (Some ks) hs q below e = subst (λ m. Everywhere P m hs) (sym q) (of_right P (n / 2) ks hs (below ks refl) e)
of_part P n false (Some ks) hs q below e = subst (λ m. Everywhere P m hs) (sym q) (of_left P (n / 2) ks hs (below ks refl) e)

below : (P : ℕ → Segments → Type 0) (gs : Segments) → Everywhere P 1 gs → (k n : ℕ) → n ≤ k → (hs : Segments) → segments_at gs n ≡ Some hs → Everywhere P n hs
below P gs h zero zero le hs e = absurd (none_is_some hs e)
below P gs h zero (suc n) le hs e = let none : ⊥ = omega (arith, le) in absurd none
below P gs h (suc k) zero le hs e = absurd (none_is_some hs e)
below P gs h (suc k) (suc n) le hs e = by_case (eqb_tells n 0) (below P gs h k (suc n / 2)) where
  by_case : ((eqb n 0 ≡ true) × (n ≡ 0)) ⊎ ((eqb n 0 ≡ false) × (n ≡ 0 → ⊥))
      → (suc n / 2 ≤ k → (ks : Segments) → segments_at gs (suc n / 2) ≡ Some ks → Everywhere P (suc n / 2) ks) → Everywhere P (suc n) hs
  by_case (inl z) later =
      let one : 1 ≡ suc n = omega (arith, z.1) in
      subst (λ m. Everywhere P m hs) one (subst (λ x. Everywhere P 1 x) (some_once gs hs (ap (λ m. segments_at gs m) one ∙ e)) h)
  by_case (inr z) later =
      of_part P (suc n) (eqb (suc n % 2) 1) (segments_at gs (suc n / 2)) hs (halved (suc n)) (later (omega (arith, le, z.1)))
      (sym (by_digit gs (suc n) (omega (arith, z.1))) ∙ e)

-- What holds everywhere holds of the segments of each name.
pub of_named : (P : ℕ → Segments → Type 0) (gs : Segments) → Everywhere P 1 gs → (n : ℕ) (hs : Segments) → segments_at gs n ≡ Some hs → P n hs
of_named P gs h n hs e = of_first P n hs (below P gs h n n (omega arith) hs e)

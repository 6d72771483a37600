-- A list of two things, read one by one.
use Rattle.std.proofs.Common.{◌≡◌, ◌<◌, ◌≤◌, List, [], ◌∷◌, length, get_or, ap, sym, ◌∙◌, arith}

pub pair : {A : Type 0} (xs : List A) (a b : A) → 2 ≤ length xs → length xs < 3 → a ≡ get_or xs 0 a → b ≡ get_or xs 1 b → xs ≡ a ∷ b ∷ []
pair [] a b least below first second = absurd (omega (arith, least))
pair (x ∷ []) a b least below first second = absurd (omega (arith, least))
pair (x ∷ y ∷ []) a b least below first second = ap (λ u. u ∷ y ∷ []) (sym first) ∙ ap (λ v. a ∷ v ∷ []) (sym second)
pair (x ∷ y ∷ z ∷ xs) a b least below first second = absurd (omega (arith, below))

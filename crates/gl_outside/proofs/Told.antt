-- What holds of bytes that were fetched holds of the bytes that a shelf tells.
use Rattle.std.proofs.Common.{◌≡◌, List, Option, Some, None, subst}
use Rattle.std.specs.Prelude.{ℕ, IfSome}

pub told_too : (told : Option (List ℕ)) (P : List ℕ → Type 0) (bytes : List ℕ) → IfSome told (λ b. bytes ≡ b) → P bytes → IfSome told P
told_too None P bytes h p = tt
told_too (Some b) P bytes h p = subst P h p

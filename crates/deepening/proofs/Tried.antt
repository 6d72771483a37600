-- How many attempts a round has made that its limit stopped.
use Rattle.std.proofs.Common.{◌≡◌, ◌∙◌, ℕ, ◌+◌, ◌-◌, ◌^◌, ◌<◌, ◌≤◌, min, true, ◌⊎◌, inl, inr, Option, Some, None, nat_le, sym, ap, arith}
use Rattle.std.proofs.Common.{leb-true}
use Rattle.std.specs.Prelude.{IfSome}
use Rattle.nego_plain.specs.Engine.{has_reached, is_spent}
use Rattle.nego_plain.specs.Settling.{Counts}
use Rattle.nego_plain.specs.declared.tries.Tries.{Tries}

-- The limit was reached after so many attempts, of which the first was counted 1: the limit is their number.
pub stopped-at : (before after : Tries) (n most : ℕ) → Counts before after n → before.made ≡ 0 → before.limit ≡ Some most
    → most < 2 ^ 64 - 1 → is_spent after ≡ true → n ≡ most
stopped-at before after n most c none limit small spent =
    let reached : most ≤ after.made =
    leb-true most after.made (sym (ap (λ (o : Option ℕ). has_reached o after.made) (c.limit ∙ limit)) ∙ spent) in
    let made : after.made ≡ min (before.made + n) (2 ^ 64 - 1) = c.made (omega (arith, none)) in
    elim (c.within most limit) [
      | inl zero_made ↦ omega (arith, reached, made, none, zero_made, small)
      | inr within ↦ omega (arith, reached, made, none, within, small)
    ]

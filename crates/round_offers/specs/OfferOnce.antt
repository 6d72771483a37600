-- That a list of bindings is an offer has one proof.
use Rattle.std.specs.Coded.{Π_prop, →_prop}
use Rattle.std.specs.List.{IsDistinct-prop}
use Rattle.std.specs.Prelude.{map}
use Rattle.unify.specs.Offers.{Offer, IsOffer, same_name}

nothing_prop : IsProp ⊥
nothing_prop x y = absurd x

pub IsOffer-prop : (s : Offer) → IsProp (IsOffer s)
IsOffer-prop s h k =
    let distinct = IsDistinct-prop same_name (map (λ b. b.name) s) h.distinct k.distinct in
    let acyclic = Π_prop (λ x. →_prop nothing_prop) h.acyclic k.acyclic in
    λ i. record { distinct = distinct i; acyclic = acyclic i }

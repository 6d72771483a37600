-- The bindings of an offer, place by place.
use Rattle.std.proofs.Common.{◌≡◌, ℕ, zero, suc, List, [], ◌∷◌, Some, None, slice_get, slice_index_or, ◌<◌, length, subst, arith}
use Rattle.free_terms.specs.Free.{metavar}
use Rattle.free_terms.specs.View.{name_of, term_of}
use Rattle.unify.specs.declared.bindings.Binding.{Binding}
use Rattle.unify.specs.Offers.{Offer, IsOffer, Entails, Equates}
use Rattle.unify.specs.View.{offer_of}
use Rattle.unify.proofs.Partial.{entails_itself}

none_is_some : (b : Binding) → None ≡ Some b → ⊥
none_is_some b e = cc

some_once : (a b : Binding) → Some a ≡ Some b → a ≡ b
some_once a b e = cc

pub entails_at : (r : Offer) (s : List Binding) (i : ℕ) (b : Binding) → Entails r (offer_of s) → slice_get s i ≡ Some b
    → Equates r (metavar (name_of b.name)) (term_of b.term)
entails_at r [] i b e at = absurd (none_is_some b at)
entails_at r (c ∷ s) zero b e at = subst (λ d. Equates r (metavar (name_of d.name)) (term_of d.term)) (some_once c b at) e.0
entails_at r (c ∷ s) (suc i) b e at = entails_at r s i b e.1 at

pub keeps_own : (s : List Binding) (i : ℕ) (b : Binding) → IsOffer (offer_of s) → slice_get s i ≡ Some b
    → Equates (offer_of s) (metavar (name_of b.name)) (term_of b.term)
keeps_own s i b o at = entails_at (offer_of s) s i b (entails_itself (offer_of s) o) at

pub entails_index : (r : Offer) (s : List Binding) (i : ℕ) (d : Binding) → i < length s → Entails r (offer_of s)
    → Equates r (metavar (name_of (slice_index_or s i d).name)) (term_of (slice_index_or s i d).term)
entails_index r [] i d le e = let none : ⊥ = omega (arith, le) in absurd none
entails_index r (c ∷ s) zero d le e = e.0
entails_index r (c ∷ s) (suc i) d le e = entails_index r s i d (omega (arith, le)) e.1

-- What the occurs check is done with.
use Rattle.std.proofs.Common.{◌≡◌, ◌↔◌, IsTrue, ◌+◌, ◌*◌, ◌≤◌, ℕ, zero, suc, ◌-◌, ◌<◌, Bool, true, false, length, Some, sym, ◌∙◌, subst, arith, suc-mul, ◌⊎◌, inl, inr}
use Rattle.free_terms.specs.Free as free
use Rattle.free_terms.specs.Free.{FreeTerm, metavar}
use Rattle.free_terms.specs.View.{name_of}
use Rattle.free_terms.specs.declared.term.Name.{Name}
use Rattle.std.specs.HashSet.{Updates}
use Rattle.unify.specs.Index.{Names, is_same}
use Rattle.unify.specs.Occurs.{Settled, AllSettled, StandsInNone}
use Rattle.unify.specs.Offers.{Offer, IsOffer, OccursIn, value_of, resolved}
use Rattle.unify.proofs.Acyclic.{all_settled, resolved_binding, tells}
use Rattle.unify.proofs.Heads.{settled_value, none_is_some}

pub done_with : (s : Offer) (x : free.Name) (done more : Names) (y : Name) → StandsInNone s x done → (OccursIn x (resolved s (metavar (name_of y))) → ⊥)
    → Updates is_same done more y true → StandsInNone s x more
done_with s x done more y none apart updates z among =
    by_case (tells (name_of y) (name_of z)) where
      by_case : ((is_same y z ≡ true) × (name_of y ≡ name_of z)) ⊎ ((is_same y z ≡ false) × (name_of y ≡ name_of z → ⊥)) → OccursIn x (resolved s (metavar (name_of z))) → ⊥
      by_case (inl p) = subst (λ w. OccursIn x (resolved s (metavar w)) → ⊥) p.1 apart
      by_case (inr p) = none z (sym (updates.2 z p.0) ∙ among)

pub start_settled : (s : Offer) (t : FreeTerm) → IsOffer s → AllSettled (length s) s t
start_settled s t o = λ y p. all_settled s o y

pub settled_more : (s : Offer) (y : free.Name) (v : FreeTerm) (m : ℕ) → Settled m s y → value_of s y ≡ Some v → 0 < m
settled_more s y v zero settled e = absurd (none_is_some v (sym settled ∙ e))
settled_more s y v (suc m) settled e = omega arith

pub settled_next : (s : Offer) (y : free.Name) (v : FreeTerm) (m : ℕ) → Settled m s y → value_of s y ≡ Some v → AllSettled (m - 1) s v
settled_next s y v zero settled e = absurd (none_is_some v (sym settled ∙ e))
settled_next s y v (suc m) settled e =
    let one_less : m ≡ suc m - 1 = omega arith in
    subst (λ n. AllSettled n s v) one_less (settled_value s y v m settled e)

pub found_in_value : (s : Offer) (x y : free.Name) (v : FreeTerm) (q : Bool) → IsOffer s → value_of s y ≡ Some v
    → (IsTrue q ↔ OccursIn x (resolved s v)) → (IsTrue q ↔ OccursIn x (resolved s (metavar y)))
found_in_value s x y v q o e f = subst (λ z. IsTrue q ↔ OccursIn x z) (sym (resolved_binding s o y v e)) f

one_more : (m a b : ℕ) → b < a → m * a + b < suc m * a
one_more m a b le =
    omega (arith, suc-mul m a, le)

-- what is counted down where a binding is followed
pub follows_less : (m z w : ℕ) → 0 < m → z ≤ w → (m - 1) * (2 * suc w) + (2 * z + 1) < m * (2 * suc w)
follows_less zero z w pos le = let none : ⊥ = omega arith in absurd none
follows_less (suc m) z w pos le =
    let same : suc m - 1 ≡ m = omega arith in
    subst (λ n. n * (2 * suc w) + (2 * z + 1) < suc m * (2 * suc w)) (sym same) (one_more m (2 * suc w) (2 * z + 1) (omega (arith, le)))

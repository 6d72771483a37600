-- Following bindings from a term to its head, in steps that are counted down from the length of the offer.
use Rattle.std.proofs.Common.{◌≡◌, ℕ, zero, suc, ◌-◌, ◌<◌, Bool, true, false, [], ◌∷◌, length, Some, None, refl, sym, ◌∙◌, subst, arith, ◌⊎◌, inl, inr, if◌then◌else◌}
use Rattle.free_terms.specs.Free.{Name, FreeTerm, metavar}
use Rattle.unify.specs.Offers.{Offer, IsOffer, OccursIn, IsSubterm, IsSubtermOfBound, value_of, resolved}
use Rattle.unify.specs.Work.{IsHead, IsMetavar}
use Rattle.unify.specs.Occurs.{Settled}
use Rattle.unify.proofs.Acyclic.{all_settled, resolved_binding}
use Rattle.unify.proofs.Subterms.{itself}

-- bindings of t led to the second term, and no chain from there uses more than so many
pub record Followed (s : Offer) (t at : FreeTerm) (left : ℕ) : Type 0 where
  pub same : resolved s t ≡ resolved s at
  pub stands : IsSubterm at t ⊎ IsSubtermOfBound at s
  pub settled : (y : Name) → OccursIn y at → Settled left s y

some_once : {A : Type 0} (a b : A) → Some a ≡ Some b → a ≡ b
some_once a b e = cc

pub none_is_some : {A : Type 0} (a : A) → None ≡ Some a → ⊥
none_is_some a e = cc

bound_value : (s : Offer) (x : Name) (v : FreeTerm) → value_of s x ≡ Some v → IsSubtermOfBound v s
bound_value [] x v e = absurd (none_is_some v e)
bound_value (b ∷ s) x v e = by_case _ e (bound_value s x v) where
  by_case : (q : Bool) → (if q then Some b.term else value_of s x) ≡ Some v → (value_of s x ≡ Some v → IsSubtermOfBound v s)
      → IsSubterm v b.term ⊎ IsSubtermOfBound v s
  by_case true z later = inl (subst (λ w. IsSubterm v w) (some_once v b.term (sym z)) (itself v))
  by_case false z later = inr (later z)

pub followed_start : (s : Offer) (t : FreeTerm) → IsOffer s → Followed s t t (length s)
followed_start s t o = record { same = refl; stands = inl (itself t); settled = λ y p. all_settled s o y }

pub followed_more : (s : Offer) (t : FreeTerm) (x : Name) (v : FreeTerm) (left : ℕ) → Followed s t (metavar x) left → value_of s x ≡ Some v → 0 < left
followed_more s t x v zero f e = absurd (none_is_some v (sym (f.settled x refl) ∙ e))
followed_more s t x v (suc left) f e = omega arith

pub settled_value : (s : Offer) (x : Name) (v : FreeTerm) (left : ℕ) → Settled (suc left) s x → value_of s x ≡ Some v → (y : Name) → OccursIn y v → Settled left s y
settled_value s x v left (inl n) e = absurd (none_is_some v (sym n ∙ e))
settled_value s x v left (inr p) e = λ y o. p.2 y (subst (λ w. OccursIn y w) (some_once v p.0 (sym e ∙ p.1)) o)

pub followed_next : (s : Offer) (t : FreeTerm) (x : Name) (v : FreeTerm) (left : ℕ) → IsOffer s → Followed s t (metavar x) left → value_of s x ≡ Some v
    → Followed s t v (left - 1)
followed_next s t x v zero o f e = absurd (none_is_some v (sym (f.settled x refl) ∙ e))
followed_next s t x v (suc left) o f e =
    let one_less : left ≡ suc left - 1 = omega arith in
    subst (Followed s t v) one_less (record {
      same = f.same ∙ resolved_binding s o x v e;
      stands = inr (bound_value s x v e);
      settled = settled_value s x v left (f.settled x refl) e;
    })

some_name : (x y : Name) → metavar x ≡ metavar y → x ≡ y
some_name x y e = cc

pub head_unbound : (s : Offer) (t : FreeTerm) (x : Name) (left : ℕ) → Followed s t (metavar x) left → value_of s x ≡ None → IsHead s t (metavar x)
head_unbound s t x left f e = record {
  same = f.same;
  stands = f.stands;
  unbound = λ y q. subst (λ z. value_of s z ≡ None) (some_name x y q) e;
}

pub head_other : (s : Offer) (t at : FreeTerm) (left : ℕ) → Followed s t at left → (IsMetavar at → ⊥) → IsHead s t at
head_other s t at left f apart = record {
  same = f.same;
  stands = f.stands;
  unbound = λ y q. absurd (apart (subst IsMetavar (sym q) tt));
}

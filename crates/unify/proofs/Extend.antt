-- The empty offer, and an offer with one more binding: one of an unbound metavariable that does not occur
-- in its term keeps the offer acyclic.
use Rattle.std.proofs.Common.{◌≡◌, Bool, true, false, [], ◌∷◌, ◌++◌, length, Some, None, refl, ap, sym, ◌∙◌, subst, ◌⊎◌, inl, inr, if◌then◌else◌}
use Rattle.std.specs.List.{IsDistinct}
use Rattle.free_terms.specs.Free.{Name, FreeTerm, FreeTerms, bound, metavar, skolem, app, no_terms, terms}
use Rattle.unify.specs.Offers.{Offer, IsOffer, Chain, link, links, OccursIn, OccursInSome, value_of, value_within, substitute, substitute_all, resolved, same_name}
use Rattle.unify.proofs.Acyclic.{resolved_binding, unbound_still, tells}

-- what occurs in the value of a metavariable of a term occurs in the resolved term
mutual
  occurs_under : (f : Name → FreeTerm) (x y : Name) (t : FreeTerm) → OccursIn y t → OccursIn x (f y) → OccursIn x (substitute f t)
  occurs_under f x y (bound n) o p = o
  occurs_under f x y (metavar z) o p = subst (λ w. OccursIn x (f w)) o p
  occurs_under f x y (skolem z us) o p = occurs_under_some f x y us o p
  occurs_under f x y (app g us) o p = occurs_under_some f x y us o p

  occurs_under_some : (f : Name → FreeTerm) (x y : Name) (us : FreeTerms) → OccursInSome y us → OccursIn x (f y) → OccursInSome x (substitute_all f us)
  occurs_under_some f x y no_terms o p = o
  occurs_under_some f x y (terms u us) (inl o) p = inl (occurs_under f x y u o p)
  occurs_under_some f x y (terms u us) (inr o) p = inr (occurs_under_some f x y us o p)

-- a chain carries what occurs at its end to its beginning
along : (s : Offer) → IsOffer s → (w y z : Name) → Chain s y z → OccursIn w (resolved s (metavar z)) → OccursIn w (resolved s (metavar y))
along s o w y z (link _ _ t e oc) p =
    subst (λ v. OccursIn w v) (sym (resolved_binding s o y t e)) (occurs_under (value_within (length s) s) w z t oc p)
along s o w y z (links _ m _ c d) p = along s o w y m c (along s o w m z d p)

itself : (s : Offer) (x : Name) → value_of s x ≡ None → OccursIn x (resolved s (metavar x))
itself s x e = subst (λ v. OccursIn x v) (sym (unbound_still (length s) s x e)) refl

abbrev with : Offer → Name → FreeTerm → Offer
with s x t = s ++ record { name = x; term = t } ∷ []

value_with : (s : Offer) (x : Name) (t : FreeTerm) (y : Name) (u : FreeTerm) → value_of (with s x t) y ≡ Some u
    → (value_of s y ≡ Some u) ⊎ ((y ≡ x) × (u ≡ t))
value_with [] x t y u e = by_name (tells x y) where
  none_is_some : None ≡ Some u → ⊥
  none_is_some z = cc

  some_once : Some t ≡ Some u → t ≡ u
  some_once z = cc

  by_name : ((same_name x y ≡ true) × (x ≡ y)) ⊎ ((same_name x y ≡ false) × (x ≡ y → ⊥)) → (None ≡ Some u) ⊎ ((y ≡ x) × (u ≡ t))
  by_name (inl p) = inr (sym p.1, sym (some_once (sym (ap (λ c. if c then Some t else None) p.0) ∙ e)))
  by_name (inr p) = inl (sym (ap (λ c. if c then Some t else None) p.0) ∙ e)
value_with (b ∷ s) x t y u e = by_case (same_name b.name y) e (value_with s x t y u) where
  by_case : (c : Bool) → (if c then Some b.term else value_of (with s x t) y) ≡ Some u
      → (value_of (with s x t) y ≡ Some u → (value_of s y ≡ Some u) ⊎ ((y ≡ x) × (u ≡ t)))
      → ((if c then Some b.term else value_of s y) ≡ Some u) ⊎ ((y ≡ x) × (u ≡ t))
  by_case true z later = inl z
  by_case false z later = later z

-- from y to x without the new binding, or no step at all
abbrev Reaches : Offer → Name → Name → Type 0
Reaches s y x = (y ≡ x) ⊎ Chain s y x

-- a chain with the new binding is one without it, or leads to x, and on from a metavariable of the term
abbrev Splits : Offer → Name → FreeTerm → Name → Name → Type 0
Splits s x t y z = Chain s y z ⊎ (Reaches s y x × (w : Name) × OccursIn w t × Reaches s w z)

before : (s : Offer) (x y z : Name) → Chain s y z → Reaches s z x → Reaches s y x
before s x y z c (inl e) = inr (subst (λ w. Chain s y w) e c)
before s x y z c (inr d) = inr (links y z x c d)

beyond : (s : Offer) (w y z : Name) → Reaches s w y → Chain s y z → Reaches s w z
beyond s w y z (inl e) c = inr (subst (λ v. Chain s v z) (sym e) c)
beyond s w y z (inr d) c = inr (links w y z d c)

together : (s : Offer) (x : Name) (t : FreeTerm) (y m z : Name) → Splits s x t y m → Splits s x t m z → Splits s x t y z
together s x t y m z (inl c) (inl d) = inl (links y m z c d)
together s x t y m z (inl c) (inr d) = inr (before s x y m c d.0, d.1, d.2, d.3)
together s x t y m z (inr c) (inl d) = inr (c.0, c.1, c.2, beyond s c.1 m z c.3 d)
together s x t y m z (inr c) (inr d) = inr (c.0, d.1, d.2, d.3)

one_link : (s : Offer) (x : Name) (t : FreeTerm) (y z : Name) (u : FreeTerm) → OccursIn z u
    → (value_of s y ≡ Some u) ⊎ ((y ≡ x) × (u ≡ t)) → Splits s x t y z
one_link s x t y z u o (inl e) = inl (link y z u e o)
one_link s x t y z u o (inr p) = inr (inl p.0, z, subst (λ v. OccursIn z v) p.1 o, inl refl)

split : (s : Offer) (x : Name) (t : FreeTerm) (y z : Name) → Chain (with s x t) y z → Splits s x t y z
split s x t y z (link _ _ u e o) = one_link s x t y z u o (value_with s x t y u e)
split s x t y z (links _ m _ c d) = together s x t y m z (split s x t y m c) (split s x t m z d)

join : (s : Offer) (x y w : Name) → Reaches s w y → Reaches s y x → Reaches s w x
join s x y w (inl e) r = subst (λ v. Reaches s v x) (sym e) r
join s x y w (inr c) r = before s x w y c r

reached : (s : Offer) → IsOffer s → (x w : Name) → value_of s x ≡ None → Reaches s w x → OccursIn x (resolved s (metavar w))
reached s o x w e (inl q) = subst (λ v. OccursIn x (resolved s (metavar v))) (sym q) (itself s x e)
reached s o x w e (inr c) = along s o x w x c (itself s x e)

pub extended_acyclic : (s : Offer) → IsOffer s → (x : Name) (t : FreeTerm) → value_of s x ≡ None → (OccursIn x (resolved s t) → ⊥)
    → (y : Name) → Chain (with s x t) y y → ⊥
extended_acyclic s o x t e fresh y c = by_split (split s x t y y c) where
  by_split : Splits s x t y y → ⊥
  by_split (inl d) = o.acyclic y d
  by_split (inr d) =
      fresh (occurs_under (value_within (length s) s) x d.1 t d.2 (reached s o x d.1 e (join s x y d.1 d.3 d.0)))

none_is_some : (t : FreeTerm) → None ≡ Some t → ⊥
none_is_some t e = cc

unbound_chain : (x y : Name) → Chain [] x y → ⊥
unbound_chain x y (link _ _ t e o) = none_is_some t e
unbound_chain x y (links _ z _ c d) = unbound_chain x z c

pub no_bindings : IsOffer []
unfolding IsDistinct
no_bindings = record { distinct = tt; acyclic = λ x c. unbound_chain x x c }

-- The tests say what the definitions of offers do.
use Rattle.std.proofs.Common.{◌≡◌, Bool, true, false, ◌&&◌, ◌↔◌, eqb, [], ◌∷◌, refl, ap, sym, ◌∙◌, subst, ◌⊎◌, inl, inr}
use Rattle.std.proofs.lemmas.Bool.{false≢true, eqb-true, eq-eqb}
use Rattle.free_terms.specs.Free.{Name, FreeTerm, FreeTerms, bound, metavar, skolem, app, no_terms, terms}
use Rattle.unify.specs.Offers.{Offer, Equates, EquatesAll, Entails, same_name, resolved, resolved_all}
use Rattle.unify.specs.Tests.{same_term, same_terms, equates, equates_all, entails, same_offer}
use Rattle.unify.proofs.Acyclic.{tells}
use Rattle.unify.proofs.Parts.{true_of_name}

halves : (p q : Bool) → (p && q) ≡ true → (p ≡ true) × (q ≡ true)
halves true q e = (refl, e)
halves false q e = absurd (false≢true e)

both_true : (p q : Bool) → p ≡ true → q ≡ true → (p && q) ≡ true
both_true p q a b = ap (λ z. z && q) a ∙ b

name_of_true : (x y : Name) → same_name x y ≡ true → x ≡ y
name_of_true x y e = by_case (tells x y) where
  by_case : ((same_name x y ≡ true) × (x ≡ y)) ⊎ ((same_name x y ≡ false) × (x ≡ y → ⊥)) → x ≡ y
  by_case (inl p) = p.1
  by_case (inr p) = absurd (false≢true (sym p.0 ∙ e))

mutual
  one_term : (t u : FreeTerm) → same_term t u ≡ true → t ≡ u
  one_term (bound m) (bound n) e = ap bound (eqb-true m n e)
  one_term (metavar x) (metavar y) e = ap metavar (name_of_true x y e)
  one_term (skolem x us) (skolem y vs) e =
      let p = halves (same_name x y) (same_terms us vs) e in
      let q : x ≡ y = name_of_true x y p.0 in
      let r : us ≡ vs = one_terms us vs p.1 in
      λ i. skolem (q i) (r i)
  one_term (app f us) (app g vs) e =
      let p = halves (eqb f g) (same_terms us vs) e in
      let q : f ≡ g = eqb-true f g p.0 in
      let r : us ≡ vs = one_terms us vs p.1 in
      λ i. app (q i) (r i)
  one_term t u e = absurd (false≢true e)

  one_terms : (us vs : FreeTerms) → same_terms us vs ≡ true → us ≡ vs
  one_terms no_terms no_terms e = refl
  one_terms (terms u us) (terms v vs) e =
      let p = halves (same_term u v) (same_terms us vs) e in
      let q : u ≡ v = one_term u v p.0 in
      let r : us ≡ vs = one_terms us vs p.1 in
      λ i. terms (q i) (r i)
  one_terms us vs e = absurd (false≢true e)

mutual
  itself : (t : FreeTerm) → same_term t t ≡ true
  itself (bound n) = eq-eqb n n refl
  itself (metavar x) = true_of_name x x refl
  itself (skolem x us) = both_true _ _ (true_of_name x x refl) (itselves us)
  itself (app f us) = both_true _ _ (eq-eqb f f refl) (itselves us)

  itselves : (us : FreeTerms) → same_terms us us ≡ true
  itselves no_terms = refl
  itselves (terms u us) = both_true _ _ (itself u) (itselves us)

pub same_term-true : (t u : FreeTerm) → same_term t u ≡ true ↔ (t ≡ u)
same_term-true t u = (one_term t u, λ e. subst (λ v. same_term t v ≡ true) e (itself t))

pub same_terms-true : (us vs : FreeTerms) → same_terms us vs ≡ true ↔ (us ≡ vs)
same_terms-true us vs = (one_terms us vs, λ e. subst (λ ws. same_terms us ws ≡ true) e (itselves us))

pub equates-true : (s : Offer) (t u : FreeTerm) → equates s t u ≡ true ↔ Equates s t u
equates-true s t u = same_term-true (resolved s t) (resolved s u)

pub equates_all-true : (s : Offer) (ts us : FreeTerms) → equates_all s ts us ≡ true ↔ EquatesAll s ts us
equates_all-true s ts us = same_terms-true (resolved_all s ts) (resolved_all s us)

pub entails-true : (r s : Offer) → entails r s ≡ true ↔ Entails r s
entails-true r [] = (λ e. tt, λ e. refl)
entails-true r (b ∷ s) = (
  λ e. let p = halves (equates r (metavar b.name) b.term) (entails r s) e in ((equates-true r (metavar b.name) b.term).0 p.0, (entails-true r s).0 p.1),
  λ e. both_true _ _ ((equates-true r (metavar b.name) b.term).1 e.0) ((entails-true r s).1 e.1),
)

one_offer : (r s : Offer) → same_offer r s ≡ true → r ≡ s
one_offer [] [] e = refl
one_offer [] (c ∷ s) e = absurd (false≢true e)
one_offer (b ∷ r) [] e = absurd (false≢true e)
one_offer (b ∷ r) (c ∷ s) e =
    let p = halves (same_name b.name c.name && same_term b.term c.term) (same_offer r s) e in
    let q = halves (same_name b.name c.name) (same_term b.term c.term) p.0 in
    let name : b.name ≡ c.name = name_of_true b.name c.name q.0 in
    let term : b.term ≡ c.term = one_term b.term c.term q.1 in
    let rest : r ≡ s = one_offer r s p.1 in
    λ i. record { name = name i; term = term i } ∷ rest i

offer_itself : (s : Offer) → same_offer s s ≡ true
offer_itself [] = refl
offer_itself (b ∷ s) = both_true _ _ (both_true _ _ (true_of_name b.name b.name refl) (itself b.term)) (offer_itself s)

pub same_offer-true : (r s : Offer) → same_offer r s ≡ true ↔ (r ≡ s)
same_offer-true r s = (one_offer r s, λ e. subst (λ o. same_offer r o ≡ true) e (offer_itself r))

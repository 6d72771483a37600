-- An offer that entails another gives the terms that the other has resolved the same values.
use Rattle.std.proofs.Common.{◌≡◌, ℕ, zero, suc, ◌≤◌, true, false, [], ◌∷◌, length, Option, Some, None, refl, ap, sym, ◌∙◌, arith, ◌⊎◌, inl, inr, if◌then◌else◌}
use Rattle.free_terms.specs.Free.{Name, FreeTerm, FreeTerms, bound, metavar, skolem, app, no_terms, terms}
use Rattle.unify.specs.Offers.{Offer, OccursIn, OccursInSome, Equates, Entails, value_of, value_within, substituted_in, substitute, substitute_all, resolved, resolved_all, same_name}
use Rattle.unify.specs.Work.{size, size_all}
use Rattle.unify.proofs.Acyclic.{tells}

some_once : {A : Type 0} (a b : A) → Some a ≡ Some b → a ≡ b
some_once a b e = cc

none_is_some : {A : Type 0} (a : A) → None ≡ Some a → ⊥
none_is_some a e = cc

-- the entailed bindings, one by one
entailed : (r s : Offer) (x : Name) (t : FreeTerm) → Entails r s → value_of s x ≡ Some t → Equates r (metavar x) t
entailed r [] x t all e = absurd (none_is_some t e)
entailed r (b ∷ s) x t all e = by_name (tells b.name x) (entailed r s x t all.1) where
  by_name : ((same_name b.name x ≡ true) × (b.name ≡ x)) ⊎ ((same_name b.name x ≡ false) × (b.name ≡ x → ⊥))
      → (value_of s x ≡ Some t → Equates r (metavar x) t) → Equates r (metavar x) t
  by_name (inl p) later =
      let same : b.term ≡ t = some_once b.term t (sym (ap (λ c. if c then Some b.term else value_of s x) p.0) ∙ e) in
      sym (ap (λ y. resolved r (metavar y)) p.1) ∙ all.0 ∙ ap (resolved r) same
  by_name (inr p) later = later (sym (ap (λ c. if c then Some b.term else value_of s x) p.0) ∙ e)

mutual
  absorbed_by : (r : Offer) (f : Name → FreeTerm) → ((x : Name) → resolved r (f x) ≡ resolved r (metavar x)) → (t : FreeTerm)
      → resolved r (substitute f t) ≡ resolved r t
  absorbed_by r f each (bound n) = refl
  absorbed_by r f each (metavar x) = each x
  absorbed_by r f each (skolem x us) = ap (λ vs. skolem x vs) (absorbed_by_all r f each us)
  absorbed_by r f each (app g us) = ap (λ vs. app g vs) (absorbed_by_all r f each us)

  absorbed_by_all : (r : Offer) (f : Name → FreeTerm) → ((x : Name) → resolved r (f x) ≡ resolved r (metavar x)) → (us : FreeTerms)
      → resolved_all r (substitute_all f us) ≡ resolved_all r us
  absorbed_by_all r f each no_terms = refl
  absorbed_by_all r f each (terms u us) =
      ap (λ v. terms v (resolved_all r (substitute_all f us))) (absorbed_by r f each u)
      ∙ ap (λ vs. terms (resolved r u) vs) (absorbed_by_all r f each us)

value_absorbed : (r s : Offer) → Entails r s → (n : ℕ) (x : Name) → resolved r (value_within n s x) ≡ resolved r (metavar x)
value_absorbed r s all zero x = refl
value_absorbed r s all (suc n) x = by_value (value_absorbed r s all n) (value_of s x) refl where
  by_value : ((y : Name) → resolved r (value_within n s y) ≡ resolved r (metavar y)) → (o : Option FreeTerm) → value_of s x ≡ o → resolved r (substituted_in (value_within n s) x (value_of s x)) ≡ resolved r (metavar x)
  by_value each None e = ap (λ o. resolved r (substituted_in (value_within n s) x o)) e
  by_value each (Some t) e =
      ap (λ o. resolved r (substituted_in (value_within n s) x o)) e
      ∙ absorbed_by r (value_within n s) each t
      ∙ sym (entailed r s x t all e)

pub absorbed : (r s : Offer) → Entails r s → (t : FreeTerm) → resolved r (resolved s t) ≡ resolved r t
absorbed r s all t = absorbed_by r (value_within (length s) s) (value_absorbed r s all (length s)) t

-- So what the entailed offer makes one, the other does: entailment carries over.
pub carries : (r s : Offer) → Entails r s → (t u : FreeTerm) → Equates s t u → Equates r t u
carries r s all t u e = sym (absorbed r s all t) ∙ ap (resolved r) e ∙ absorbed r s all u

pub transitive : (q r s : Offer) → Entails q r → Entails r s → Entails q s
transitive q r [] x y = tt
transitive q r (b ∷ s) x y = (carries q r x (metavar b.name) b.term y.0, transitive q r s x y.1)

mutual
  smaller : (r : Offer) (x : Name) (t : FreeTerm) → OccursIn x t → size (resolved r (metavar x)) ≤ size (resolved r t)
  smaller r x (bound n) o = absurd o
  smaller r x (metavar y) o = let same = ap (λ z. size (resolved r (metavar z))) o in omega (arith, same)
  smaller r x (skolem y us) o = omega (arith, smaller_all r x us o)
  smaller r x (app f us) o = omega (arith, smaller_all r x us o)

  smaller_all : (r : Offer) (x : Name) (us : FreeTerms) → OccursInSome x us → size (resolved r (metavar x)) ≤ size_all (resolved_all r us)
  smaller_all r x no_terms o = absurd o
  smaller_all r x (terms u us) (inl o) = omega (arith, smaller r x u o)
  smaller_all r x (terms u us) (inr o) = omega (arith, smaller_all r x us o)

-- A metavariable and a term in whose arguments it occurs are never made one.
pub occurs_check : (r : Offer) (x : Name) (f : ℕ) (us : FreeTerms) → OccursInSome x us → Equates r (metavar x) (app f us) → ⊥
occurs_check r x f us o e = omega (arith, smaller_all r x us o, ap size e)

pub occurs_check_skolem : (r : Offer) (x y : Name) (us : FreeTerms) → OccursInSome x us → Equates r (metavar x) (skolem y us) → ⊥
occurs_check_skolem r x y us o e = omega (arith, smaller_all r x us o, ap size e)

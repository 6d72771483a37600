-- How deep terms nest with all bindings applied.
use Rattle.std.proofs.Common.{◌≡◌, ◌<◌, ◌≤◌, ◌+◌, ℕ, zero, suc, max, Bool, true, false, List, [], ◌∷◌, ◌++◌, length, Option, Some, None, Result, Ok, Err, IfOk, refl, ap, sym, ◌∙◌, subst, arith, ◌⊎◌, inl, inr, if◌then◌else◌}
use Rattle.std.proofs.lemmas.List.{length-map}
use Rattle.free_terms.specs.Free.{Name, FreeTerm, FreeTerms, bound, metavar, skolem, app, no_terms, terms}
use Rattle.free_terms.specs.View.{term_of, terms_of}
use Rattle.free_terms.specs.declared.term.FTerm.{FTerm}
use Rattle.unify.specs.Nesting.{nesting, nesting_below, nesting_of, most_nested}
use Rattle.unify.specs.Offers.{Offer, Binding, IsOffer, Chain, link, links, OccursIn, OccursInSome, value_of, value_within, substituted_in, substitute, substitute_all, resolved, same_name}
use Rattle.unify.proofs.Acyclic.{without, kept}
use Rattle.unify.proofs.Heads.{none_is_some}
use Rattle.unify.specs.View.{binding_of, offer_of}
use Rattle.unify.specs.declared.bindings.Binding as listed
use Rattle.unify.proofs.Turns.{offer_with}

pub some_below : (us : List FTerm) → (length us ≡ 0 → ⊥) → 0 < nesting_below (terms_of us)
some_below [] none = absurd (none refl)
some_below (u ∷ us) none = omega arith

pub nesting_with : (s : Offer) (b : Binding) → nesting_of (s ++ b ∷ []) ≡ nesting_of s + nesting b.term
nesting_with [] b = omega arith
nesting_with (c ∷ s) b = omega (arith, nesting_with s b)

pub nesting_more : (s : List listed.Binding) (b : listed.Binding) (t : List listed.Binding) (nested more : ℕ) → nesting_of (offer_of s) ≡ nested → more ≡ nesting (term_of b.term)
    → t ≡ s ++ b ∷ [] → nesting_of (offer_of t) ≡ nested + more
nesting_more s b t nested more before same e =
    ap (λ z. nesting_of (offer_of z)) e ∙ ap nesting_of (offer_with s b) ∙ nesting_with (offer_of s) (binding_of b) ∙ (λ i. before i + sym same i)

both : (a b c d k : ℕ) → a ≤ b + k → c ≤ d + k → max (suc a) c ≤ max (suc b) d + k
both a b c d k p q = omega (arith, p, q)

-- a substitution by terms that nest k deep at most
mutual
  under : (f : Name → FreeTerm) (k : ℕ) (t : FreeTerm) → ((y : Name) → OccursIn y t → nesting (f y) ≤ k) → nesting (substitute f t) ≤ nesting t + k
  under f k (bound n) each = omega arith
  under f k (metavar x) each = omega (arith, each x refl)
  under f k (skolem x us) each = under_all f k us each
  under f k (app g us) each = under_all f k us each

  under_all : (f : Name → FreeTerm) (k : ℕ) (us : FreeTerms) → ((y : Name) → OccursInSome y us → nesting (f y) ≤ k)
      → nesting_below (substitute_all f us) ≤ nesting_below us + k
  under_all f k no_terms each = omega arith
  under_all f k (terms u us) each =
      both (nesting (substitute f u)) (nesting u) (nesting_below (substitute_all f us)) (nesting_below us) k
      (under f k u (λ y o. each y (inl o))) (under_all f k us (λ y o. each y (inr o)))

less_without : (x : Name) (s : Offer) → nesting_of (without x s) ≤ nesting_of s
less_without x [] = omega arith
less_without x (b ∷ s) = either_way (same_name b.name x) (less_without x s) where
  either_way : (q : Bool) → nesting_of (without x s) ≤ nesting_of s → nesting_of (if q then without x s else b ∷ without x s) ≤ nesting b.term + nesting_of s
  either_way true le = omega (arith, le)
  either_way false le = omega (arith, le)

taken : (x : Name) (s : Offer) (t : FreeTerm) → value_of s x ≡ Some t → nesting t + nesting_of (without x s) ≤ nesting_of s
taken x [] t e = absurd (none_is_some t e)
taken x (b ∷ s) t e = either_way (same_name b.name x) e (less_without x s) (taken x s t) where
  some_once : Some b.term ≡ Some t → t ≡ b.term
  some_once z = cc

  either_way : (q : Bool) → (if q then Some b.term else value_of s x) ≡ Some t → nesting_of (without x s) ≤ nesting_of s
      → (value_of s x ≡ Some t → nesting t + nesting_of (without x s) ≤ nesting_of s)
      → nesting t + nesting_of (if q then without x s else b ∷ without x s) ≤ nesting b.term + nesting_of s
  either_way true e le later = omega (arith, le, ap nesting (some_once e))
  either_way false e le later = omega (arith, later e)

-- the same name, or one that a chain leads to
abbrev Reaches : Offer → Name → Name → Type 0
Reaches s x y = (x ≡ y) ⊎ Chain s x y

-- r has the bindings of s that x reaches
abbrev HasReach : Offer → Offer → Name → Type 0
HasReach s r x = (y : Name) → Reaches s x y → value_of r y ≡ value_of s y

further : (s r : Offer) → IsOffer s → (x y : Name) (t : FreeTerm) → value_of s x ≡ Some t → OccursIn y t → HasReach s r x → HasReach s (without x r) y
further s r o x y t e oc has z reach = kept x z r (apart reach) ∙ has z (inr (to reach)) where
  to : Reaches s y z → Chain s x z
  to (inl q) = subst (Chain s x) q (link x y t e oc)
  to (inr c) = links x y z (link x y t e oc) c

  apart : Reaches s y z → z ≡ x → ⊥
  apart reach q = o.acyclic x (subst (Chain s x) q (to reach))

within : (m : ℕ) (s : Offer) → IsOffer s → (r : Offer) (x : Name) → HasReach s r x → nesting (value_within m s x) ≤ nesting_of r
within zero s o r x has = omega arith
within (suc m) s o r x has = by_value (value_of s x) refl (λ y t e oc. within m s o (without x r) y (further s r o x y t e oc has)) where
  by_value : (v : Option FreeTerm) → value_of s x ≡ v
      → ((y : Name) (t : FreeTerm) → value_of s x ≡ Some t → OccursIn y t → nesting (value_within m s y) ≤ nesting_of (without x r))
      → nesting (substituted_in (value_within m s) x (value_of s x)) ≤ nesting_of r
  by_value None e each = subst (λ v. nesting (substituted_in (value_within m s) x v) ≤ nesting_of r) (sym e) (omega arith)
  by_value (Some t) e each =
      subst (λ v. nesting (substituted_in (value_within m s) x v) ≤ nesting_of r) (sym e)
      (omega (arith, under (value_within m s) (nesting_of (without x r)) t (λ y oc. each y t e oc), taken x r t (has x (inl refl) ∙ e)))

-- With all bindings applied a term nests no deeper than it does and the bound terms do together.
pub nesting_resolved : (s : Offer) → IsOffer s → (t : FreeTerm) → nesting (resolved s t) ≤ nesting t + nesting_of s
nesting_resolved s o t = under (value_within (length s) s) (nesting_of s) t (λ y oc. within (length s) s o s y (λ z reach. refl))

-- the same of a term that the program resolved
pub if_resolved : {E : Type 0} (r : Result FTerm E) (s : List listed.Binding) (t : FreeTerm) (m : ℕ) → IsOffer (offer_of s) → nesting_of (offer_of s) ≤ most_nested
    → m ≡ length s → IfOk r (λ u. term_of u ≡ substitute (value_within m (offer_of s)) t) → IfOk r (λ u. nesting (term_of u) ≤ nesting t + most_nested)
if_resolved (Err e) s t m o le len is = tt
if_resolved (Ok u) s t m o le len is =
    let whole : term_of u ≡ resolved (offer_of s) t = subst (λ n. term_of u ≡ substitute (value_within n (offer_of s)) t) (len ∙ sym (length-map s binding_of)) is in
    omega (arith, nesting_resolved (offer_of s) o t, ap nesting whole, le)

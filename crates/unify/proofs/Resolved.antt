-- Following a binding, and the terms with all bindings applied.
use Rattle.std.proofs.Common.{◌≡◌, ℕ, zero, suc, ◌-◌, ◌<◌, List, [], ◌∷◌, map, Some, None, Result, Ok, Err, IfOk, length, refl, ap, sym, ◌∙◌, arith}
use Rattle.free_terms.specs.Free as free
use Rattle.unify.specs.Offers.{Offer, substitute, substitute_all, value_within, substituted_in, value_of}
use Rattle.unify.specs.Work.{count}
use Rattle.unify.proofs.Parts.{count_of}
use Rattle.free_terms.specs.View.{term_of, terms_of}
use Rattle.free_terms.specs.declared.term.FTerm.{FTerm}

pub followed : (m : ℕ) (s : Offer) (x : free.Name) (v : free.FreeTerm) → 0 < m → value_of s x ≡ Some v
    → substitute (value_within m s) (free.metavar x) ≡ substitute (value_within (m - 1) s) v
followed zero s x v pos e = let no_chain : ⊥ = omega arith in absurd no_chain
followed (suc m) s x v pos e =
    let one_less : m ≡ suc m - 1 = omega arith in
    ap (λ o. substituted_in (value_within m s) x o) e ∙ ap (λ n. substitute (value_within n s) v) one_less

pub substitute_all_of : (f : free.Name → free.FreeTerm) (us : List FTerm) → substitute_all f (terms_of us) ≡ free.terms_of_list (map (λ u. substitute f (term_of u)) us)
substitute_all_of f [] = refl
substitute_all_of f (u ∷ us) = ap (λ vs. free.terms (substitute f (term_of u)) vs) (substitute_all_of f us)

pub unbound : (m : ℕ) (s : Offer) (x : free.Name) → value_of s x ≡ None → value_within m s x ≡ free.metavar x
unbound zero s x e = refl
unbound (suc m) s x e = ap (λ o. substituted_in (value_within m s) x o) e

pub count_terms : (us : List FTerm) → count (terms_of us) ≡ length us
count_terms [] = refl
count_terms (u ∷ us) = omega (arith, count_terms us)

pub same_length : (f g : free.Name → free.FreeTerm) (us vs : List FTerm) → substitute_all f (terms_of us) ≡ substitute_all g (terms_of vs) → length us ≡ length vs
same_length f g us vs e =
    sym (count_of f (terms_of us) ∙ count_terms us) ∙ ap count e ∙ count_of g (terms_of vs) ∙ count_terms vs

pub shared_is : {E : Type 0} (r : Result (List FTerm) E) (us : List FTerm) (z : free.FreeTerms) → IfOk r (λ s. s ≡ us) → terms_of us ≡ z
    → IfOk r (λ rs. terms_of rs ≡ z)
shared_is (Ok s) us z e p = ap terms_of e ∙ p
shared_is (Err x) us z e p = tt

-- What the definitions of offers ask, as tests.
use Rattle.std.specs.Prelude.{Bool, true, false, ◌&&◌, eqb, [], ◌∷◌}
use Rattle.free_terms.specs.Free.{FreeTerm, FreeTerms, bound, metavar, skolem, app, no_terms, terms}
use Rattle.unify.specs.Offers.{Offer, same_name, resolved, resolved_all}

-- whether two terms are one
abbrev mutual
  pub same_term : FreeTerm → FreeTerm → Bool
  same_term (bound m) (bound n) = eqb m n
  same_term (metavar x) (metavar y) = same_name x y
  same_term (skolem x us) (skolem y vs) = same_name x y && same_terms us vs
  same_term (app f us) (app g vs) = eqb f g && same_terms us vs
  same_term t u = false

  pub same_terms : FreeTerms → FreeTerms → Bool
  same_terms no_terms no_terms = true
  same_terms (terms u us) (terms v vs) = same_term u v && same_terms us vs
  same_terms us vs = false

-- whether the offer makes the terms one
abbrev pub equates : Offer → FreeTerm → FreeTerm → Bool
equates s t u = same_term (resolved s t) (resolved s u)

abbrev pub equates_all : Offer → FreeTerms → FreeTerms → Bool
equates_all s ts us = same_terms (resolved_all s ts) (resolved_all s us)

-- whether the first equates both sides of each binding of the second
abbrev pub entails : Offer → Offer → Bool
entails r [] = true
entails r (b ∷ s) = equates r (metavar b.name) b.term && entails r s

-- whether they are the same list of bindings
abbrev pub same_offer : Offer → Offer → Bool
same_offer [] [] = true
same_offer (b ∷ r) (c ∷ s) = (same_name b.name c.name && same_term b.term c.term) && same_offer r s
same_offer r s = false

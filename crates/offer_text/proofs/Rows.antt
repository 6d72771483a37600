-- Worked texts, computed.
use Rattle.std.proofs.Common.{◌≡◌, ℕ, List, [], ◌∷◌, refl}
use Rattle.std.specs.Prelude.{codes}
use Rattle.std.specs.Fmt.{digits}
use Rattle.fol_core.specs.Symbol.{Symbol}
use Rattle.free_terms.specs.Free.{Name, FreeTerm, metavar, skolem, app, no_terms, terms}
use Rattle.offer_text.specs.Text.{term_text, offer_text}

abbrev name : ℕ → ℕ → Name
name b k = record { segment = b; count = k }

abbrev constant : ℕ → FreeTerm
constant n = app n no_terms

abbrev symbols : List Symbol
symbols = (codes "a", 0) ∷ (codes "f g", 2) ∷ (codes "it's", 0) ∷ []

-- a function symbol that is no word, a Skolem term with an argument and one without
skolem_term : term_text symbols (app 1 (terms (skolem (name 5 2) (terms (metavar (name 1 1)) no_terms)) (terms (skolem (name 1 1) no_terms) no_terms)))
    ≡ codes "'f g'(!5.2(?1.1),!1.1)"
unfolding digits
skolem_term = refl

quote_in_name : term_text symbols (constant 2) ≡ codes "'it\\'s'"
unfolding digits
quote_in_name = refl

free_offer : offer_text symbols [] ≡ codes "{}"
free_offer = refl

one_binding : offer_text symbols (record { name = name 1 1; term = constant 0 } ∷ []) ≡ codes "{?1.1=a}"
unfolding digits
one_binding = refl

-- in their order, and no binding is applied
two_bindings : offer_text symbols (record { name = name 12 1; term = metavar (name 1 3) } ∷ record { name = name 1 3; term = constant 0 } ∷ [])
    ≡ codes "{?12.1=?1.3,?1.3=a}"
unfolding digits
two_bindings = refl

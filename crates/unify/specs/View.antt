-- The offers that the program's lists of bindings stand for.
use Rattle.std.specs.Prelude.{List, map, Option, option_map}
use Rattle.free_terms.specs.View.{name_of, term_of, terms_of}
use Rattle.free_terms.specs.declared.term.FTerm.{FTerm}
use Rattle.unify.specs.Offers as offers
use Rattle.unify.specs.declared.bindings.Binding.{Binding}

abbrev pub binding_of : Binding → offers.Binding
binding_of b = record { name = name_of b.name; term = term_of b.term }

abbrev pub offer_of : List Binding → offers.Offer
offer_of s = map binding_of s

-- what unification of the program's terms answers
abbrev pub UnifiesTerms : List Binding → List FTerm → List FTerm → Option (List Binding) → Type 0
UnifiesTerms given ts us found =
    offers.Unifies (offer_of given) (terms_of ts) (terms_of us) (option_map offer_of found)

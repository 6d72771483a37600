-- What the occurs check goes by: how long chains of bindings are, and the metavariables it is done with.
use Rattle.std.specs.Prelude.{◌≡◌, ◌↔◌, IsTrue, ℕ, zero, suc, Some, None, ◌⊎◌, Bool, true}
use Rattle.std.specs.HashSet.{contains}
use Rattle.free_terms.specs.Free.{Name, FreeTerm, FreeTerms, metavar}
use Rattle.free_terms.specs.View.{name_of}
use Rattle.free_terms.specs.declared.term.Name as names
use Rattle.unify.specs.Index.{Names, is_same}
use Rattle.unify.specs.Offers.{Offer, OccursIn, OccursInSome, value_of, resolved, resolved_all}

-- no chain from x uses more than k bindings
abbrev pub Settled : ℕ → Offer → Name → Type 0
Settled zero s x = value_of s x ≡ None
Settled (suc k) s x =
    (value_of s x ≡ None)
    ⊎ ((t : FreeTerm) × (value_of s x ≡ Some t) × ((y : Name) → OccursIn y t → Settled k s y))

-- no chain from a metavariable of the term uses more than k bindings
abbrev pub AllSettled : ℕ → Offer → FreeTerm → Type 0
AllSettled k s t = (y : Name) → OccursIn y t → Settled k s y

abbrev pub AllSettledInSome : ℕ → Offer → FreeTerms → Type 0
AllSettledInSome k s us = (y : Name) → OccursInSome y us → Settled k s y

-- whether x stands in the term with all bindings applied
abbrev pub TellsIn : Offer → Name → FreeTerm → Bool → Type 0
TellsIn s x t found = IsTrue found ↔ OccursIn x (resolved s t)

abbrev pub TellsInSome : Offer → Name → FreeTerms → Bool → Type 0
TellsInSome s x us found = IsTrue found ↔ OccursInSome x (resolved_all s us)

-- x stands in no value of the metavariables
abbrev pub StandsInNone : Offer → Name → Names → Type 0
StandsInNone s x done =
    (y : names.Name) → contains is_same done y ≡ true → OccursIn x (resolved s (metavar (name_of y))) → ⊥

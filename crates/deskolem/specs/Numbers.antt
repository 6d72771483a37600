-- The parameters of Skolem symbols, and the values of metavariables, as maps hold them.
use Rattle.std.specs.Prelude.{◌≡◌, ℕ, suc, List, [], ◌∷◌, Option, Some, None, if◌then◌else◌}
use Rattle.std.specs.declared.hash.FoldHasher.{FoldHasher}
use Rattle.std.specs.declared.hash.BuildHasherDefault.{BuildHasherDefault}
use Rattle.std.specs.HashMap.{get, HashMap}
use Rattle.fol_core.specs.View.{term_of}
use Rattle.fol_core.specs.declared.term.Term.{Term}
use Rattle.free_terms.specs.Free as free
use Rattle.free_terms.specs.Free.{metavar}
use Rattle.free_terms.specs.View.{name_of}
use Rattle.free_terms.specs.declared.term.Name.{Name}
use Rattle.unify.specs.Index.{is_same}
use Rattle.unify.specs.Offers.{Offer, same_name}
use Rattle.translation.specs.Translation.{term_under}

abbrev pub Numbers : Type 0
Numbers = HashMap Name ℕ (BuildHasherDefault FoldHasher)

-- the number of the symbol in the list, where the first one has the number after n
abbrev pub number_in : ℕ → List Name → free.Name → Option ℕ
number_in n [] x = None
number_in n (y ∷ ys) x = if same_name (name_of y) x then Some (suc n) else number_in (suc n) ys x

-- the map has the number of each symbol of the list, from 1, and no other symbols
abbrev pub AreNumbers : List Name → Numbers → Type 0
AreNumbers names numbers = (x : Name) → get is_same numbers x ≡ number_in 0 names (name_of x)

abbrev pub Values : Type 0
Values = HashMap Name Term (BuildHasherDefault FoldHasher)

-- what the map has of a metavariable is its closed value under the offer
abbrev pub AreValues : Offer → List free.Name → Values → Type 0
AreValues s ys values = (x : Name) (t : Term) → get is_same values x ≡ Some t
    → term_of t ≡ term_under s ys (metavar (name_of x))

-- nothing is there, so that what is there is right for every offer
abbrev pub AreOfAny : Values → Type 0
AreOfAny values = (s : Offer) (ys : List free.Name) → AreValues s ys values

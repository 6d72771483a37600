-- The index of a list of bindings by name.
use Rattle.std.specs.Prelude.{◌≡◌, ◌≤◌, ℕ, zero, suc, Bool, List, [], ◌∷◌, Option, Some, None, option_map}
use Rattle.std.specs.Prelude.{if◌then◌else◌}
use Rattle.std.specs.declared.hash.FoldHasher.{FoldHasher}
use Rattle.std.specs.declared.hash.BuildHasherDefault.{BuildHasherDefault}
use Rattle.std.specs.HashMap.{get, HashMap}
use Rattle.std.specs.HashSet.{HashSet}
use Rattle.free_terms.specs.View.{name_of}
use Rattle.free_terms.specs.declared.term.Name.{Name}
use Rattle.unify.specs.Nesting.{nesting_of, most_nested}
use Rattle.unify.specs.Offers.{same_name}
use Rattle.unify.specs.View.{offer_of}
use Rattle.unify.specs.declared.bindings.Binding.{Binding}

abbrev pub Places : Type 0
Places = HashMap Name ℕ (BuildHasherDefault FoldHasher)

abbrev pub Names : Type 0
Names = HashSet Name (BuildHasherDefault FoldHasher)

abbrev pub is_same : Name → Name → Bool
is_same x y = same_name (name_of x) (name_of y)

-- the place of the first binding of the name
abbrev pub place_of : List Binding → Name → Option ℕ
place_of [] x = None
place_of (b ∷ s) x = if is_same b.name x then Some zero else option_map suc (place_of s x)

-- the map has the place of each name's binding
abbrev pub IsIndex : List Binding → Places → Type 0
IsIndex s places = (x : Name) → get is_same places x ≡ place_of s x

-- the number is how deep the bound terms nest together, and no more than the limit
abbrev pub IsCounted : List Binding → ℕ → Type 0
IsCounted s nested = (nesting_of (offer_of s) ≡ nested) × (nested ≤ most_nested)

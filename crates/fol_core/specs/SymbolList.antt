-- A list of symbols, kept as its distinct names, each with its arities and their numbers, and for each symbol
-- the place of its name.
use Rattle.std.specs.Prelude.{◌≡◌, ◌↔◌, ◌<◌, ◌≤◌, ◌^◌, ℕ, List, [], ◌∷◌, map, length, get_or, Option, None, Some}
use Rattle.std.specs.Prelude.{slice_get, nat_eq, eqb, if◌then◌else◌, Vec}
use Rattle.std.specs.Cmp.Lexicographic.{pointwise}
use Rattle.std.specs.List.{insert}
use Rattle.std.specs.List.Sorted.{IsNonDecreasingBy, IsPartitionPoint}
use Rattle.std.specs.Map.{lookup}
use Rattle.std.specs.Global.{Global}
use Rattle.fol_core.specs.Symbol.{Symbol, IsSymbolName}
use Rattle.fol_core.specs.declared.numbering.Numbered.{Numbered}
use Rattle.fol_core.specs.declared.numbering.Listed.{Listed}
use Rattle.fol_core.specs.declared.numbering.Numbering.TheInside.{Inside}

abbrev pub Name : Type 0
Name = Vec ℕ Global

abbrev pub Entries : Type 0
Entries = List (Name × Vec Numbered Global)

abbrev pub names_of : Entries → List (List ℕ)
names_of entries = map (λ e. e.0.items) entries

abbrev pub symbol_of : List (List ℕ) → Listed → Symbol
symbol_of names s = (get_or names s.name [], s.arity)

abbrev pub symbols_in : List (List ℕ) → List Listed → List Symbol
symbols_in names listed = map (symbol_of names) listed

abbrev pub symbols_of : Inside → List Symbol
symbols_of a = symbols_in (names_of a.names.entries) a.symbols.items

-- the number that stands beside the arity
abbrev pub number_in : List Numbered → ℕ → Option ℕ
number_in [] arity = None
number_in (n ∷ ns) arity = if eqb n.arity arity then Some n.number else number_in ns arity

abbrev pub IsRising : List Numbered → Type 0
IsRising ns = IsNonDecreasingBy (λ n. n.arity) ns

-- the entries below the place take fewer arguments, and those from it on do not
abbrev pub IsPlaceOf : List Numbered → ℕ → ℕ → Type 0
IsPlaceOf ns arity place = IsPartitionPoint (λ n. n.arity < arity) (λ n. arity ≤ n.arity) ns place

-- the new list is the old one with the entry at some place
abbrev pub HasAdded : List Numbered → Numbered → List Numbered → Type 0
HasAdded old n new = (place : ℕ) × (place ≤ length old) × (new ≡ insert old place n)

abbrev pub numbers_or_none : Option (Vec Numbered Global) → List Numbered
numbers_or_none None = []
numbers_or_none (Some v) = v.items

-- the arities of a name, with their numbers
abbrev pub numbers_at : Entries → List ℕ → List Numbered
numbers_at entries name = numbers_or_none (lookup (λ k. pointwise nat_eq name k.items) entries)

abbrev pub number_at : Entries → Symbol → Option ℕ
number_at entries s = number_in (numbers_at entries s.0) s.1

abbrev pub AreNames : List (List ℕ) → Type 0
AreNames [] = Unit {0}
AreNames (w ∷ ws) = IsSymbolName w × AreNames ws

abbrev pub AreWithin : ℕ → List Listed → Type 0
AreWithin len [] = Unit {0}
AreWithin len (s ∷ ss) = (s.name < len) × AreWithin len ss

abbrev pub AreRising : Entries → Type 0
AreRising [] = Unit {0}
AreRising (e ∷ es) = IsRising e.1.items × AreRising es

-- Every name is one, its numbers of arguments rise, every symbol has a name, and the entries know each symbol by its
-- place and no others.
pub record AreNumbered (entries : Entries) (listed : List Listed) : Type 0 where
  pub named : AreNames (names_of entries)
  pub rising : AreRising entries
  pub within : AreWithin (length entries) listed
  pub numbered : (s : Symbol) (n : ℕ) → (number_at entries s ≡ Some n)
      ↔ (slice_get (symbols_in (names_of entries) listed) n ≡ Some s)
  pub few : length listed < 2 ^ 32

abbrev pub IsNumbering : Inside → Type 0
IsNumbering a = AreNumbered a.names.entries a.symbols.items

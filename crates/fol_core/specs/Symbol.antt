-- Symbols: a name, as the bytes of its text, and a number of arguments. Two symbols of one name that take
-- different numbers of arguments are two symbols.
use Rattle.std.specs.Prelude.{◌≡◌, ◌↔◌, ◌⊎◌, ◌≤◌, ◌<◌, ℕ, List, [], ◌∷◌, ◌++◌, length, slice_get, Option, None, Some}
use Rattle.std.specs.Prelude.{refl}
use Rattle.std.specs.List.{All}
use Rattle.std.specs.Coded.{Coded, code_by, coded×, coded_ℕ, coded_list}

abbrev pub Symbol : Type 0
Symbol = List ℕ × ℕ

-- one or more printable ASCII bytes
abbrev pub IsSymbolName : List ℕ → Type 0
IsSymbolName w = (0 < length w) × All (λ c. (32 ≤ c) × (c ≤ 126)) w

abbrev pub IsAt : List Symbol → Symbol → ℕ → Type 0
IsAt list symbol n = slice_get list n ≡ Some symbol

abbrev pub IsNowhere : List Symbol → Symbol → Type 0
IsNowhere list symbol = (n : ℕ) → IsAt list symbol n → ⊥

-- Some number exactly where the symbol stands at that place of the list, and None exactly where it stands
-- nowhere. So it stands at no two places.
pub record IsNumberOf (list : List Symbol) (symbol : Symbol) (number : Option ℕ) : Type 0 where
  pub found : (n : ℕ) → (number ≡ Some n) ↔ IsAt list symbol n
  pub absent : (number ≡ None) ↔ IsNowhere list symbol

-- A symbol of the list leaves it, and another one is put at its end.
abbrev pub Interns : List Symbol → Symbol → List Symbol → Type 0
Interns old symbol new =
    ((n : ℕ) × IsAt old symbol n × (new ≡ old)) ⊎ (IsNowhere old symbol × (new ≡ old ++ symbol ∷ []))

-- The function symbols and the predicate symbols of a problem. A symbol's number is its place in its list, from 0.
pub record SymbolTable : Type 0 where
  pub functions : List Symbol
  pub predicates : List Symbol

abbrev pub symbols_code : Coded (List Symbol)
symbols_code = coded_list (coded× (coded_list coded_ℕ) coded_ℕ)

abbrev pub table_code : Coded SymbolTable
table_code =
    code_by (List Symbol × List Symbol) (coded× symbols_code symbols_code)
    (λ t. (t.functions, t.predicates)) (λ p. record { functions = p.0; predicates = p.1 }) (λ _. refl)

-- Each symbol of the list has a name, and none stands twice.
pub record AreSymbols (list : List Symbol) : Type 0 where
  pub named : (n : ℕ) (symbol : Symbol) → IsAt list symbol n → IsSymbolName symbol.0
  pub once : (m n : ℕ) (symbol : Symbol) → IsAt list symbol m → IsAt list symbol n → m ≡ n

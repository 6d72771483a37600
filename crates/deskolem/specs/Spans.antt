-- The lengths of symbols' spellings and of parameters, as lists and maps hold them.
use Rattle.std.specs.Prelude.{◌≡◌, ℕ, suc, List, slice_get, option_map, unwrap_or}
use Rattle.std.specs.HashMap.{get}
use Rattle.fol_core.specs.Symbol.{Symbol}
use Rattle.free_terms.specs.Free as free
use Rattle.free_terms.specs.View.{name_of}
use Rattle.free_terms.specs.declared.term.Name.{Name}
use Rattle.unify.specs.Index.{is_same}
use Rattle.translation.specs.Counting.{digits_of, symbol_bytes}
use Rattle.translation.specs.Translation.{parameter_of}
use Rattle.deskolem.specs.Numbers.{Numbers, number_in}
use Rattle.deskolem.specs.View.{names_of}

-- the list has the bytes of each function symbol's spelling; one that is not listed has two
abbrev pub AreSymbolLengths : List Symbol → List ℕ → Type 0
AreSymbolLengths fs lengths = (f : ℕ) → unwrap_or (slice_get lengths f) 2 ≡ symbol_bytes fs f

-- the bytes of a Skolem symbol's parameter
abbrev pub span : List Name → free.Name → ℕ
span names x = suc (digits_of (parameter_of 0 (names_of names) x))

-- the map has the bytes of the parameters of these symbols among the names, and no others
abbrev pub AreSpans : List Name → List Name → Numbers → Type 0
AreSpans names some lengths = (x : Name)
    → get is_same lengths x ≡ option_map (λ _. span names (name_of x)) (number_in 0 some (name_of x))

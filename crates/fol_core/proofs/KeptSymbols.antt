-- What every list of symbols keeps.
use Rattle.std.proofs.Common.{◌<◌, ℕ, zero, suc, List, [], ◌∷◌, length, get_or, sym, ◌∙◌, subst, arith}
use Rattle.std.proofs.lemmas.Option.{none-some, same_Some}
use Rattle.std.proofs.lemmas.List.{length-map}
use Rattle.fol_core.specs.Symbol.{Symbol, IsSymbolName, IsAt, AreSymbols}
use Rattle.fol_core.specs.SymbolList.{Entries, names_of, symbols_in, AreNames, AreWithin, AreNumbered}
use Rattle.fol_core.specs.declared.numbering.Listed.{Listed}

name_at : (names : List (List ℕ)) (i : ℕ) → AreNames names → i < length names → IsSymbolName (get_or names i [])
name_at [] i named within = absurd (omega arith)
name_at (w ∷ names) zero named within = named.0
name_at (w ∷ names) (suc i) named within = name_at names i named.1 (omega arith)

symbol_named : (names : List (List ℕ)) (listed : List Listed) (n : ℕ) (symbol : Symbol) → AreNames names → AreWithin (length names) listed → IsAt (symbols_in names listed) symbol n → IsSymbolName symbol.0
symbol_named names [] n symbol named within e = absurd (none-some symbol e)
symbol_named names (s ∷ listed) zero symbol named within e =
    subst (λ (q : Symbol). IsSymbolName q.0) (same_Some _ symbol e) (name_at names s.name named within.0)
symbol_named names (s ∷ listed) (suc n) symbol named within e = symbol_named names listed n symbol named within.1 e

pub are_symbols : (entries : Entries) (listed : List Listed) → AreNumbered entries listed → AreSymbols (symbols_in (names_of entries) listed)
are_symbols entries listed p = record {
  named = λ n symbol at. symbol_named (names_of entries) listed n symbol p.named (subst (λ k. AreWithin k listed) (sym (length-map entries _)) p.within) at;
  once = λ m n symbol at other. same_Some m n (sym ((p.numbered symbol m).1 at) ∙ (p.numbered symbol n).1 other);
}

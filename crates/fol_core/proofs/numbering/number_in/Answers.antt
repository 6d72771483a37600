use Rattle.std.proofs.Common.{◌≡◌, Some, slice_get, rules, sym, arith}
use Rattle.fol_core.proofs.SymbolLists.{entry_at, number_found, number_absent, number_beyond}
use Rattle.fol_core.proofs.numbering.number_in.Goals as goal

pub returns-in-Some : goal.returns-in-Some
returns-in-Some c =
    let at : slice_get c.args.numbers.now c.place_of.result ≡ Some c.in-Some.entry.now = entry_at _ _ _ c.in-Some.ensures.lookup.0 c.in-Some.ensures.lookup.1 in
    let same : c.in-Some.entry.now.arity ≡ c.args.arity = search rules in
    sym (number_found _ _ _ _ (λ k d lt e. let least = c.place_of.ensures.place.0 k d (omega arith) lt in omega (arith, e)) at same)

pub returns-in-Some-2 : goal.returns-in-Some-2
returns-in-Some-2 c =
    let at : slice_get c.args.numbers.now c.place_of.result ≡ Some c.in-Some.entry.now = entry_at _ _ _ c.in-Some.ensures.lookup.0 c.in-Some.ensures.lookup.1 in
    let other : c.in-Some.entry.now.arity ≡ c.args.arity → ⊥ = search rules in
    sym (number_absent _ _ _ _ c.requires c.place_of.ensures.place at other)

pub returns-in-None : goal.returns-in-None
returns-in-None c = sym (number_beyond _ _ _ c.place_of.ensures.place c.in-None.ensures.lookup.3)

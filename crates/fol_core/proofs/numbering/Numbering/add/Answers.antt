use Rattle.std.proofs.Common.{◌≡◌, ◌<◌, ◌++◌, ◌∷◌, [], length, rules, ap, sym, ◌∙◌, subst, arith}
use Rattle.fol_core.specs.Symbol.{IsSymbolName, IsNowhere}
use Rattle.fol_core.specs.SymbolList.{AreNumbered, IsRising, HasAdded, numbers_at, symbols_of, symbols_in, names_of}
use Rattle.fol_core.specs.declared.numbering.Listed.{Listed}
use Rattle.fol_core.proofs.SymbolLists.{pushed, pushed_symbols, rising_at}
use Rattle.fol_core.proofs.numbering.Numbering.add.Goals as goal

pub invariant_of-self-in_err-place : goal.invariant_of-self-in_err-place
invariant_of-self-in_err-place c =
    subst (λ es. AreNumbered es c.reserve.new.self.items) (sym c.in_err-place.ensures.err)
    (subst (λ ls. AreNumbered c.self.inside.names.entries ls) (sym c.reserve.ensures.items) c.self.invariant)

pub invariant_of-self-2 : goal.invariant_of-self-2
invariant_of-self-2 c =
    let last : Listed = record { name = c.in_ok-place.place; arity = c.args.arity } in
    let key : c.args.name.now ≡ c.extend_from_slice.new.self.items = search rules in
    let listed : c.put.new.self.items ≡ c.self.inside.symbols.items ++ last ∷ [] = search rules in
    let numbers : HasAdded (numbers_at c.self.inside.names.entries c.extend_from_slice.new.self.items) (record { arity = c.args.arity; number = length c.self.inside.symbols.items }) c.in_ok-numbers.numbers.items =
    subst (λ n. HasAdded (numbers_at c.self.inside.names.entries c.extend_from_slice.new.self.items) (record { arity = c.args.arity; number = n }) c.in_ok-numbers.numbers.items) c.len-len.ensures.length
    (subst (λ ns. HasAdded ns (record { arity = c.args.arity; number = c.len-len.result }) c.in_ok-numbers.numbers.items) (c.numbers_at-known.ensures ∙ ap (numbers_at c.self.inside.names.entries) key) c.in_ok-numbers.ensures.added) in
    subst (λ ls. AreNumbered c.insert_full.new.self.entries ls) (sym listed)
    (subst (λ es. AreNumbered es (c.self.inside.symbols.items ++ last ∷ [])) (sym c.in_ok-place.ensures.entries)
    (pushed c.self.inside.names.entries c.extend_from_slice.new.self c.in_ok-numbers.numbers c.self.inside.symbols.items last c.self.invariant
    (subst IsSymbolName key c.requires.named) (omega arith)
    (subst (λ w. IsNowhere (symbols_of c.self.inside) (w, c.args.arity)) key (subst (λ list. IsNowhere list (c.args.name.now, c.args.arity)) (sym c.self.view_is) c.requires.is_new))
    numbers c.in_ok-numbers.ensures.rising c.in_ok-place.ensures.index (subst (λ es. last.name < length es) c.in_ok-place.ensures.entries c.in_ok-place.ensures.within)))

pub returns-clause-ok : goal.returns-clause-ok
returns-clause-ok c =
    let last : Listed = record { name = c.in_ok-place.place; arity = c.args.arity } in
    let key : c.extend_from_slice.new.self.items ≡ c.args.name.now = search rules in
    let listed : c.put.new.self.items ≡ c.self.inside.symbols.items ++ last ∷ [] = search rules in
    ap (λ ls. symbols_in (names_of c.insert_full.new.self.entries) ls) listed
    ∙ ap (λ es. symbols_in (names_of es) (c.self.inside.symbols.items ++ last ∷ [])) c.in_ok-place.ensures.entries
    ∙ pushed_symbols c.self.inside.names.entries c.extend_from_slice.new.self c.in_ok-numbers.numbers c.self.inside.symbols.items last c.self.invariant.within c.in_ok-place.ensures.index
    ∙ ap (λ w. symbols_of c.self.inside ++ (w, c.args.arity) ∷ []) key
    ∙ ap (λ list. list ++ (c.args.name.now, c.args.arity) ∷ []) c.self.view_is

pub with_number-requires : goal.with_number-requires
with_number-requires c = subst IsRising (sym c.numbers_at-known.ensures) (rising_at _ c.args.name.now c.self.invariant.rising)

use Rattle.std.proofs.Common.{◌≡◌, Some, None, slice_get, rules, ap, sym, ◌∙◌, subst}
use Rattle.std.specs.Option.{option_map}
use Rattle.fol_core.specs.Symbol.{IsSymbolName}
use Rattle.fol_core.proofs.SymbolLists.{read_name, read_printable, within_at, not_missing}
use Rattle.fol_core.proofs.numbering.Numbering.name.Goals as goal

pub returns-in_err-name-clause-name : goal.returns-in_err-name-clause-name
returns-in_err-name-clause-name c =
    let at : slice_get c.self.inside.symbols.items c.args.number ≡ Some c.in_ok-symbol.symbol.now = search rules in
    let none : slice_get c.self.inside.names.entries c.in_ok-symbol.symbol.now.name ≡ None = search rules in
    absurd (not_missing _ _ (within_at _ _ _ _ c.self.invariant.within at) none)

pub returns-clause-name : goal.returns-clause-name
returns-clause-name c =
    let at : slice_get c.self.inside.symbols.items c.args.number ≡ Some c.in_ok-symbol.symbol.now = search rules in
    let entry : slice_get c.self.inside.names.entries c.in_ok-symbol.symbol.now.name ≡ Some (c.in_ok-name.name.now, c.in_ok-name.field-0-1.now) = search rules in
    ap (λ w. Some w) c.as_slice.ensures.value ∙ sym (read_name _ c.self.inside.symbols.items c.args.number _ _ at entry)
    ∙ ap (λ list. option_map (λ q. q.0) (slice_get list c.args.number)) c.self.view_is

pub returns-clause-printable : goal.returns-clause-printable
returns-clause-printable c =
    let entry : slice_get c.self.inside.names.entries c.in_ok-symbol.symbol.now.name ≡ Some (c.in_ok-name.name.now, c.in_ok-name.field-0-1.now) = search rules in
    subst IsSymbolName (sym c.as_slice.ensures.value) (read_printable _ _ _ c.self.invariant.named entry)

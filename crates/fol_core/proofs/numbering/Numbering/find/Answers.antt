use Rattle.std.proofs.Common.{◌≡◌, ap, sym, ◌∙◌, subst}
use Rattle.fol_core.specs.Symbol.{IsNumberOf}
use Rattle.fol_core.specs.SymbolList.{IsRising, number_in, number_at, symbols_of}
use Rattle.fol_core.proofs.SymbolLists.{number_of, rising_at}
use Rattle.fol_core.proofs.numbering.Numbering.find.Goals as goal

pub returns : goal.returns
returns c =
    let value : c.number_in.result ≡ number_at c.self.inside.names.entries (c.args.name.now, c.args.arity) = c.number_in.ensures ∙ ap (λ ns. number_in ns c.args.arity) c.numbers_at.ensures in
    subst (λ list. IsNumberOf list (c.args.name.now, c.args.arity) c.number_in.result) c.self.view_is
    (subst (λ r. IsNumberOf (symbols_of c.self.inside) (c.args.name.now, c.args.arity) r) (sym value) (number_of _ _ _ (c.self.invariant.numbered (c.args.name.now, c.args.arity))))

pub number_in-requires : goal.number_in-requires
number_in-requires c = subst IsRising (sym c.numbers_at.ensures) (rising_at _ c.args.name.now c.self.invariant.rising)

use Rattle.std.proofs.Common.{Some, sym, subst, ◌∙◌}
use Rattle.fol_core.specs.Symbol.{IsSymbolName}
use Rattle.fof_parse.specs.Grammar.{word}
use Rattle.fof_parse.specs.Reader.Views.{symbol_of}
use Rattle.fof_parse.specs.Reader.Parsing.{IsProperSymbol}
use Rattle.fof_parse.specs.Reader.Building.{Numbers}
use Rattle.fof_parse.proofs.Effects.{no_escapes}
use Rattle.fof_parse.proofs.build.function.Goals as goal

pub intern_function-requires-in-Quoted : goal.intern_function-requires-in-Quoted
intern_function-requires-in-Quoted c =
    subst IsSymbolName (no_escapes c.in-Quoted.word.now (sym c.has_backslash.ensures ∙ c.if-has_backslash.false)) (subst (λ s. IsProperSymbol (symbol_of s)) c.in-Quoted.is c.requires)

pub returns-in_ok-intern_function-in-Quoted-2-clause-number : goal.returns-in_ok-intern_function-in-Quoted-2-clause-number
returns-in_ok-intern_function-in-Quoted-2-clause-number c =
    let number = Some c.in_ok-intern_function-in-Quoted-2.field-0 in
    let old = c.args.symbols.now.functions in
    let new = c.intern_function-in-Quoted.new.self.functions in
    subst (λ s. Numbers (symbol_of s) c.args.arity old new number) (sym c.in-Quoted.is)
    (subst (λ w. Numbers (word w) c.args.arity old new number) (sym (no_escapes c.in-Quoted.word.now (sym c.has_backslash.ensures ∙ c.if-has_backslash.false)))
    (c.in_ok-intern_function-in-Quoted-2.ensures.ok, c.in_ok-intern_function-in-Quoted-2.ensures.number))

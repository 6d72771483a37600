use Rattle.std.proofs.Common.{sym, subst, ◌∙◌}
use Rattle.std.specs.Prelude.{IfOk}
use Rattle.fol_core.specs.View.{formula_of}
use Rattle.fol_core.specs.Symbol.{IsSymbolName}
use Rattle.fof_parse.specs.Grammar.{word}
use Rattle.fof_parse.specs.Grammar.{atom as atom_}
use Rattle.fof_parse.specs.Reader.Views.{symbol_of, raws_of}
use Rattle.fof_parse.specs.Reader.Parsing.{IsProperSymbol}
use Rattle.fof_parse.specs.Reader.Building.{names, state_of, Built}
use Rattle.fof_parse.proofs.Effects.{no_escapes}
use Rattle.fof_parse.proofs.atom.atom.Goals as goal

pub word_atom-requires-in-Quoted-clause-name : goal.word_atom-requires-in-Quoted-clause-name
word_atom-requires-in-Quoted-clause-name c =
    subst IsSymbolName (no_escapes c.in-Quoted.word.now (sym c.has_backslash.ensures ∙ c.if-has_backslash.false)) (subst (λ s. IsProperSymbol (symbol_of s)) c.in-Quoted.is c.requires.symbol)

pub returns-else-has_backslash : goal.returns-else-has_backslash
returns-else-has_backslash c =
    subst (λ s. IfOk c.word_atom-in-Quoted.result (λ a. Built (names c.args.scope.now) (state_of c.args.draft.now) (state_of c.word_atom-in-Quoted.new.draft) (atom_ (symbol_of s) (raws_of c.args.arguments.now)) (formula_of a))) (sym c.in-Quoted.is)
    (subst (λ w. IfOk c.word_atom-in-Quoted.result (λ a. Built (names c.args.scope.now) (state_of c.args.draft.now) (state_of c.word_atom-in-Quoted.new.draft) (atom_ (word w) (raws_of c.args.arguments.now)) (formula_of a)))
    (sym (no_escapes c.in-Quoted.word.now (sym c.has_backslash.ensures ∙ c.if-has_backslash.false))) c.word_atom-in-Quoted.ensures)

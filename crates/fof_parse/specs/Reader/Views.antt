-- What values of the program stand for.
use Rattle.std.specs.Prelude.{ℕ, List, [], ◌∷◌, map}
use Rattle.fof_parse.specs.Grammar as grammar
use Rattle.fof_parse.specs.Reader.Reading as reading
use Rattle.fof_parse.specs.declared.formula.Lead.{Lead}
use Rattle.fof_parse.specs.declared.formula.Lead.TheVariants as leads
use Rattle.fof_parse.specs.declared.term.Symbol.{Symbol}
use Rattle.fof_parse.specs.declared.term.Symbol.TheVariants as symbols
use Rattle.fof_parse.specs.declared.term.Head.{Head}
use Rattle.fof_parse.specs.declared.term.Head.TheVariants as heads
use Rattle.fof_parse.specs.declared.term.Raw.{Raw, fold-Raw}
use Rattle.fof_parse.specs.declared.term.Raw.TheOpen.{Raw-F}
use Rattle.fof_parse.specs.Token as spec
use Rattle.fof_parse.specs.declared.token.Token.{Token}
use Rattle.fof_parse.specs.declared.token.Token.TheVariants.{Lower, Upper, Quoted, Distinct, Dollar, Number, Marked}
use Rattle.fof_parse.specs.declared.token.Token.TheVariants.{Other}

abbrev pub token_view : Token → spec.Token
token_view (Lower w) = spec.lower w.now
token_view (Upper w) = spec.upper w.now
token_view (Quoted w) = spec.quoted (spec.unescaped w.now)
token_view (Distinct w) = spec.distinct w.now
token_view (Dollar w) = spec.dollar w.now
token_view (Number w) = spec.number w.now
token_view (Marked m) = spec.marked m
token_view Other = spec.other

abbrev pub symbol_of : Symbol → grammar.Symbol
symbol_of (symbols.Lower w) = grammar.word w.now
symbol_of (symbols.Quoted w) = grammar.word (spec.unescaped w.now)
symbol_of (symbols.Dollar w) = grammar.defined w.now

abbrev pub head_view : Head → reading.Head
head_view (heads.Symbol f) = reading.symbol_head (symbol_of f)
head_view (heads.Variable w) = reading.variable_head w.now
head_view (heads.Number w) = reading.numeral_head w.now
head_view (heads.Distinct w) = reading.object_head w.now

abbrev pub terms_of_list : List grammar.Term → grammar.Terms
terms_of_list [] = grammar.no_terms
terms_of_list (t ∷ ts) = grammar.terms t (terms_of_list ts)

abbrev pub raw_level : Raw-F grammar.Term → grammar.Term
raw_level (Raw-F.Variable w) = grammar.variable w.now
raw_level (Raw-F.Number w) = grammar.numeral w.now
raw_level (Raw-F.Distinct w) = grammar.object w.now
raw_level (Raw-F.Applied f us) = grammar.applied (symbol_of f) (terms_of_list us)

abbrev pub raw_of : Raw → grammar.Term
raw_of = fold-Raw grammar.Term raw_level

abbrev pub raws_of : List Raw → grammar.Terms
raws_of us = terms_of_list (map raw_of us)

abbrev pub lead_view : Lead → reading.Lead
lead_view leads.Negation = reading.negation_lead
lead_view leads.Group = reading.group_lead
lead_view (leads.Quantifier q) = reading.quantifier_lead q

-- what a token says that is a statement's name
abbrev pub named : Token → List ℕ
named (Lower w) = w.now
named (Quoted w) = spec.unescaped w.now
named (Number w) = w.now
named (Upper w) = []
named (Distinct w) = []
named (Dollar w) = []
named (Marked m) = []
named Other = []

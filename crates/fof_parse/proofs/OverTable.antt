-- What a closed formula over a table's symbols is, in parts.
use Rattle.std.proofs.Common.{◌≡◌, ℕ, suc, ◌≤◌, Bool, true, false, ◌||◌, List, [], map, Option, Some, None, refl, arith}
use Rattle.std.specs.Prelude.{option_to_list, IfSome}
use Rattle.std.specs.List.{All}
use Rattle.std.proofs.lemmas.List.Elements.{All-nil, All-cons, All-append}
use Rattle.fol_core.specs.Syntax.{PlainTerm, bound, param, app, PlainTerms, no_terms, terms, PlainFormula, free_in_term, free_in_terms, free_in, param_in_term, param_in_terms, param_in}
use Rattle.fol_core.specs.Syntax as syntax
use Rattle.fol_core.specs.Symbol.{SymbolTable}
use Rattle.fol_core.specs.Symbol.{Symbol as Known}
use Rattle.fof_parse.specs.Problem.{PlainProblem, Start}
use Rattle.fof_parse.specs.WellFormed.{IsWellFormedTerm, AreWellFormedTerms, IsWellFormed, IsClosedOver, TermUses, TermsUse, UsesSymbols}
use Rattle.fof_parse.specs.Kept.{IsKept}

-- as many quantifiers as stand around are enough
mutual
  free_within_term : (fs : List Known) (n : ℕ) (t : PlainTerm) → IsWellFormedTerm fs n t → free_in_term t ≤ n
  free_within_term fs n (bound k) h = omega (arith, h)
  free_within_term fs n (param k) h = absurd h
  free_within_term fs n (app f us) h = free_within_terms fs n us h.1

  free_within_terms : (fs : List Known) (n : ℕ) (us : PlainTerms) → AreWellFormedTerms fs n us → free_in_terms us ≤ n
  free_within_terms fs n no_terms h = omega arith
  free_within_terms fs n (terms u us) h = omega (arith, free_within_term fs n u h.0, free_within_terms fs n us h.1)

pub free_within : (table : SymbolTable) (n : ℕ) (a : PlainFormula) → IsWellFormed table n a → free_in a ≤ n
free_within table n (syntax.atom p us) h = free_within_terms table.functions n us h.1
free_within table n syntax.verum h = omega arith
free_within table n syntax.falsum h = omega arith
free_within table n (syntax.not a) h = free_within table n a h
free_within table n (syntax.and a b) h = omega (arith, free_within table n a h.0, free_within table n b h.1)
free_within table n (syntax.or a b) h = omega (arith, free_within table n a h.0, free_within table n b h.1)
free_within table n (syntax.imp a b) h = omega (arith, free_within table n a h.0, free_within table n b h.1)
free_within table n (syntax.iff a b) h = omega (arith, free_within table n a h.0, free_within table n b h.1)
free_within table n (syntax.all a) h = omega (arith, free_within table (suc n) a h)
free_within table n (syntax.ex a) h = omega (arith, free_within table (suc n) a h)

neither : (a b : Bool) → a ≡ false → b ≡ false → (a || b) ≡ false
neither false b h k = k
neither true b h k = h

mutual
  no_param_in_term : (fs : List Known) (n q : ℕ) (t : PlainTerm) → IsWellFormedTerm fs n t → param_in_term q t ≡ false
  no_param_in_term fs n q (bound k) h = refl
  no_param_in_term fs n q (param k) h = absurd h
  no_param_in_term fs n q (app f us) h = no_param_in_terms fs n q us h.1

  no_param_in_terms : (fs : List Known) (n q : ℕ) (us : PlainTerms) → AreWellFormedTerms fs n us → param_in_terms q us ≡ false
  no_param_in_terms fs n q no_terms h = refl
  no_param_in_terms fs n q (terms u us) h =
      neither (param_in_term q u) (param_in_terms q us) (no_param_in_term fs n q u h.0) (no_param_in_terms fs n q us h.1)

pub no_param : (table : SymbolTable) (n q : ℕ) (a : PlainFormula) → IsWellFormed table n a → param_in q a ≡ false
no_param table n q (syntax.atom p us) h = no_param_in_terms table.functions n q us h.1
no_param table n q syntax.verum h = refl
no_param table n q syntax.falsum h = refl
no_param table n q (syntax.not a) h = no_param table n q a h
no_param table n q (syntax.and a b) h = neither (param_in q a) (param_in q b) (no_param table n q a h.0) (no_param table n q b h.1)
no_param table n q (syntax.or a b) h = neither (param_in q a) (param_in q b) (no_param table n q a h.0) (no_param table n q b h.1)
no_param table n q (syntax.imp a b) h = neither (param_in q a) (param_in q b) (no_param table n q a h.0) (no_param table n q b h.1)
no_param table n q (syntax.iff a b) h = neither (param_in q a) (param_in q b) (no_param table n q a h.0) (no_param table n q b h.1)
no_param table n q (syntax.all a) h = no_param table (suc n) q a h
no_param table n q (syntax.ex a) h = no_param table (suc n) q a h

mutual
  term_symbols : (fs : List Known) (n : ℕ) (t : PlainTerm) → IsWellFormedTerm fs n t → TermUses fs t
  term_symbols fs n (bound k) h = tt
  term_symbols fs n (param k) h = absurd h
  term_symbols fs n (app f us) h = (h.0, terms_symbols fs n us h.1)

  terms_symbols : (fs : List Known) (n : ℕ) (us : PlainTerms) → AreWellFormedTerms fs n us → TermsUse fs us
  terms_symbols fs n no_terms h = tt
  terms_symbols fs n (terms u us) h = (term_symbols fs n u h.0, terms_symbols fs n us h.1)

pub symbols_used : (table : SymbolTable) (n : ℕ) (a : PlainFormula) → IsWellFormed table n a → UsesSymbols table a
symbols_used table n (syntax.atom p us) h = (h.0, terms_symbols table.functions n us h.1)
symbols_used table n syntax.verum h = tt
symbols_used table n syntax.falsum h = tt
symbols_used table n (syntax.not a) h = symbols_used table n a h
symbols_used table n (syntax.and a b) h = (symbols_used table n a h.0, symbols_used table n b h.1)
symbols_used table n (syntax.or a b) h = (symbols_used table n a h.0, symbols_used table n b h.1)
symbols_used table n (syntax.imp a b) h = (symbols_used table n a h.0, symbols_used table n b h.1)
symbols_used table n (syntax.iff a b) h = (symbols_used table n a h.0, symbols_used table n b h.1)
symbols_used table n (syntax.all a) h = symbols_used table (suc n) a h
symbols_used table n (syntax.ex a) h = symbols_used table (suc n) a h

negated_closed : (table : SymbolTable) (o : Option PlainFormula) → IfSome o (IsClosedOver table) → All (IsClosedOver table) (map syntax.not (option_to_list o))
negated_closed table None h = All-nil (IsClosedOver table)
negated_closed table (Some a) h = All-cons (IsClosedOver table) (syntax.not a) [] h (All-nil (IsClosedOver table))

pub start_closed : (problem : PlainProblem) → IsKept problem → All (IsClosedOver problem.symbols) (Start problem)
start_closed problem k =
    All-append (IsClosedOver problem.symbols) problem.axioms (map syntax.not (option_to_list problem.conjecture)) k.axioms
    (negated_closed problem.symbols problem.conjecture k.conjecture)

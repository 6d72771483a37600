-- The plain trees that the program's free terms and formulas stand for.
use Rattle.std.specs.Prelude.{List, map, Option, Some, None}
use Rattle.fol_core.specs.View.{formula_by}
use Rattle.fol_core.specs.declared.formula.Formula.{Formula}
use Rattle.free_terms.specs.Free as free
use Rattle.free_terms.specs.Free.{FreeFormula}
use Rattle.free_terms.specs.declared.term.Name.{Name}
use Rattle.free_terms.specs.declared.term.FTerm.{FTerm, fold-FTerm}
use Rattle.free_terms.specs.declared.term.FTerm.TheOpen.{FTerm-F}
use Rattle.free_terms.specs.declared.fills.Fill.{Fill}
use Rattle.free_terms.specs.declared.fills.Fill.TheVariants as fill

abbrev pub name_of : Name → free.Name
name_of x = record { segment = x.segment; count = x.count }

-- one level, with the plain tree of each part in its place
abbrev pub term_level : FTerm-F free.FreeTerm → free.FreeTerm
term_level (FTerm-F.Bound n) = free.bound n
term_level (FTerm-F.Meta x) = free.metavar (name_of x)
term_level (FTerm-F.Skolem x us) = free.skolem (name_of x) (free.terms_of_list us)
term_level (FTerm-F.App f us) = free.app f (free.terms_of_list us)

abbrev pub term_of : FTerm → free.FreeTerm
term_of = fold-FTerm free.FreeTerm term_level

abbrev pub terms_of : List FTerm → free.FreeTerms
terms_of us = free.terms_of_list (map term_of us)

-- a formula over terms with metavariables and Skolem terms
abbrev pub FreeTermFormula : Type 0
FreeTermFormula = Formula (List FTerm)

abbrev pub formula_of : FreeTermFormula → FreeFormula
formula_of = formula_by terms_of

abbrev pub formulas_of : List FreeTermFormula → List FreeFormula
formulas_of fs = map formula_of fs

abbrev pub fill_of : Fill → Option free.FreeTerm
fill_of (fill.Given t) = Some (term_of t)
fill_of fill.Unused = None

abbrev pub fills_of : List Fill → List (Option free.FreeTerm)
fills_of fs = map fill_of fs

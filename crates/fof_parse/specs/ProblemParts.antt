-- The plain problem of the program's symbols, statements and formulas.
use Rattle.std.specs.Prelude.{List, Option, map, option_map}
use Rattle.fol_core.specs.Symbol.{SymbolTable}
use Rattle.fol_core.specs.View.{TermFormula, formula_of, formulas_of}
use Rattle.fof_parse.specs.Problem.{Label, PlainProblem}
use Rattle.fof_parse.specs.declared.problem.Statement.{Statement}

abbrev pub plain_label : Statement → Label
plain_label st = record { name = st.name; role = st.role }

abbrev pub plain_parts : SymbolTable → List Statement → List TermFormula → Option TermFormula → PlainProblem
plain_parts symbols statements axioms conjecture =
    record {
      symbols = symbols;
      labels = map plain_label statements;
      axioms = formulas_of axioms;
      conjecture = option_map formula_of conjecture;
    }

-- One statement more.
use Rattle.std.specs.Prelude.{◌≡◌, ◌||◌, Bool, true, false, List, [], ◌∷◌, ◌++◌, Some}
use Rattle.fol_core.specs.Syntax.{PlainFormula}
use Rattle.fof_parse.specs.Token.{Placed}
use Rattle.fof_parse.specs.Grammar.{Statement}
use Rattle.fof_parse.specs.Problem.{PlainProblem, Label, role_of, is_conjecture, functions_in, predicates_in}
use Rattle.fof_parse.specs.Problem.{InternsAll, IsPlain}
use Rattle.fof_parse.specs.Refusal.{IsGood, first_of, behind_first}

-- where a formula goes
abbrev pub Places : Bool → PlainFormula → PlainProblem → PlainProblem → Type 0
Places false a old new = (new.axioms ≡ old.axioms ++ a ∷ []) × (new.conjecture ≡ old.conjecture)
Places true a old new = (new.axioms ≡ old.axioms) × (new.conjecture ≡ Some a)

-- The statement's symbols, its label and its formula are put into the problem.
pub record Adds (old : PlainProblem) (st : Statement) (new : PlainProblem) : Type 0 where
  pub functions : InternsAll old.symbols.functions (functions_in st.formula) new.symbols.functions
  pub predicates : InternsAll old.symbols.predicates (predicates_in st.formula) new.symbols.predicates
  pub label : Label
  pub name : label.name ≡ st.name
  pub role : role_of st.role ≡ Some label.role
  pub labels : new.labels ≡ old.labels ++ label ∷ []
  pub plain : PlainFormula
  pub is_plain : IsPlain new.symbols [] st.formula plain
  pub placed : Places (is_conjecture st) plain old new

-- The text begins with these statements, all without a fault, and this is left of it then.
abbrev pub Leads : Bool → List Placed → List Statement → Bool → List Placed → Type 0
Leads had ts [] had' rest = (had' ≡ had) × (rest ≡ ts)
Leads had [] (st ∷ sts) had' rest = ⊥
Leads had (t ∷ ts) (st ∷ sts) had' rest =
    IsGood had (first_of (t ∷ ts)) st × Leads (had || is_conjecture st) (behind_first (t ∷ ts)) sts had' rest

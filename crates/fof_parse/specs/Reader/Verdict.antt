-- What the program finds of a whole statement.
use Rattle.std.specs.Prelude.{◌≡◌, ℕ, Bool, not, ◌&&◌, List, [], Option, Some}
use Rattle.std.specs.Option.{is_some}
use Rattle.fol_core.specs.Syntax.{PlainFormula}
use Rattle.fof_parse.specs.declared.refusal.BadKind.{BadKind}
use Rattle.fof_parse.specs.declared.refusal.BadKind.TheVariants as kinds
use Rattle.fof_parse.specs.declared.statement.Role.{Role}
use Rattle.fof_parse.specs.Token.{Token}
use Rattle.fof_parse.specs.Grammar.{Statement, IsStatement}
use Rattle.fof_parse.specs.Problem.{role_of, is_conjecture_role}
use Rattle.fof_parse.specs.Refusal.{or_else, fault_if, IsGood}
use Rattle.fof_parse.specs.Reader.Building.{State, Built}

-- The tokens are a statement of this name and this role, whose formula is built.
pub record StatementRead (ts : List Token) (old new : State) (w r : List ℕ) (a : PlainFormula) : Type 0 where
  pub statement : Statement
  pub is : IsStatement ts statement
  pub name : statement.name ≡ w
  pub role : statement.role ≡ r
  pub built : Built [] old new statement.formula a

abbrev pub IsNoStatement : List Token → Type 0
IsNoStatement ts = (st : Statement) → IsStatement ts st → ⊥

-- the first fault, where `k` is the first of the formula's elements
abbrev pub judged : Option BadKind → Bool → Option Role → Bool → Option BadKind
judged k closed role had =
    or_else k (or_else (fault_if (not (is_some role)) kinds.Role)
    (or_else (fault_if (not closed) kinds.FreeVariable)
    (fault_if (had && is_conjecture_role role) kinds.SecondConjecture)))

-- The tokens are a statement without a fault, of this name and this role, whose formula is built.
pub record GoodRead (had : Bool) (ts : List Token) (old new : State) (w : List ℕ) (r : Role)
    (a : PlainFormula) : Type 0 where
  pub statement : Statement
  pub good : IsGood had ts statement
  pub name : statement.name ≡ w
  pub role : role_of statement.role ≡ Some r
  pub built : Built [] old new statement.formula a

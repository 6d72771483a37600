-- The facts of a problem have one proof each.
use Rattle.std.specs.Prelude.{ℕ, suc, List, Option, Some, None, slice_get}
use Rattle.std.specs.Coded.{×_prop, Π_prop, →_prop, Unit-prop, le_prop, Coded-set, coded_ℕ}
use Rattle.std.specs.Option.{MatchOption-prop}
use Rattle.std.specs.List.{All}
use Rattle.fol_core.specs.Syntax.{PlainTerm, bound, param, app, PlainTerms, no_terms, terms, PlainFormula}
use Rattle.fol_core.specs.Syntax as syntax
use Rattle.fol_core.specs.Symbol.{SymbolTable, IsSymbolName}
use Rattle.fol_core.specs.Symbol.{Symbol as Known}
use Rattle.fol_core.specs.Spelling.{HasArity, count}
use Rattle.fof_parse.specs.Problem.{PlainProblem}
use Rattle.fof_parse.specs.WellFormed.{IsWellFormedTerm, AreWellFormedTerms, IsWellFormed, IsClosedOver}
use Rattle.fof_parse.specs.Kept.{IsKept}

HasArity-prop : (o : Option Known) (n : ℕ) → IsProp (HasArity o n)
HasArity-prop None n = λ x y. absurd x
HasArity-prop (Some s) n = Coded-set coded_ℕ s.1 n

mutual
  IsWellFormedTerm-prop : (fs : List Known) (n : ℕ) (t : PlainTerm) → IsProp (IsWellFormedTerm fs n t)
  IsWellFormedTerm-prop fs n (bound k) = le_prop
  IsWellFormedTerm-prop fs n (param k) = λ x y. absurd x
  IsWellFormedTerm-prop fs n (app f us) =
      ×_prop (HasArity-prop (slice_get fs f) (count us)) (AreWellFormedTerms-prop fs n us)

  AreWellFormedTerms-prop : (fs : List Known) (n : ℕ) (us : PlainTerms) → IsProp (AreWellFormedTerms fs n us)
  AreWellFormedTerms-prop fs n no_terms = Unit-prop
  AreWellFormedTerms-prop fs n (terms u us) = ×_prop (IsWellFormedTerm-prop fs n u) (AreWellFormedTerms-prop fs n us)

IsWellFormed-prop : (table : SymbolTable) (n : ℕ) (a : PlainFormula) → IsProp (IsWellFormed table n a)
IsWellFormed-prop table n (syntax.atom p us) =
    ×_prop (HasArity-prop (slice_get table.predicates p) (count us)) (AreWellFormedTerms-prop table.functions n us)
IsWellFormed-prop table n syntax.verum = Unit-prop
IsWellFormed-prop table n syntax.falsum = Unit-prop
IsWellFormed-prop table n (syntax.not a) = IsWellFormed-prop table n a
IsWellFormed-prop table n (syntax.and a b) = ×_prop (IsWellFormed-prop table n a) (IsWellFormed-prop table n b)
IsWellFormed-prop table n (syntax.or a b) = ×_prop (IsWellFormed-prop table n a) (IsWellFormed-prop table n b)
IsWellFormed-prop table n (syntax.imp a b) = ×_prop (IsWellFormed-prop table n a) (IsWellFormed-prop table n b)
IsWellFormed-prop table n (syntax.iff a b) = ×_prop (IsWellFormed-prop table n a) (IsWellFormed-prop table n b)
IsWellFormed-prop table n (syntax.all a) = IsWellFormed-prop table (suc n) a
IsWellFormed-prop table n (syntax.ex a) = IsWellFormed-prop table (suc n) a

All-prop : {X : Type 0} (P : X → Type 0) (xs : List X) → ((x : X) → IsProp (P x)) → IsProp (All P xs)
All-prop P xs h = Π_prop (λ k. Π_prop (λ d. →_prop (h _)))

IsSymbolName-prop : (w : List ℕ) → IsProp (IsSymbolName w)
IsSymbolName-prop w = ×_prop le_prop (All-prop _ w (λ c. ×_prop (le_prop {n = 32} {m = c}) (le_prop {n = c} {m = 126})))

pub IsKept-prop : (problem : PlainProblem) → IsProp (IsKept problem)
IsKept-prop problem h k =
    let closed = IsWellFormed-prop problem.symbols 0 in
    let named = All-prop (λ l. IsSymbolName l.name) problem.labels (λ l. IsSymbolName-prop l.name) in
    let axioms = All-prop (IsClosedOver problem.symbols) problem.axioms closed in
    let conjecture = MatchOption-prop problem.conjecture _ (IsClosedOver problem.symbols) Unit-prop closed in
    λ i. record {
      few_labels = le_prop h.few_labels k.few_labels i;
      few_axioms = le_prop h.few_axioms k.few_axioms i;
      few_functions = le_prop h.few_functions k.few_functions i;
      few_predicates = le_prop h.few_predicates k.few_predicates i;
      named = named h.named k.named i;
      axioms = axioms h.axioms k.axioms i;
      conjecture = conjecture h.conjecture k.conjecture i;
      axiom_labels = Coded-set coded_ℕ _ _ h.axiom_labels k.axiom_labels i;
      conjecture_labels = Coded-set coded_ℕ _ _ h.conjecture_labels k.conjecture_labels i;
    }

-- The definitions on small examples.
use Rattle.std.proofs.Common.{◌≡◌, ◌≤◌, ℕ, Bool, true, false, List, [], ◌∷◌, ◌++◌, replicate, codes, Option, Some, None, refl, arith}
use Rattle.std.specs.List.{All}
use Rattle.std.proofs.lemmas.List.Elements.{All-nil, All-cons}
use Rattle.fol_core.specs.Syntax.{PlainFormula}
use Rattle.fol_core.specs.Syntax as syntax
use Rattle.fol_core.specs.Symbol.{SymbolTable, IsSymbolName}
use Rattle.fof_parse.specs.declared.statement.Role.TheVariants.{Axiom, Conjecture}
use Rattle.fof_parse.specs.declared.refusal.BadKind.{BadKind}
use Rattle.fof_parse.specs.declared.refusal.BadKind.TheVariants as kinds
use Rattle.fof_parse.specs.declared.token.Operator.TheVariants.{And, Or}
use Rattle.fof_parse.specs.declared.token.Quantifier.TheVariants as quantifiers
use Rattle.fof_parse.specs.declared.token.Equality.TheVariants.{Equal}
use Rattle.fof_parse.specs.declared.token.Bracket.TheVariants.{Round, Square}
use Rattle.fof_parse.specs.declared.token.Mark.TheVariants.{Open, Close, Comma, Stop, Colon, Not, Quantifier, Binary, Equality}
use Rattle.fof_parse.specs.Token.{Token, lower, upper, dollar, number, distinct, marked, unescaped}
use Rattle.fof_parse.specs.Grammar.{Statement}
use Rattle.fof_parse.specs.Problem.{PlainProblem, Label}
use Rattle.fof_parse.specs.WellFormed.{IsClosedOver}
use Rattle.fof_parse.specs.Kept.{IsKept}
use Rattle.fof_parse.specs.Refusal.{early_fault, late_fault}
use Rattle.fof_parse.specs.Reader.Reading.{heading_at, statement_within, term_within, unit_within}

-- the tokens of a statement
abbrev statement : List Token → List Token → List Token
statement role formula =
    lower (codes "fof") ∷ marked (Open Round) ∷ lower (codes "a") ∷ marked Comma ∷ role ++ marked Comma ∷ formula ++ marked (Close Round) ∷ marked Stop ∷ []

abbrev applied_to : List ℕ → Token → List Token
applied_to p t = lower p ∷ marked (Open Round) ∷ t ∷ marked (Close Round) ∷ []

abbrev refusal : Bool → Option Statement → Option BadKind
refusal had None = Some kinds.Syntax
refusal had (Some st) = late_fault had st

-- the refusal of an axiom with this formula, by as many steps as it has tokens and more
abbrev fault_of : List Token → Option BadKind
fault_of ts = refusal false (statement_within 20 (statement (lower (codes "axiom") ∷ []) ts))

-- `$false` is no fault as a whole atom
false_row : fault_of (dollar (codes "$false") ∷ []) ≡ None
unfolding statement_within heading_at unit_within term_within
false_row = refl

-- `![X]:p(X) & q(X)`: the scope of the quantifier ends before `&`
scope_row : fault_of (marked (Quantifier quantifiers.All) ∷ marked (Open Square) ∷ upper (codes "X") ∷ marked (Close Square) ∷ marked Colon
    ∷ applied_to (codes "p") (upper (codes "X")) ++ marked (Binary And) ∷ applied_to (codes "q") (upper (codes "X"))) ≡ Some kinds.FreeVariable
unfolding statement_within heading_at unit_within term_within
scope_row = refl

-- no operators are mixed
mixed_row : fault_of (lower (codes "p") ∷ marked (Binary And) ∷ lower (codes "q") ∷ marked (Binary Or) ∷ lower (codes "r") ∷ []) ≡ Some kinds.Syntax
unfolding statement_within heading_at unit_within term_within
mixed_row = refl

equality_row : fault_of (lower (codes "a") ∷ marked (Equality Equal) ∷ lower (codes "b") ∷ []) ≡ Some kinds.Equality
unfolding statement_within heading_at unit_within term_within
equality_row = refl

number_row : fault_of (applied_to (codes "p") (number (codes "1"))) ≡ Some kinds.Number
unfolding statement_within heading_at unit_within term_within
number_row = refl

distinct_row : fault_of (applied_to (codes "p") (distinct (codes "x"))) ≡ Some kinds.Distinct
unfolding statement_within heading_at unit_within term_within
distinct_row = refl

dollar_row : fault_of (dollar (codes "$less") ∷ marked (Open Round) ∷ lower (codes "a") ∷ marked Comma ∷ lower (codes "b") ∷ marked (Close Round) ∷ []) ≡ Some kinds.Dollar
unfolding statement_within heading_at unit_within term_within
dollar_row = refl

role_row : refusal false (statement_within 20 (statement (lower (codes "type") ∷ []) (lower (codes "p") ∷ []))) ≡ Some kinds.Role
unfolding statement_within heading_at unit_within term_within
role_row = refl

second_row : refusal true (statement_within 20 (statement (lower (codes "conjecture") ∷ []) (lower (codes "q") ∷ []))) ≡ Some kinds.SecondConjecture
unfolding statement_within heading_at unit_within term_within
second_row = refl

include_row : early_fault (lower (codes "include") ∷ marked (Open Round) ∷ []) ≡ Some kinds.Include
include_row = refl

language_row : early_fault (lower (codes "cnf") ∷ marked (Open Round) ∷ []) ≡ Some kinds.Language
language_row = refl

abbrev negations : ℕ → List Token
negations n = statement (lower (codes "axiom") ∷ []) (replicate n (marked Not) ++ lower (codes "p") ∷ [])

shallow_row : early_fault (negations 499) ≡ None
shallow_row = refl

deep_row : early_fault (negations 500) ≡ Some kinds.TooDeep
deep_row = refl

-- an escaped quote and an escaped backslash
escape_row : unescaped (codes "Bea O\\'Hara \\\\") ≡ codes "Bea O'Hara \\"
escape_row = refl

-- a constant `c`, and a predicate symbol `p` with one argument
abbrev table : SymbolTable
table = record { functions = (codes "c", 0) ∷ []; predicates = (codes "p", 1) ∷ [] }

abbrev of_variable : PlainFormula
of_variable = syntax.atom 0 (syntax.terms (syntax.bound 0) syntax.no_terms)

abbrev of_constant : PlainFormula
of_constant = syntax.atom 0 (syntax.terms (syntax.app 0 syntax.no_terms) syntax.no_terms)

-- `![X]:p(X)` is closed
closed_row : IsClosedOver table (syntax.all of_variable)
closed_row = (refl, (omega arith, tt))

-- `p(X)` alone is not, nor is `p` without an argument a formula of the table
free_row : IsClosedOver table of_variable → ⊥
free_row h = omega (arith, h.1.0)

arity_row : IsClosedOver table (syntax.atom 0 syntax.no_terms) → ⊥
arity_row h = omega (arith, h.0)

-- `fof(a,axiom,p(c)).` and `fof(b,conjecture,![X]:p(X)).`
abbrev label_a : Label
label_a = record { name = codes "a"; role = Axiom }

abbrev label_b : Label
label_b = record { name = codes "b"; role = Conjecture }

abbrev two_statements : PlainProblem
two_statements = record { symbols = table; labels = label_a ∷ label_b ∷ []; axioms = of_constant ∷ []; conjecture = Some (syntax.all of_variable) }

one_byte : (c : ℕ) → 32 ≤ c → c ≤ 126 → IsSymbolName (c ∷ [])
one_byte c low high = (omega arith, All-cons (λ c. (32 ≤ c) × (c ≤ 126)) c [] (low, high) (All-nil (λ c. (32 ≤ c) × (c ≤ 126))))

HasName : Label → Type 0
HasName l = IsSymbolName l.name

both_named : All HasName (label_a ∷ label_b ∷ [])
unfolding HasName
both_named = All-cons HasName label_a (label_b ∷ []) (one_byte 97 (omega arith) (omega arith)) (All-cons HasName label_b [] (one_byte 98 (omega arith) (omega arith)) (All-nil HasName))

kept_row : IsKept two_statements
unfolding HasName
kept_row = record {
  few_labels = omega arith;
  few_axioms = omega arith;
  few_functions = omega arith;
  few_predicates = omega arith;
  named = both_named;
  axioms = All-cons (IsClosedOver table) of_constant [] (refl, ((refl, tt), tt)) (All-nil (IsClosedOver table));
  conjecture = closed_row;
  axiom_labels = refl;
  conjecture_labels = refl;
}

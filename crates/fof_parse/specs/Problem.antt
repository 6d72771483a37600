-- What a statement says: its symbols, its formula, and its place in the problem.
use Rattle.std.specs.Prelude.{◌≡◌, ℕ, suc, Bool, true, false, not, ◌&&◌, if◌then◌else◌, List, [], ◌∷◌, ◌++◌, length}
use Rattle.std.specs.Prelude.{map, filter, codes, Option, Some, None, option_to_list}
use Rattle.std.specs.Option.{is_some}
use Rattle.std.specs.List.{flat_map}
use Rattle.std.specs.Str.{bytes_eq}
use Rattle.fol_core.specs.Syntax.{PlainTerm, PlainTerms, PlainFormula}
use Rattle.fol_core.specs.Syntax as syntax
use Rattle.fol_core.specs.Symbol.{Symbol as Known, SymbolTable, IsAt, Interns}
use Rattle.fof_parse.specs.declared.token.Operator.{Operator}
use Rattle.fof_parse.specs.declared.token.Operator.TheVariants.{Implies, ImpliedBy, Equivalent, NotEquivalent, NotAnd}
use Rattle.fof_parse.specs.declared.token.Operator.TheVariants.{NotOr, And, Or}
use Rattle.fof_parse.specs.declared.token.Quantifier.{Quantifier as Quantor}
use Rattle.fof_parse.specs.declared.token.Quantifier.TheVariants as quantifiers
use Rattle.fof_parse.specs.declared.statement.Role.{Role}
use Rattle.fof_parse.specs.declared.statement.Role.TheVariants.{Axiom, Hypothesis, Definition, Assumption, Lemma}
use Rattle.fof_parse.specs.declared.statement.Role.TheVariants.{Theorem, Corollary, Plain, NegatedConjecture}
use Rattle.fof_parse.specs.declared.statement.Role.TheVariants.{Conjecture}
use Rattle.fof_parse.specs.Grammar.{Symbol, word, defined, Term, variable, numeral, object, applied, Terms, no_terms}
use Rattle.fof_parse.specs.Grammar.{terms, Sentence, atom, equality, negation, binary, quantified, Statement}

-- Roles

abbrev pub role_of : List ℕ → Option Role
role_of w =
    if bytes_eq w (codes "axiom") then Some Axiom
    else (if bytes_eq w (codes "hypothesis") then Some Hypothesis
    else (if bytes_eq w (codes "definition") then Some Definition
    else (if bytes_eq w (codes "assumption") then Some Assumption
    else (if bytes_eq w (codes "lemma") then Some Lemma
    else (if bytes_eq w (codes "theorem") then Some Theorem
    else (if bytes_eq w (codes "corollary") then Some Corollary
    else (if bytes_eq w (codes "plain") then Some Plain
    else (if bytes_eq w (codes "negated_conjecture") then Some NegatedConjecture
    else (if bytes_eq w (codes "conjecture") then Some Conjecture else None)))))))))

abbrev pub is_conjecture_role : Option Role → Bool
is_conjecture_role (Some Conjecture) = true
is_conjecture_role _ = false

-- Every other statement is an axiom.
abbrev pub is_conjecture : Statement → Bool
is_conjecture st = is_conjecture_role (role_of st.role)

-- Variables

-- The quantifier that binds the variable, where these variables are in scope, the outermost quantifier's first: the
-- last one of that name, counted from the innermost, 0.
abbrev pub later_or : Option ℕ → Option ℕ → Option ℕ
later_or None m = m
later_or (Some n) m = Some n

abbrev pub binder : List (List ℕ) → List ℕ → Option ℕ
binder [] w = None
binder (v ∷ vs) w = later_or (binder vs w) (if bytes_eq v w then Some (length vs) else None)

-- whether each variable stands in the scope of a quantifier that names it
abbrev mutual
  pub is_closed_term : List (List ℕ) → Term → Bool
  is_closed_term vs (variable w) = is_some (binder vs w)
  is_closed_term vs (numeral w) = true
  is_closed_term vs (object w) = true
  is_closed_term vs (applied f us) = are_closed_terms vs us

  pub are_closed_terms : List (List ℕ) → Terms → Bool
  are_closed_terms vs no_terms = true
  are_closed_terms vs (terms u us) = is_closed_term vs u && are_closed_terms vs us

abbrev pub is_closed : List (List ℕ) → Sentence → Bool
is_closed vs (atom p us) = are_closed_terms vs us
is_closed vs (equality e t u) = is_closed_term vs t && is_closed_term vs u
is_closed vs (negation s) = is_closed vs s
is_closed vs (binary op s t) = is_closed vs s && is_closed vs t
is_closed vs (quantified q w s) = is_closed (vs ++ w ∷ []) s

-- Symbols

abbrev pub count : Terms → ℕ
count no_terms = 0
count (terms u us) = suc (count us)

-- A symbol is what it says, with its number of arguments. A word with `$` is none.
abbrev pub known : Symbol → Terms → List Known
known (word w) us = (w, count us) ∷ []
known (defined w) us = []

-- the function symbols, as they stand from left to right
abbrev mutual
  pub functions_in_term : Term → List Known
  functions_in_term (variable w) = []
  functions_in_term (numeral w) = []
  functions_in_term (object w) = []
  functions_in_term (applied f us) = known f us ++ functions_in_terms us

  pub functions_in_terms : Terms → List Known
  functions_in_terms no_terms = []
  functions_in_terms (terms u us) = functions_in_term u ++ functions_in_terms us

abbrev pub functions_in : Sentence → List Known
functions_in (atom p us) = functions_in_terms us
functions_in (equality e t u) = functions_in_term t ++ functions_in_term u
functions_in (negation s) = functions_in s
functions_in (binary op s t) = functions_in s ++ functions_in t
functions_in (quantified q w s) = functions_in s

-- the predicate symbols
abbrev pub predicates_in : Sentence → List Known
predicates_in (atom p us) = known p us
predicates_in (equality e t u) = []
predicates_in (negation s) = predicates_in s
predicates_in (binary op s t) = predicates_in s ++ predicates_in t
predicates_in (quantified q w s) = predicates_in s

-- The symbols are put at the end of the list one after the other, each where it is not there yet. So each stands there
-- once, in the order in which they first come.
abbrev pub InternsAll : List Known → List Known → List Known → Type 0
InternsAll old [] new = new ≡ old
InternsAll old (s ∷ ss) new = (mid : List Known) × Interns old s mid × InternsAll mid ss new

-- Formulas

abbrev pub plain_binary : Operator → PlainFormula → PlainFormula → PlainFormula
plain_binary Implies a b = syntax.imp a b
plain_binary ImpliedBy a b = syntax.imp b a
plain_binary Equivalent a b = syntax.iff a b
plain_binary NotEquivalent a b = syntax.not (syntax.iff a b)
plain_binary NotAnd a b = syntax.not (syntax.and a b)
plain_binary NotOr a b = syntax.not (syntax.or a b)
plain_binary And a b = syntax.and a b
plain_binary Or a b = syntax.or a b

abbrev pub plain_quantified : Quantor → PlainFormula → PlainFormula
plain_quantified quantifiers.All a = syntax.all a
plain_quantified quantifiers.Some a = syntax.ex a

-- The term, with each symbol as its number in the list, and each variable as its quantifier. A number, a distinct
-- object and a word with `$` are none.
abbrev mutual
  pub IsPlainTerm : List Known → List (List ℕ) → Term → PlainTerm → Type 0
  IsPlainTerm fs vs (variable w) t = (n : ℕ) × (binder vs w ≡ Some n) × (t ≡ syntax.bound n)
  IsPlainTerm fs vs (numeral w) t = ⊥
  IsPlainTerm fs vs (object w) t = ⊥
  IsPlainTerm fs vs (applied (defined w) us) t = ⊥
  IsPlainTerm fs vs (applied (word w) us) t =
      (n : ℕ) × (ts : PlainTerms) × IsAt fs (w, count us) n × ArePlainTerms fs vs us ts × (t ≡ syntax.app n ts)

  pub ArePlainTerms : List Known → List (List ℕ) → Terms → PlainTerms → Type 0
  ArePlainTerms fs vs no_terms ts = ts ≡ syntax.no_terms
  ArePlainTerms fs vs (terms u us) ts =
      (t : PlainTerm) × (rest : PlainTerms) × IsPlainTerm fs vs u t × ArePlainTerms fs vs us rest
      × (ts ≡ syntax.terms t rest)

-- `$true` and `$false` as whole atoms
abbrev pub truth : List ℕ → Terms → Option PlainFormula
truth w no_terms =
    if bytes_eq w (codes "$true") then Some syntax.verum
    else (if bytes_eq w (codes "$false") then Some syntax.falsum else None)
truth w (terms u us) = None

abbrev pub IsPlainAtom : SymbolTable → List (List ℕ) → Symbol → Terms → PlainFormula → Type 0
IsPlainAtom table vs (word w) us a = (n : ℕ) × (ts : PlainTerms) × IsAt table.predicates (w, count us) n
    × ArePlainTerms table.functions vs us ts × (a ≡ syntax.atom n ts)
IsPlainAtom table vs (defined w) us a = truth w us ≡ Some a

-- the formula, where these variables are in scope
abbrev pub IsPlain : SymbolTable → List (List ℕ) → Sentence → PlainFormula → Type 0
IsPlain table vs (atom p us) a = IsPlainAtom table vs p us a
IsPlain table vs (equality e t u) a = ⊥
IsPlain table vs (negation s) a = (b : PlainFormula) × IsPlain table vs s b × (a ≡ syntax.not b)
IsPlain table vs (binary op s t) a =
    (b c : PlainFormula) × IsPlain table vs s b × IsPlain table vs t c × (a ≡ plain_binary op b c)
IsPlain table vs (quantified q w s) a =
    (b : PlainFormula) × IsPlain table (vs ++ w ∷ []) s b × (a ≡ plain_quantified q b)

-- Problems

-- a statement's name and role
pub record Label : Type 0 where
  pub name : List ℕ
  pub role : Role

pub record PlainProblem : Type 0 where
  pub symbols : SymbolTable
  pub labels : List Label
  pub axioms : List PlainFormula
  pub conjecture : Option PlainFormula

abbrev pub empty_problem : PlainProblem
empty_problem =
    record { symbols = record { functions = []; predicates = [] }; labels = []; axioms = []; conjecture = None }

abbrev pub ArePlain : SymbolTable → List Sentence → List PlainFormula → Type 0
ArePlain table [] [] = Unit {0}
ArePlain table [] (a ∷ bs) = ⊥
ArePlain table (s ∷ ss) [] = ⊥
ArePlain table (s ∷ ss) (a ∷ bs) = IsPlain table [] s a × ArePlain table ss bs

abbrev pub AreLabels : List Statement → List Label → Type 0
AreLabels [] [] = Unit {0}
AreLabels [] (l ∷ ls) = ⊥
AreLabels (st ∷ sts) [] = ⊥
AreLabels (st ∷ sts) (l ∷ ls) = (l.name ≡ st.name) × (role_of st.role ≡ Some l.role) × AreLabels sts ls

abbrev pub formulas_in : (Statement → Bool) → List Statement → List Sentence
formulas_in p sts = map (λ st. st.formula) (filter p sts)

-- The problem of the statements. Its one conjecture, or none, are the formulas of all the conjectures.
pub record IsProblemOf (sts : List Statement) (problem : PlainProblem) : Type 0 where
  pub functions : InternsAll [] (flat_map (λ st. functions_in st.formula) sts) problem.symbols.functions
  pub predicates : InternsAll [] (flat_map (λ st. predicates_in st.formula) sts) problem.symbols.predicates
  pub labels : AreLabels sts problem.labels
  pub axioms : ArePlain problem.symbols (formulas_in (λ st. not (is_conjecture st)) sts) problem.axioms
  pub conjecture : ArePlain problem.symbols (formulas_in is_conjecture sts) (option_to_list problem.conjecture)

-- The axioms in input order, and then the negated conjecture.
abbrev pub Start : PlainProblem → List PlainFormula
Start problem = problem.axioms ++ map syntax.not (option_to_list problem.conjecture)

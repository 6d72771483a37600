-- What the program has of a problem so far, and what a part of a formula adds to it.
use Rattle.std.specs.Prelude.{◌≡◌, ℕ, Bool, true, ◌&&◌, ◌||◌, false, eqb, List, [], ◌∷◌, map, Option, Some, None}
use Rattle.std.specs.Borrow.{Bor}
use Rattle.fol_core.specs.Syntax.{PlainTerm, bound, PlainTerms, PlainFormula}
use Rattle.fol_core.specs.Symbol.{Symbol as Known, SymbolTable, IsAt, Interns}
use Rattle.fof_parse.specs.declared.refusal.BadKind.{BadKind}
use Rattle.fof_parse.specs.declared.refusal.BadKind.TheVariants.{Dollar}
use Rattle.fof_parse.specs.declared.build.Draft.{Draft}
use Rattle.fof_parse.specs.Grammar.{Symbol, word, defined, Term, Terms, Sentence}
use Rattle.fof_parse.specs.Problem.{is_closed_term, are_closed_terms, is_closed, functions_in_term, functions_in_terms}
use Rattle.fof_parse.specs.Problem.{functions_in, predicates_in, InternsAll, IsPlainTerm, ArePlainTerms, IsPlain}
use Rattle.fof_parse.specs.Refusal.{or_else, term_fault, terms_fault, element_fault}

-- the symbols so far, the first fault so far, and whether each variable so far is bound
pub record State : Type 0 where
  pub symbols : SymbolTable
  pub fault : Option BadKind
  pub closed : Bool

abbrev pub state_of : Draft → State
state_of draft = record { symbols = draft.symbols; fault = draft.fault; closed = draft.is_closed }

abbrev pub names : List (Bor (List ℕ)) → List (List ℕ)
names scope = map (λ w. w.now) scope

-- what a part with this fault, whose variables are bound or not, and with these symbols adds
pub record Effect (old new : State) (k : Option BadKind) (b : Bool) (fs ps : List Known) : Type 0 where
  pub faults : new.fault ≡ or_else old.fault k
  pub closes : new.closed ≡ (old.closed && b)
  pub functions : InternsAll old.symbols.functions fs new.symbols.functions
  pub predicates : InternsAll old.symbols.predicates ps new.symbols.predicates

-- A term adds what it has, and is built where it has no fault and its variables are bound.
pub record TermBuilt (vs : List (List ℕ)) (old new : State) (u : Term) (t : PlainTerm) : Type 0 where
  pub effect : Effect old new (term_fault u) (is_closed_term vs u) (functions_in_term u) []
  pub plain : term_fault u ≡ None → is_closed_term vs u ≡ true → IsPlainTerm new.symbols.functions vs u t

pub record TermsBuilt (vs : List (List ℕ)) (old new : State) (us : Terms) (ts : PlainTerms) : Type 0 where
  pub effect : Effect old new (terms_fault us) (are_closed_terms vs us) (functions_in_terms us) []
  pub plain : terms_fault us ≡ None → are_closed_terms vs us ≡ true → ArePlainTerms new.symbols.functions vs us ts

pub record Built (vs : List (List ℕ)) (old new : State) (s : Sentence) (a : PlainFormula) : Type 0 where
  pub effect : Effect old new (element_fault s) (is_closed vs s) (functions_in s) (predicates_in s)
  pub plain : element_fault s ≡ None → is_closed vs s ≡ true → IsPlain new.symbols vs s a

abbrev pub IsNumberAt : List Known → Known → Option ℕ → Type 0
IsNumberAt table s None = ⊥
IsNumberAt table s (Some n) = IsAt table s n

-- A symbol as it is written is put into the table, and has a number there; a word with `$` has none.
abbrev pub Numbers : Symbol → ℕ → List Known → List Known → Option ℕ → Type 0
Numbers (word w) k old new number = Interns old (w, k) new × IsNumberAt new (w, k) number
Numbers (defined w) k old new number = (new ≡ old) × (number ≡ None)

abbrev pub has_backslash : List ℕ → Bool
has_backslash [] = false
has_backslash (c ∷ cs) = eqb c 92 || has_backslash cs

-- A variable is the number of its quantifier. Where it has none, not each variable is bound.
abbrev pub IsVariable : Option ℕ → Bool → Bool → PlainTerm → Type 0
IsVariable None old new t = new ≡ false
IsVariable (Some n) old new t = (new ≡ old) × (t ≡ bound n)

-- a function symbol as it is written, in front of k arguments
abbrev pub IsFunctionHead : Symbol → ℕ → State → State → ℕ → Type 0
IsFunctionHead (word w) k old new n = Effect old new None true ((w, k) ∷ []) [] × IsAt new.symbols.functions (w, k) n
IsFunctionHead (defined w) k old new n = Effect old new (Some Dollar) true [] []

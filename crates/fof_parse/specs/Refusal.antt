-- Which statements are refused.
use Rattle.std.specs.Prelude.{◌≡◌, ℕ, Bool, not, ◌&&◌, ◌||◌, nat_lt, if◌then◌else◌, List, [], ◌∷◌, codes, Option, Some}
use Rattle.std.specs.Prelude.{None}
use Rattle.std.specs.Option.{is_some}
use Rattle.std.specs.Str.{bytes_eq}
use Rattle.fof_parse.specs.declared.refusal.BadKind.{BadKind}
use Rattle.fof_parse.specs.declared.refusal.BadKind.TheVariants.{Include, Language, TooDeep, Syntax, Equality, Number}
use Rattle.fof_parse.specs.declared.refusal.BadKind.TheVariants.{Distinct, Dollar, Role, FreeVariable, SecondConjecture}
use Rattle.fof_parse.specs.Token.{Token, lower, Placed}
use Rattle.fof_parse.specs.Nesting.{nesting, most_nesting}
use Rattle.fof_parse.specs.Grammar.{Symbol, word, defined, Term, variable, numeral, object, applied, Terms, no_terms}
use Rattle.fof_parse.specs.Grammar.{terms, Sentence, atom, equality, negation, binary, quantified, Statement, is_stop}
use Rattle.fof_parse.specs.Grammar.{IsStatement}
use Rattle.fof_parse.specs.Problem.{truth, role_of, is_conjecture, is_closed}

-- the first of two faults
abbrev pub or_else : Option BadKind → Option BadKind → Option BadKind
or_else None k = k
or_else (Some j) k = Some j

abbrev pub fault_if : Bool → BadKind → Option BadKind
fault_if b k = if b then Some k else None

-- what the first token of a statement says
abbrev pub is_other_language : List ℕ → Bool
is_other_language w =
    bytes_eq w (codes "tff") || bytes_eq w (codes "thf") || bytes_eq w (codes "tcf")
    || bytes_eq w (codes "tpi") || bytes_eq w (codes "cnf")

abbrev pub first_fault : List Token → Option BadKind
first_fault (lower w ∷ ts) =
    or_else (fault_if (bytes_eq w (codes "include")) Include) (fault_if (is_other_language w) Language)
first_fault _ = None

-- what is refused before the grammar is looked at
abbrev pub early_fault : List Token → Option BadKind
early_fault ts = or_else (first_fault ts) (fault_if (nat_lt most_nesting (nesting 0 [] ts)) TooDeep)

-- the leftmost element that is not supported
abbrev pub symbol_fault : Symbol → Option BadKind
symbol_fault (word w) = None
symbol_fault (defined w) = Some Dollar

abbrev mutual
  pub term_fault : Term → Option BadKind
  term_fault (variable w) = None
  term_fault (numeral w) = Some Number
  term_fault (object w) = Some Distinct
  term_fault (applied f us) = or_else (symbol_fault f) (terms_fault us)

  pub terms_fault : Terms → Option BadKind
  terms_fault no_terms = None
  terms_fault (terms u us) = or_else (term_fault u) (terms_fault us)

abbrev pub atom_fault : Symbol → Terms → Option BadKind
atom_fault (word w) us = terms_fault us
atom_fault (defined w) us = fault_if (not (is_some (truth w us))) Dollar

abbrev pub element_fault : Sentence → Option BadKind
element_fault (atom p us) = atom_fault p us
element_fault (equality e t u) = or_else (term_fault t) (Some Equality)
element_fault (negation s) = element_fault s
element_fault (binary op s t) = or_else (element_fault s) (element_fault t)
element_fault (quantified q w s) = element_fault s

abbrev pub is_role : List ℕ → Bool
is_role w = is_some (role_of w)

-- The first fault of a statement by the grammar, where the flag says that an earlier statement is a conjecture.
abbrev pub late_fault : Bool → Statement → Option BadKind
late_fault had st =
    or_else (element_fault st.formula)
    (or_else (fault_if (not (is_role st.role)) Role)
    (or_else (fault_if (not (is_closed [] st.formula)) FreeVariable)
    (fault_if (had && is_conjecture st) SecondConjecture)))

-- The tokens are a statement without a fault.
pub record IsGood (had : Bool) (ts : List Token) (st : Statement) : Type 0 where
  pub early : early_fault ts ≡ None
  pub statement : IsStatement ts st
  pub late : late_fault had st ≡ None

-- The tokens are no such statement, and this is the first kind of fault that fits.
pub data IsBad (had : Bool) (ts : List Token) : BadKind → Type 0 where
  is_early : (k : BadKind) → early_fault ts ≡ Some k → IsBad had ts k
  no_statement : early_fault ts ≡ None → ((st : Statement) → IsStatement ts st → ⊥) → IsBad had ts Syntax
  is_late : (k : BadKind) (st : Statement) → early_fault ts ≡ None → IsStatement ts st → late_fault had st ≡ Some k
      → IsBad had ts k

-- The first statement of a text goes up to its first full stop, or to the end.
abbrev pub first_of : List Placed → List Token
first_of [] = []
first_of (t ∷ ts) = if is_stop t.token then t.token ∷ [] else t.token ∷ first_of ts

abbrev pub behind_first : List Placed → List Placed
behind_first [] = []
behind_first (t ∷ ts) = if is_stop t.token then ts else behind_first ts

-- The text is these statements, all without a fault.
abbrev pub AreGood : Bool → List Placed → List Statement → Type 0
AreGood had [] [] = Unit {0}
AreGood had [] (st ∷ sts) = ⊥
AreGood had (t ∷ ts) [] = ⊥
AreGood had (t ∷ ts) (st ∷ sts) =
    IsGood had (first_of (t ∷ ts)) st × AreGood (had || is_conjecture st) (behind_first (t ∷ ts)) sts

-- Statements without a fault come first, and then one that is bad, at the offset of its first token.
pub data FirstBad : Bool → List Placed → ℕ → BadKind → Type 0 where
  here : (had : Bool) (t : Placed) (ts : List Placed) (k : BadKind) → IsBad had (first_of (t ∷ ts)) k
      → FirstBad had (t ∷ ts) t.offset k
  later : (had : Bool) (t : Placed) (ts : List Placed) (st : Statement) (at : ℕ) (k : BadKind)
      → IsGood had (first_of (t ∷ ts)) st
      → FirstBad (had || is_conjecture st) (behind_first (t ∷ ts)) at k → FirstBad had (t ∷ ts) at k

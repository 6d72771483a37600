-- Which lists of tokens are which statements.
use Rattle.std.specs.Prelude.{◌≡◌, ℕ, Bool, true, false, ◌||◌, eqb, if◌then◌else◌, List, [], ◌∷◌, ◌++◌, codes, Option}
use Rattle.std.specs.Prelude.{Some, None}
use Rattle.std.specs.List.{list_all}
use Rattle.fof_lex.specs.Bytes.{is_digit}
use Rattle.fof_parse.specs.Token.{Token, lower, upper, quoted, distinct, dollar, number, marked, other}
use Rattle.fof_parse.specs.declared.token.Operator.{Operator}
use Rattle.fof_parse.specs.declared.token.Operator.TheVariants.{And, Or}
use Rattle.fof_parse.specs.declared.token.Quantifier.{Quantifier as Quantor}
use Rattle.fof_parse.specs.declared.token.Equality.{Equality as Equation}
use Rattle.fof_parse.specs.declared.token.Bracket.{Bracket}
use Rattle.fof_parse.specs.declared.token.Bracket.TheVariants.{Round, Square}
use Rattle.fof_parse.specs.declared.token.Mark.TheVariants.{Open, Close, Comma, Stop, Colon, Not, Quantifier, Binary}
use Rattle.fof_parse.specs.declared.token.Mark.TheVariants.{Equality}

-- A symbol as it is written: a lower word or a quoted text, which are the same symbol where they say the same; or a
-- word with `$`.
pub data Symbol : Type 0 where
  word : List ℕ → Symbol
  defined : List ℕ → Symbol

mutual
  pub data Term : Type 0 where
    variable : List ℕ → Term
    numeral : List ℕ → Term
    object : List ℕ → Term
    applied : Symbol → Terms → Term

  pub data Terms : Type 0 where
    no_terms : Terms
    terms : Term → Terms → Terms

-- The syntax tree of a formula. Parentheses only group, and stand for nothing in it. A quantifier has one variable.
pub data Sentence : Type 0 where
  atom : Symbol → Terms → Sentence
  equality : Equation → Term → Term → Sentence
  negation : Sentence → Sentence
  binary : Operator → Sentence → Sentence → Sentence
  quantified : Quantor → List ℕ → Sentence → Sentence

-- a statement as it is written
pub record Statement : Type 0 where
  pub name : List ℕ
  pub role : List ℕ
  pub formula : Sentence

abbrev pub symbol_of : Token → Option Symbol
symbol_of (lower w) = Some (word w)
symbol_of (quoted w) = Some (word w)
symbol_of (dollar w) = Some (defined w)
symbol_of (upper w) = None
symbol_of (distinct w) = None
symbol_of (number w) = None
symbol_of (marked m) = None
symbol_of other = None

abbrev pub IsSymbol : Token → Symbol → Type 0
IsSymbol t f = symbol_of t ≡ Some f

mutual
  -- A symbol stands alone, or with its arguments in parentheses.
  pub data IsApplied : List Token → Symbol → Terms → Type 0 where
    alone : (t : Token) (f : Symbol) → IsSymbol t f → IsApplied (t ∷ []) f no_terms
    with_terms : (t : Token) (f : Symbol) (ts : List Token) (us : Terms) → IsSymbol t f → AreTerms ts us
        → IsApplied (t ∷ marked (Open Round) ∷ (ts ++ marked (Close Round) ∷ [])) f us

  pub data IsTerm : List Token → Term → Type 0 where
    variable_ : (w : List ℕ) → IsTerm (upper w ∷ []) (variable w)
    number_ : (w : List ℕ) → IsTerm (number w ∷ []) (numeral w)
    distinct_ : (w : List ℕ) → IsTerm (distinct w ∷ []) (object w)
    applied_ : (ts : List Token) (f : Symbol) (us : Terms) → IsApplied ts f us → IsTerm ts (applied f us)

  -- one or more terms, with commas between them
  pub data AreTerms : List Token → Terms → Type 0 where
    last_ : (ts : List Token) (u : Term) → IsTerm ts u → AreTerms ts (terms u no_terms)
    more_ : (ts rest : List Token) (u : Term) (us : Terms) → IsTerm ts u → AreTerms rest us
        → AreTerms (ts ++ marked Comma ∷ rest) (terms u us)

-- more than two units can be joined by it
pub data Repeats : Operator → Type 0 where
  by_and : Repeats And
  by_or : Repeats Or

mutual
  -- A unit is an atom, an equation, `~` with a unit behind it, a quantifier with its variables and a unit behind it, or
  -- a formula in parentheses.
  pub data IsUnit : List Token → Sentence → Type 0 where
    atom_ : (ts : List Token) (p : Symbol) (us : Terms) → IsApplied ts p us → IsUnit ts (atom p us)
    equality_ : (e : Equation) (ts us : List Token) (t u : Term) → IsTerm ts t → IsTerm us u
        → IsUnit (ts ++ marked (Equality e) ∷ us) (equality e t u)
    negation_ : (ts : List Token) (a : Sentence) → IsUnit ts a → IsUnit (marked Not ∷ ts) (negation a)
    quantified_ : (q : Quantor) (ts : List Token) (a : Sentence) → IsScope q ts a
        → IsUnit (marked (Quantifier q) ∷ marked (Open Square) ∷ ts) a
    parentheses_ : (ts : List Token) (a : Sentence) → IsFormula ts a
        → IsUnit (marked (Open Round) ∷ (ts ++ marked (Close Round) ∷ [])) a

  -- The variables of a quantifier, with commas between them, and the unit behind `]:`. The first variable is the
  -- outermost.
  pub data IsScope : Quantor → List Token → Sentence → Type 0 where
    last_variable : (q : Quantor) (w : List ℕ) (ts : List Token) (a : Sentence) → IsUnit ts a
        → IsScope q (upper w ∷ marked (Close Square) ∷ marked Colon ∷ ts) (quantified q w a)
    more_variables : (q : Quantor) (w : List ℕ) (ts : List Token) (a : Sentence) → IsScope q ts a
        → IsScope q (upper w ∷ marked Comma ∷ ts) (quantified q w a)

  -- Two units with an operator between them, or a chain of more with the same operator, which is `&` or `|`. A chain is
  -- joined from the left on.
  pub data IsJoined : Operator → List Token → Sentence → Type 0 where
    two : (op : Operator) (ts us : List Token) (a b : Sentence) → IsUnit ts a → IsUnit us b
        → IsJoined op (ts ++ marked (Binary op) ∷ us) (binary op a b)
    more : (op : Operator) (ts us : List Token) (a b : Sentence) → Repeats op → IsJoined op ts a → IsUnit us b
        → IsJoined op (ts ++ marked (Binary op) ∷ us) (binary op a b)

  pub data IsFormula : List Token → Sentence → Type 0 where
    unit_ : (ts : List Token) (a : Sentence) → IsUnit ts a → IsFormula ts a
    joined_ : (op : Operator) (ts : List Token) (a : Sentence) → IsJoined op ts a → IsFormula ts a

abbrev pub is_bracket : Token → Bool
is_bracket (marked (Open b)) = true
is_bracket (marked (Close b)) = true
is_bracket _ = false

abbrev pub is_stop : Token → Bool
is_stop (marked Stop) = true
is_stop _ = false

-- Tokens without a full stop, in which the brackets are balanced and properly nested.
pub data AreBalanced : List Token → Type 0 where
  none : AreBalanced []
  plain : (t : Token) (ts : List Token) → is_bracket t ≡ false → is_stop t ≡ false → AreBalanced ts
      → AreBalanced (t ∷ ts)
  nested : (b : Bracket) (ts us : List Token) → AreBalanced ts → AreBalanced us
      → AreBalanced (marked (Open b) ∷ (ts ++ marked (Close b) ∷ us))

-- `).`, or one or more further tokens before it
pub data IsEnding : List Token → Type 0 where
  bare : IsEnding (marked (Close Round) ∷ marked Stop ∷ [])
  annotated : (t : Token) (ts : List Token) → AreBalanced (t ∷ ts)
      → IsEnding (marked Comma ∷ (t ∷ ts) ++ marked (Close Round) ∷ marked Stop ∷ [])

abbrev pub without_sign : List ℕ → List ℕ
without_sign [] = []
without_sign (c ∷ cs) = if eqb c 43 || eqb c 45 then cs else c ∷ cs

-- a number of digits with a sign or without one
abbrev pub is_integer : List ℕ → Bool
is_integer w = list_all is_digit (without_sign w)

abbrev pub name_of : Token → Option (List ℕ)
name_of (lower w) = Some w
name_of (quoted w) = Some w
name_of (number w) = if is_integer w then Some w else None
name_of _ = None

-- A statement is `fof(NAME,ROLE,FORMULA).`, or `fof(NAME,ROLE,FORMULA,ANNOTATIONS).`
pub record IsStatement (ts : List Token) (st : Statement) : Type 0 where
  pub name : Token
  pub named : name_of name ≡ Some st.name
  pub body : List Token
  pub of_formula : IsFormula body st.formula
  pub tail : List Token
  pub ending : IsEnding tail
  pub written : ts ≡ lower (codes "fof") ∷ marked (Open Round) ∷ name ∷ marked Comma ∷ lower st.role ∷ marked Comma
      ∷ (body ++ tail)

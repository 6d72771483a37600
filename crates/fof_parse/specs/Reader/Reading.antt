-- Reading tokens from the left: a part that stands in front, and the tokens behind it.
use Rattle.std.specs.Prelude.{ℕ, zero, suc, Bool, true, false, ◌&&◌, not, if◌then◌else◌, List, [], ◌∷◌, codes, Option}
use Rattle.std.specs.Prelude.{Some, None}
use Rattle.std.specs.Str.{bytes_eq}
use Rattle.fof_parse.specs.declared.token.Operator.{Operator}
use Rattle.fof_parse.specs.declared.token.Operator.TheVariants.{Implies, ImpliedBy, Equivalent, NotEquivalent, NotAnd}
use Rattle.fof_parse.specs.declared.token.Operator.TheVariants.{NotOr, And, Or}
use Rattle.fof_parse.specs.declared.token.Quantifier.{Quantifier as Quantor}
use Rattle.fof_parse.specs.declared.token.Quantifier.TheVariants as quantifiers
use Rattle.fof_parse.specs.declared.token.Equality.{Equality as Equation}
use Rattle.fof_parse.specs.declared.token.Equality.TheVariants.{Equal, Unequal}
use Rattle.fof_parse.specs.declared.token.Bracket.{Bracket}
use Rattle.fof_parse.specs.declared.token.Bracket.TheVariants.{Round, Square, Curly}
use Rattle.fof_parse.specs.declared.token.Mark.{Mark}
use Rattle.fof_parse.specs.declared.token.Mark.TheVariants.{Open, Close, Comma, Stop, Colon, Not, Quantifier, Binary}
use Rattle.fof_parse.specs.declared.token.Mark.TheVariants.{Equality}
use Rattle.fof_parse.specs.Token.{Token, lower, upper, quoted, distinct, dollar, number, marked, other}
use Rattle.fof_parse.specs.Grammar.{Symbol, word, defined, Term, variable, numeral, object, applied, Terms, no_terms}
use Rattle.fof_parse.specs.Grammar.{terms, Sentence, atom, equality, negation, binary, quantified, Statement, name_of}

infixl 10 ◌>>=◌
abbrev pub ◌>>=◌ : {A B : Type 0} → Option A → (A → Option B) → Option B
None >>= f = None
(Some x) >>= f = f x

-- one way where something is there, another where nothing is
abbrev pub if_some : {A B : Type 0} → Option A → B → (A → B) → B
if_some None last next = last
if_some (Some x) last next = next x

-- Marks

abbrev pub same_bracket : Bracket → Bracket → Bool
same_bracket Round Round = true
same_bracket Square Square = true
same_bracket Curly Curly = true
same_bracket _ _ = false

abbrev pub same_operator : Operator → Operator → Bool
same_operator Implies Implies = true
same_operator ImpliedBy ImpliedBy = true
same_operator Equivalent Equivalent = true
same_operator NotEquivalent NotEquivalent = true
same_operator NotAnd NotAnd = true
same_operator NotOr NotOr = true
same_operator And And = true
same_operator Or Or = true
same_operator _ _ = false

abbrev pub same_quantifier : Quantor → Quantor → Bool
same_quantifier quantifiers.All quantifiers.All = true
same_quantifier quantifiers.Some quantifiers.Some = true
same_quantifier _ _ = false

abbrev pub same_equality : Equation → Equation → Bool
same_equality Equal Equal = true
same_equality Unequal Unequal = true
same_equality _ _ = false

abbrev pub is_mark : Mark → Mark → Bool
is_mark (Open b) (Open c) = same_bracket b c
is_mark (Close b) (Close c) = same_bracket b c
is_mark Comma Comma = true
is_mark Stop Stop = true
is_mark Colon Colon = true
is_mark Not Not = true
is_mark (Quantifier q) (Quantifier r) = same_quantifier q r
is_mark (Binary op) (Binary by) = same_operator op by
is_mark (Equality e) (Equality d) = same_equality e d
is_mark _ _ = false

-- what stands behind this mark
abbrev pub after_mark : Mark → List Token → Option (List Token)
after_mark m (marked k ∷ ts) = if is_mark k m then Some ts else None
after_mark m _ = None

-- What stands in front, and the tokens behind it.
abbrev pub Reader : Type 0 → Type 0
Reader A = List Token → Option (A × List Token)

-- Terms

abbrev pub one_token : {A : Type 0} → (Token → Option A) → Reader A
one_token f [] = None
one_token f (t ∷ ts) = f t >>= λ x. Some (x, ts)

-- what a term begins with
pub data Head : Type 0 where
  symbol_head : Symbol → Head
  variable_head numeral_head object_head : List ℕ → Head

abbrev pub head_of : Token → Option Head
head_of (lower w) = Some (symbol_head (word w))
head_of (quoted w) = Some (symbol_head (word w))
head_of (dollar w) = Some (symbol_head (defined w))
head_of (upper w) = Some (variable_head w)
head_of (number w) = Some (numeral_head w)
head_of (distinct w) = Some (object_head w)
head_of (marked m) = None
head_of other = None

-- a symbol's arguments, if there are any
abbrev pub arguments_by : Reader Terms → Symbol → Reader Term
arguments_by arguments f ts =
    if_some (after_mark (Open Round) ts) (Some (applied f no_terms, ts))
    (λ inner. arguments inner >>= λ us. after_mark (Close Round) us.1 >>= λ rest. Some (applied f us.0, rest))

abbrev pub headed_by : Reader Terms → Head → Reader Term
headed_by arguments (variable_head w) ts = Some (variable w, ts)
headed_by arguments (numeral_head w) ts = Some (numeral w, ts)
headed_by arguments (object_head w) ts = Some (object w, ts)
headed_by arguments (symbol_head f) ts = arguments_by arguments f ts

abbrev pub term_by : Reader Terms → Reader Term
term_by arguments ts = one_token head_of ts >>= λ p. headed_by arguments p.0 p.1

-- one or more terms. The steps are more than there are tokens.
abbrev pub terms_by : Reader Term → ℕ → Reader Terms
terms_by term zero ts = None
terms_by term (suc steps) ts =
    term ts >>= λ t. if_some (after_mark Comma t.1) (Some (terms t.0 no_terms, t.1))
    (λ rest. terms_by term steps rest >>= λ us. Some (terms t.0 us.0, us.1))

-- A term, by this many steps down. They are enough where they are more than there are tokens.
unfoldable pub term_within : ℕ → Reader Term
term_within zero ts = None
term_within (suc steps) ts = term_by (terms_by (term_within steps) steps) ts

abbrev pub terms_within : ℕ → Reader Terms
terms_within steps ts = terms_by (term_within steps) steps ts

-- Units

-- what a unit begins with that begins with no term
pub data Lead : Type 0 where
  negation_lead group_lead : Lead
  quantifier_lead : Quantor → Lead

abbrev pub lead_of : Token → Option Lead
lead_of (marked Not) = Some negation_lead
lead_of (marked (Open Round)) = Some group_lead
lead_of (marked (Quantifier q)) = Some (quantifier_lead q)
lead_of _ = None

abbrev pub equality_of : Token → Option Equation
equality_of (marked (Equality e)) = Some e
equality_of _ = None

abbrev pub operator_of : Token → Option Operator
operator_of (marked (Binary op)) = Some op
operator_of _ = None

abbrev pub variable_of : Token → Option (List ℕ)
variable_of (upper w) = Some w
variable_of _ = None

-- a term as an atom
abbrev pub atom_of : Term → Option Sentence
atom_of (applied p us) = Some (atom p us)
atom_of (variable w) = None
atom_of (numeral w) = None
atom_of (object w) = None

abbrev pub equated_by : Reader Term → Term → Reader Sentence
equated_by term t ts =
    if_some (one_token equality_of ts) (atom_of t >>= λ a. Some (a, ts))
    (λ p. term p.1 >>= λ u. Some (equality p.0 t u.0, u.1))

-- the unit behind `]:`
abbrev pub body_by : Reader Sentence → Reader Sentence
body_by unit ts = after_mark (Close Square) ts >>= λ us. after_mark Colon us >>= λ vs. unit vs

-- what stands behind a variable of a quantifier: `,` and further variables, or the unit
abbrev pub bound_by : Reader Sentence → Reader Sentence → Reader Sentence
bound_by unit scope ts = if_some (after_mark Comma ts) (body_by unit ts) scope

abbrev pub scope_by : Reader Sentence → Quantor → ℕ → Reader Sentence
scope_by unit q zero ts = None
scope_by unit q (suc steps) ts =
    one_token variable_of ts
    >>= λ v. bound_by unit (scope_by unit q steps) v.1 >>= λ a. Some (quantified q v.0 a.0, a.1)

abbrev pub led_by : Reader Sentence → Reader Sentence → ℕ → Lead → Reader Sentence
led_by unit formula steps negation_lead ts = unit ts >>= λ a. Some (negation a.0, a.1)
led_by unit formula steps group_lead ts = formula ts >>= λ a. after_mark (Close Round) a.1 >>= λ rest. Some (a.0, rest)
led_by unit formula steps (quantifier_lead q) ts = after_mark (Open Square) ts >>= λ us. scope_by unit q steps us

abbrev pub unit_by : Reader Term → Reader Sentence → Reader Sentence → ℕ → Reader Sentence
unit_by term unit formula steps ts =
    if_some (one_token lead_of ts) (term ts >>= λ t. equated_by term t.0 t.1) (λ p. led_by unit formula steps p.0 p.1)

-- Formulas

-- whether more than two units can be joined by it
abbrev pub repeats : Operator → Bool
repeats And = true
repeats Or = true
repeats _ = false

-- whether a formula goes on with the operator, whose units so far are joined by another, or which is one unit so far
abbrev pub can_join : Option Operator → Operator → Bool
can_join None op = true
can_join (Some by) op = same_operator by op && repeats op

-- the operator with which a formula goes on
abbrev pub next_operator : Option Operator → Reader Operator
next_operator by ts = one_token operator_of ts >>= λ p. if can_join by p.0 then Some p else None

-- with the units behind it that are joined to it
abbrev pub chain_by : Reader Sentence → ℕ → Option Operator → Sentence → Reader Sentence
chain_by unit zero by left ts = None
chain_by unit (suc steps) by left ts =
    if_some (next_operator by ts) (Some (left, ts))
    (λ p. unit p.1 >>= λ b. chain_by unit steps (Some p.0) (binary p.0 left b.0) b.1)

abbrev pub formula_by : Reader Sentence → ℕ → Reader Sentence
formula_by unit steps ts = unit ts >>= λ a. chain_by unit steps None a.0 a.1

unfoldable pub unit_within : ℕ → Reader Sentence
unit_within zero ts = None
unit_within (suc steps) ts =
    unit_by (term_within (suc steps)) (unit_within steps) (formula_by (unit_within steps) steps) steps ts

abbrev pub formula_within : ℕ → Reader Sentence
formula_within steps ts = formula_by (unit_within steps) steps ts

-- Statements

abbrev pub lower_of : Token → Option (List ℕ)
lower_of (lower w) = Some w
lower_of _ = None

abbrev pub fof_of : Token → Option (List ℕ)
fof_of t = lower_of t >>= λ w. if bytes_eq w (codes "fof") then Some w else None

-- `fof(NAME,ROLE,`
unfoldable pub heading_at : Reader (List ℕ × List ℕ)
heading_at ts = do
  fof ← one_token fof_of ts
  opened ← after_mark (Open Round) fof.1
  name ← one_token name_of opened
  first ← after_mark Comma name.1
  role ← one_token lower_of first
  second ← after_mark Comma role.1
  Some ((name.0, role.0), second)

-- The bracket that closes none of those that stand open, with what stands behind it. The open ones are the innermost
-- first.
abbrev pub closing : Option (List Bracket) → Bracket → List Token → (List Bracket → Option (List Token))
    → Option (List Token)
closing None b ts next = Some (marked (Close b) ∷ ts)
closing (Some stack) b ts next = next stack

abbrev pub closed_by : Bracket → List Bracket → Option (Option (List Bracket))
closed_by b [] = Some None
closed_by b (c ∷ stack) = if same_bracket b c then Some (Some stack) else None

abbrev pub behind_balanced : List Bracket → List Token → Option (List Token)
behind_balanced stack [] = None
behind_balanced stack (marked (Open b) ∷ ts) = behind_balanced (b ∷ stack) ts
behind_balanced stack (marked (Close b) ∷ ts) =
    closed_by b stack >>= λ o. closing o b ts (λ left. behind_balanced left ts)
behind_balanced stack (marked Stop ∷ ts) = None
behind_balanced stack (t ∷ ts) = behind_balanced stack ts

abbrev pub begins_closed : List Token → Bool
begins_closed (marked (Close b) ∷ ts) = true
begins_closed _ = false

abbrev pub is_end : Option (List Token) → Bool
is_end None = false
is_end (Some []) = true
is_end (Some (t ∷ ts)) = false

-- `).` and nothing behind it
abbrev pub is_bare : List Token → Bool
is_bare ts = is_end (after_mark (Close Round) ts >>= λ us. after_mark Stop us)

abbrev pub is_bare_behind : Option (List Token) → Bool
is_bare_behind None = false
is_bare_behind (Some ts) = is_bare ts

abbrev pub is_annotated : List Token → Bool
is_annotated ts = not (begins_closed ts) && is_bare_behind (behind_balanced [] ts)

abbrev pub is_ending : List Token → Bool
is_ending ts = if_some (after_mark Comma ts) (is_bare ts) is_annotated

-- The whole is a statement. The steps are more than there are tokens.
unfoldable pub statement_within : ℕ → List Token → Option Statement
statement_within steps ts = do
  heading ← heading_at ts
  formula ← formula_within steps heading.1
  if is_ending formula.1 then Some (record { name = heading.0.0; role = heading.0.1; formula = formula.0 }) else None

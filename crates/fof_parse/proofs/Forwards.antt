-- What the grammar says stands in front is read from the left.
use Rattle.std.proofs.Common.{◌≡◌, ℕ, zero, suc, ◌+◌, ◌<◌, true, cond, List, [], ◌∷◌, ◌++◌, length, Option, Some, None, refl, ap, ◌∙◌, append_assoc, length-append, arith}
use Rattle.fof_parse.specs.declared.token.Operator.{Operator}
use Rattle.fof_parse.specs.declared.token.Quantifier.{Quantifier as Quantor}
use Rattle.fof_parse.specs.declared.token.Equality.{Equality as Equation}
use Rattle.fof_parse.specs.declared.token.Bracket.TheVariants.{Round, Square}
use Rattle.fof_parse.specs.declared.token.Mark.TheVariants.{Open, Close, Comma, Colon, Not, Quantifier, Binary, Equality}
use Rattle.fof_parse.specs.Token.{Token, upper, distinct, number, marked}
use Rattle.fof_parse.specs.Grammar.{Symbol, Term, variable, numeral, object, applied, Terms, no_terms, terms, Sentence, atom, equality, negation, binary, quantified, IsSymbol, IsApplied, alone, with_terms, IsTerm, variable_, number_, distinct_, applied_, AreTerms, last_, more_, Repeats, IsUnit, atom_, equality_, negation_, quantified_, parentheses_, IsScope, last_variable, more_variables, IsJoined, two, more, IsFormula, unit_, joined_}
use Rattle.fof_parse.specs.Reader.Reading.{◌>>=◌, if_some, after_mark, one_token, Head, head_of, symbol_head, lead_of, equality_of, operator_of, headed_by, term_by, terms_by, term_within, equated_by, led_by, scope_by, unit_by, can_join, next_operator, chain_by, unit_within, formula_within}
use Rattle.fof_parse.proofs.Fronts.{one_token_front, symbol_is_head, symbol_no_lead, repeats_again, enough}

-- Steps

pub term_none : (ts : List Token) → term_within zero ts ≡ None
unfolding term_within
term_none ts = refl

pub term_step : (s : ℕ) (ts : List Token) → term_within (suc s) ts ≡ term_by (terms_by (term_within s) s) ts
unfolding term_within
term_step s ts = refl

pub unit_none : (ts : List Token) → unit_within zero ts ≡ None
unfolding unit_within
unit_none ts = refl

pub unit_step : (s : ℕ) (ts : List Token) → unit_within (suc s) ts ≡ unit_by (term_within (suc s)) (unit_within s) (formula_within s) s ts
unfolding unit_within
unit_step s ts = refl

-- what cannot go on a term, a unit or a formula
abbrev pub EndsTerm : List Token → Type 0
EndsTerm rest = after_mark (Open Round) rest ≡ None

abbrev pub EndsUnit : List Token → Type 0
EndsUnit rest = EndsTerm rest × (one_token equality_of rest ≡ None)

abbrev pub EndsFormula : List Token → Type 0
EndsFormula rest = EndsUnit rest × (one_token operator_of rest ≡ None)

-- Terms

abbrev pub TermRead : List Token → Term → Type 0
TermRead ts u = (steps : ℕ) → length ts < steps → (rest : List Token) → EndsTerm rest → term_within steps (ts ++ rest) ≡ Some (u, rest)

abbrev pub TermsRead : List Token → Terms → Type 0
TermsRead ts us = (steps c : ℕ) → length ts < steps → length ts < c → (rest : List Token) → EndsTerm rest → after_mark Comma rest ≡ None
    → terms_by (term_within steps) c (ts ++ rest) ≡ Some (us, rest)

alone_read : (t : Token) (f : Symbol) → IsSymbol t f → TermRead (t ∷ []) (applied f no_terms)
alone_read t f h steps lt rest ends =
    enough (λ s. term_within s (t ∷ rest) ≡ Some (applied f no_terms, rest)) 1
    (λ s le. term_step s (t ∷ rest)
    ∙ ap (λ o. o >>= λ (p : Head × List Token). headed_by (terms_by (term_within s) s) p.0 p.1) (one_token_front head_of t rest (symbol_head f) (symbol_is_head t f h))
    ∙ ap (λ o. if_some o (Some (applied f no_terms, rest)) (λ inner. terms_by (term_within s) s inner >>= λ us. after_mark (Close Round) us.1 >>= λ out. Some (applied f us.0, out))) ends) steps lt

with_terms_read : (t : Token) (f : Symbol) (ts : List Token) (us : Terms) → IsSymbol t f → TermsRead ts us
    → TermRead (t ∷ marked (Open Round) ∷ (ts ++ marked (Close Round) ∷ [])) (applied f us)
with_terms_read t f ts us h inner steps lt rest ends =
    enough (λ s. term_within s (t ∷ marked (Open Round) ∷ ((ts ++ marked (Close Round) ∷ []) ++ rest)) ≡ Some (applied f us, rest)) (suc (suc (length (ts ++ marked (Close Round) ∷ []))))
    (λ s le.
    let less : length ts < s = omega (arith, le, length-append ts (marked (Close Round) ∷ [])) in
    term_step s (t ∷ marked (Open Round) ∷ ((ts ++ marked (Close Round) ∷ []) ++ rest))
    ∙ ap (λ o. o >>= λ (p : Head × List Token). headed_by (terms_by (term_within s) s) p.0 p.1)
    (one_token_front head_of t (marked (Open Round) ∷ ((ts ++ marked (Close Round) ∷ []) ++ rest)) (symbol_head f) (symbol_is_head t f h))
    ∙ ap (λ (xs : List Token). terms_by (term_within s) s xs >>= λ us. after_mark (Close Round) us.1 >>= λ out. Some (applied f us.0, out)) (append_assoc ts (marked (Close Round) ∷ []) rest)
    ∙ ap (λ o. o >>= λ (us : Terms × List Token). after_mark (Close Round) us.1 >>= λ out. Some (applied f us.0, out)) (inner s s less less (marked (Close Round) ∷ rest) refl refl)) steps lt

last_read : (ts : List Token) (u : Term) → TermRead ts u → TermsRead ts (terms u no_terms)
last_read ts u h steps zero lt lc rest ends no_comma = absurd (omega (arith, lc))
last_read ts u h steps (suc c) lt lc rest ends no_comma =
    ap (λ o. o >>= λ (t : Term × List Token). if_some (after_mark Comma t.1) (Some (terms t.0 no_terms, t.1)) (λ out. terms_by (term_within steps) c out >>= λ us. Some (terms t.0 us.0, us.1)))
    (h steps lt rest ends)
    ∙ ap (λ o. if_some o (Some (terms u no_terms, rest)) (λ out. terms_by (term_within steps) c out >>= λ us. Some (terms u us.0, us.1))) no_comma

more_read : (ts us : List Token) (u : Term) (vs : Terms) → TermRead ts u → TermsRead us vs → TermsRead (ts ++ marked Comma ∷ us) (terms u vs)
more_read ts us u vs h k steps zero lt lc rest ends no_comma = absurd (omega (arith, lc))
more_read ts us u vs h k steps (suc c) lt lc rest ends no_comma =
    let len = length-append ts (marked Comma ∷ us) in
    let f : Term × List Token → Option (Terms × List Token) = λ t. if_some (after_mark Comma t.1) (Some (terms t.0 no_terms, t.1)) (λ out. terms_by (term_within steps) c out >>= λ us. Some (terms t.0 us.0, us.1)) in
    ap (λ xs. term_within steps xs >>= f) (append_assoc ts (marked Comma ∷ us) rest)
    ∙ ap (λ o. o >>= f) (h steps (omega (arith, lt, len)) (marked Comma ∷ (us ++ rest)) refl)
    ∙ ap (λ o. o >>= λ (vs : Terms × List Token). Some (terms u vs.0, vs.1)) (k steps c (omega (arith, lt, len)) (omega (arith, lc, len)) rest ends no_comma)

variable_read : (w : List ℕ) → TermRead (upper w ∷ []) (variable w)
variable_read w steps lt rest ends = enough (λ s. term_within s (upper w ∷ rest) ≡ Some (variable w, rest)) 1 (λ s le. term_step s (upper w ∷ rest)) steps lt

number_read : (w : List ℕ) → TermRead (number w ∷ []) (numeral w)
number_read w steps lt rest ends = enough (λ s. term_within s (number w ∷ rest) ≡ Some (numeral w, rest)) 1 (λ s le. term_step s (number w ∷ rest)) steps lt

distinct_read : (w : List ℕ) → TermRead (distinct w ∷ []) (object w)
distinct_read w steps lt rest ends = enough (λ s. term_within s (distinct w ∷ rest) ≡ Some (object w, rest)) 1 (λ s le. term_step s (distinct w ∷ rest)) steps lt

mutual
  pub applied_read : {ts : List Token} {f : Symbol} {us : Terms} → IsApplied ts f us → TermRead ts (applied f us)
  applied_read (alone t f h) = alone_read t f h
  applied_read (with_terms t f ts us h k) = with_terms_read t f ts us h (terms_read k)

  pub term_read : {ts : List Token} {u : Term} → IsTerm ts u → TermRead ts u
  term_read (variable_ w) = variable_read w
  term_read (number_ w) = number_read w
  term_read (distinct_ w) = distinct_read w
  term_read (applied_ ts f us h) = applied_read h

  pub terms_read : {ts : List Token} {us : Terms} → AreTerms ts us → TermsRead ts us
  terms_read (last_ ts u h) = last_read ts u (term_read h)
  terms_read (more_ ts rest u us h k) = more_read ts rest u us (term_read h) (terms_read k)

-- Units

abbrev pub UnitRead : List Token → Sentence → Type 0
UnitRead ts a = (steps : ℕ) → length ts < steps → (rest : List Token) → EndsUnit rest → unit_within steps (ts ++ rest) ≡ Some (a, rest)

abbrev pub ScopeRead : Quantor → List Token → Sentence → Type 0
ScopeRead q ts a = (steps c : ℕ) → length ts < steps → length ts < c → (rest : List Token) → EndsUnit rest → scope_by (unit_within steps) q c (ts ++ rest) ≡ Some (a, rest)

abbrev pub FormulaRead : List Token → Sentence → Type 0
FormulaRead ts a = (steps : ℕ) → length ts < steps → (rest : List Token) → EndsFormula rest → formula_within steps (ts ++ rest) ≡ Some (a, rest)

-- A chain is read as far as it goes, and may go on behind it by so many steps.
abbrev pub JoinedRead : Operator → List Token → Sentence → Type 0
JoinedRead op ts a = (steps extra : ℕ) → length ts + extra < steps → (rest : List Token) → EndsUnit rest
    → (c : ℕ) × (extra < c) × (formula_within steps (ts ++ rest) ≡ chain_by (unit_within steps) c (Some op) a rest)

applied_no_lead : {ts : List Token} {f : Symbol} {us : Terms} → IsApplied ts f us → (rest : List Token) → one_token lead_of (ts ++ rest) ≡ None
applied_no_lead (alone t f h) rest = ap (λ o. o >>= λ x. Some (x, rest)) (symbol_no_lead t f h)
applied_no_lead (with_terms t f ts us h k) rest = ap (λ o. o >>= λ x. Some (x, marked (Open Round) ∷ ((ts ++ marked (Close Round) ∷ []) ++ rest))) (symbol_no_lead t f h)

term_no_lead : {ts : List Token} {u : Term} → IsTerm ts u → (rest : List Token) → one_token lead_of (ts ++ rest) ≡ None
term_no_lead (variable_ w) rest = refl
term_no_lead (number_ w) rest = refl
term_no_lead (distinct_ w) rest = refl
term_no_lead (applied_ ts f us h) rest = applied_no_lead h rest

-- a unit that begins with a term
from_term : (s : ℕ) (ts : List Token) (t : Term) (rest : List Token) → one_token lead_of ts ≡ None → term_within (suc s) ts ≡ Some (t, rest)
    → unit_within (suc s) ts ≡ equated_by (term_within (suc s)) t rest
from_term s ts t rest lead h =
    unit_step s ts
    ∙ ap (λ o. if_some o (term_within (suc s) ts >>= λ u. equated_by (term_within (suc s)) u.0 u.1) (λ p. led_by (unit_within s) (formula_within s) s p.0 p.1)) lead
    ∙ ap (λ o. o >>= λ (u : Term × List Token). equated_by (term_within (suc s)) u.0 u.1) h

atom_read : (ts : List Token) (p : Symbol) (us : Terms) → IsApplied ts p us → UnitRead ts (atom p us)
atom_read ts p us h steps lt rest ends =
    enough (λ s. unit_within s (ts ++ rest) ≡ Some (atom p us, rest)) (length ts)
    (λ s le. from_term s (ts ++ rest) (applied p us) rest (applied_no_lead h rest) (applied_read h (suc s) (omega (arith, le)) rest ends.0)
    ∙ ap (λ o. if_some o (Some (atom p us, rest)) (λ q. term_within (suc s) q.1 >>= λ u. Some (equality q.0 (applied p us) u.0, u.1))) ends.1) steps lt

equality_read : (e : Equation) (ts us : List Token) (t u : Term) → IsTerm ts t → IsTerm us u → UnitRead (ts ++ marked (Equality e) ∷ us) (equality e t u)
equality_read e ts us t u h k steps lt rest ends =
    let len = length-append ts (marked (Equality e) ∷ us) in
    enough (λ s. unit_within s ((ts ++ marked (Equality e) ∷ us) ++ rest) ≡ Some (equality e t u, rest)) (length (ts ++ marked (Equality e) ∷ us))
    (λ s le. ap (unit_within (suc s)) (append_assoc ts (marked (Equality e) ∷ us) rest)
    ∙ from_term s (ts ++ marked (Equality e) ∷ (us ++ rest)) t (marked (Equality e) ∷ (us ++ rest)) (term_no_lead h (marked (Equality e) ∷ (us ++ rest)))
    (term_read h (suc s) (omega (arith, le, len)) (marked (Equality e) ∷ (us ++ rest)) refl)
    ∙ ap (λ o. o >>= λ (v : Term × List Token). Some (equality e t v.0, v.1)) (term_read k (suc s) (omega (arith, le, len)) rest ends.0)) steps lt

negation_read : (ts : List Token) (a : Sentence) → UnitRead ts a → UnitRead (marked Not ∷ ts) (negation a)
negation_read ts a h steps lt rest ends =
    enough (λ s. unit_within s (marked Not ∷ (ts ++ rest)) ≡ Some (negation a, rest)) (suc (length ts))
    (λ s le. unit_step s (marked Not ∷ (ts ++ rest)) ∙ ap (λ o. o >>= λ (b : Sentence × List Token). Some (negation b.0, b.1)) (h s (omega (arith, le)) rest ends)) steps lt

quantified_read : (q : Quantor) (ts : List Token) (a : Sentence) → ScopeRead q ts a → UnitRead (marked (Quantifier q) ∷ marked (Open Square) ∷ ts) a
quantified_read q ts a h steps lt rest ends =
    enough (λ s. unit_within s (marked (Quantifier q) ∷ marked (Open Square) ∷ (ts ++ rest)) ≡ Some (a, rest)) (suc (suc (length ts)))
    (λ s le. unit_step s (marked (Quantifier q) ∷ marked (Open Square) ∷ (ts ++ rest)) ∙ h s s (omega (arith, le)) (omega (arith, le)) rest ends) steps lt

group_read : (ts : List Token) (a : Sentence) → FormulaRead ts a → UnitRead (marked (Open Round) ∷ (ts ++ marked (Close Round) ∷ [])) a
group_read ts a h steps lt rest ends =
    let f : Sentence × List Token → Option (Sentence × List Token) = λ b. after_mark (Close Round) b.1 >>= λ out. Some (b.0, out) in
    enough (λ s. unit_within s (marked (Open Round) ∷ ((ts ++ marked (Close Round) ∷ []) ++ rest)) ≡ Some (a, rest)) (suc (length (ts ++ marked (Close Round) ∷ [])))
    (λ s le. unit_step s (marked (Open Round) ∷ ((ts ++ marked (Close Round) ∷ []) ++ rest))
    ∙ ap (λ xs. formula_within s xs >>= f) (append_assoc ts (marked (Close Round) ∷ []) rest)
    ∙ ap (λ o. o >>= f) (h s (omega (arith, le, length-append ts (marked (Close Round) ∷ []))) (marked (Close Round) ∷ rest) ((refl, refl), refl))) steps lt

last_variable_read : (q : Quantor) (w : List ℕ) (ts : List Token) (a : Sentence) → UnitRead ts a → ScopeRead q (upper w ∷ marked (Close Square) ∷ marked Colon ∷ ts) (quantified q w a)
last_variable_read q w ts a h steps zero lt lc rest ends = absurd (omega (arith, lc))
last_variable_read q w ts a h steps (suc c) lt lc rest ends = ap (λ o. o >>= λ (b : Sentence × List Token). Some (quantified q w b.0, b.1)) (h steps (omega (arith, lt)) rest ends)

more_variables_read : (q : Quantor) (w : List ℕ) (ts : List Token) (a : Sentence) → ScopeRead q ts a → ScopeRead q (upper w ∷ marked Comma ∷ ts) (quantified q w a)
more_variables_read q w ts a h steps zero lt lc rest ends = absurd (omega (arith, lc))
more_variables_read q w ts a h steps (suc c) lt lc rest ends =
    ap (λ o. o >>= λ (b : Sentence × List Token). Some (quantified q w b.0, b.1)) (h steps c (omega (arith, lt)) (omega (arith, lc)) rest ends)

-- Formulas

-- the chain ends where no operator follows
pub chain_end : (steps c : ℕ) (by : Option Operator) (a : Sentence) (rest : List Token) → 0 < c → next_operator by rest ≡ None → chain_by (unit_within steps) c by a rest ≡ Some (a, rest)
chain_end steps zero by a rest lt h = absurd (omega (arith, lt))
chain_end steps (suc c) by a rest lt h =
    ap (λ o. if_some o (Some (a, rest)) (λ p. unit_within steps p.1 >>= λ b. chain_by (unit_within steps) c (Some p.0) (binary p.0 a b.0) b.1)) h

no_next : (by : Option Operator) (ts : List Token) → one_token operator_of ts ≡ None → next_operator by ts ≡ None
no_next by ts h = ap (λ o. o >>= λ p. cond (can_join by p.0) (Some p) None) h

-- the chain goes on by an operator and a unit
pub chain_step : (steps c : ℕ) (by : Option Operator) (a : Sentence) (ts : List Token) (op : Operator) (us : List Token) (b : Sentence) (rest : List Token)
    → next_operator by ts ≡ Some (op, us) → unit_within steps us ≡ Some (b, rest)
    → chain_by (unit_within steps) (suc c) by a ts ≡ chain_by (unit_within steps) c (Some op) (binary op a b) rest
chain_step steps c by a ts op us b rest h k =
    ap (λ o. if_some o (Some (a, ts)) (λ p. unit_within steps p.1 >>= λ b. chain_by (unit_within steps) c (Some p.0) (binary p.0 a b.0) b.1)) h
    ∙ ap (λ o. o >>= λ (b : Sentence × List Token). chain_by (unit_within steps) c (Some op) (binary op a b.0) b.1) k

next_front : (by : Option Operator) (op : Operator) (us : List Token) → can_join by op ≡ true → next_operator by (marked (Binary op) ∷ us) ≡ Some (op, us)
next_front by op us h = ap (λ b. cond b (Some (op, us)) None) h

two_read : (op : Operator) (ts us : List Token) (a b : Sentence) → UnitRead ts a → UnitRead us b → JoinedRead op (ts ++ marked (Binary op) ∷ us) (binary op a b)
two_read op ts us a b h k steps extra lt rest ends =
    let len = length-append ts (marked (Binary op) ∷ us) in
    enough (λ s. (c : ℕ) × (extra < c) × (formula_within s ((ts ++ marked (Binary op) ∷ us) ++ rest) ≡ chain_by (unit_within s) c (Some op) (binary op a b) rest)) (length (ts ++ marked (Binary op) ∷ us) + extra)
    (λ s le. (
      s,
      omega (arith, le, len),
      ap (formula_within (suc s)) (append_assoc ts (marked (Binary op) ∷ us) rest)
          ∙ ap (λ o. o >>= λ (u : Sentence × List Token). chain_by (unit_within (suc s)) (suc s) None u.0 u.1) (h (suc s) (omega (arith, le, len)) (marked (Binary op) ∷ (us ++ rest)) (refl, refl))
          ∙ chain_step (suc s) s None a (marked (Binary op) ∷ (us ++ rest)) op (us ++ rest) b rest refl (k (suc s) (omega (arith, le, len)) rest ends),
    )) steps lt

-- where a chain was read up to an operator, it goes on
goes_on : (steps c extra : ℕ) (op : Operator) (a b : Sentence) (ts us rest : List Token) → extra < c → can_join (Some op) op ≡ true → unit_within steps us ≡ Some (b, rest)
    → formula_within steps ts ≡ chain_by (unit_within steps) c (Some op) a (marked (Binary op) ∷ us)
    → (d : ℕ) × (extra < suc d) × (formula_within steps ts ≡ chain_by (unit_within steps) d (Some op) (binary op a b) rest)
goes_on steps zero extra op a b ts us rest lt again h k = absurd (omega (arith, lt))
goes_on steps (suc c) extra op a b ts us rest lt again h k =
    (c, omega (arith, lt), k ∙ chain_step steps c (Some op) a (marked (Binary op) ∷ us) op us b rest (next_front (Some op) op us again) h)

more_units_read : (op : Operator) (ts us : List Token) (a b : Sentence) → Repeats op → JoinedRead op ts a → UnitRead us b → JoinedRead op (ts ++ marked (Binary op) ∷ us) (binary op a b)
more_units_read op ts us a b repeats h k steps extra lt rest ends =
    let len = length-append ts (marked (Binary op) ∷ us) in
    let i = h steps (suc (length us + extra)) (omega (arith, lt, len)) (marked (Binary op) ∷ (us ++ rest)) (refl, refl) in
    let g = goes_on steps i.0 (suc (length us + extra)) op a b (ts ++ marked (Binary op) ∷ (us ++ rest)) (us ++ rest) rest i.1 (repeats_again repeats) (k steps (omega (arith, lt, len)) rest ends) i.2 in
    (g.0, omega (arith, g.1), ap (formula_within steps) (append_assoc ts (marked (Binary op) ∷ us) rest) ∙ g.2)

mutual
  pub unit_read : {ts : List Token} {a : Sentence} → IsUnit ts a → UnitRead ts a
  unit_read (atom_ ts p us h) = atom_read ts p us h
  unit_read (equality_ e ts us t u h k) = equality_read e ts us t u h k
  unit_read (negation_ ts a h) = negation_read ts a (unit_read h)
  unit_read (quantified_ q ts a h) = quantified_read q ts a (scope_read h)
  unit_read (parentheses_ ts a h) = group_read ts a (formula_read h)

  scope_read : {q : Quantor} {ts : List Token} {a : Sentence} → IsScope q ts a → ScopeRead q ts a
  scope_read (last_variable q w ts a h) = last_variable_read q w ts a (unit_read h)
  scope_read (more_variables q w ts a h) = more_variables_read q w ts a (scope_read h)

  joined_read : {op : Operator} {ts : List Token} {a : Sentence} → IsJoined op ts a → JoinedRead op ts a
  joined_read (two op ts us a b h k) = two_read op ts us a b (unit_read h) (unit_read k)
  joined_read (more op ts us a b r h k) = more_units_read op ts us a b r (joined_read h) (unit_read k)

  pub formula_read : {ts : List Token} {a : Sentence} → IsFormula ts a → FormulaRead ts a
  formula_read (unit_ ts a h) = λ steps lt rest ends.
      ap (λ o. o >>= λ (u : Sentence × List Token). chain_by (unit_within steps) steps None u.0 u.1) (unit_read h steps lt rest ends.0)
      ∙ chain_end steps steps None a rest (omega (arith, lt)) (no_next None rest ends.1)
  formula_read (joined_ op ts a h) = λ steps lt rest ends.
      let j = joined_read h steps 0 (omega (arith, lt)) rest ends.0 in j.2 ∙ chain_end steps j.0 (Some op) a rest j.1 (no_next (Some op) rest ends.1)

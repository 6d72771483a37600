-- A text has no more tokens than bytes, and no more statements and symbols than tokens.
use Rattle.std.proofs.Common.{◌≡◌, ℕ, suc, ◌+◌, ◌≤◌, ◌<◌, Bool, true, false, cond, ◌||◌, List, [], ◌∷◌, ◌++◌, length, filter, refl, ap, ⊎_elim, arith, length-append}
use Rattle.std.specs.List.{flat_map}
use Rattle.std.proofs.lemmas.List.{length-map}
use Rattle.std.proofs.lemmas.List.Sums.{length-filter, count_by-le-length}
use Rattle.fol_core.specs.Syntax.{PlainFormula}
use Rattle.fol_core.specs.Symbol.{SymbolTable, Interns}
use Rattle.fol_core.specs.Symbol.{Symbol as Known}
use Rattle.fof_lex.specs.declared.token.Token.{Token as LexToken}
use Rattle.fof_lex.specs.Tokens.{AreIn}
use Rattle.fof_parse.specs.declared.token.Bracket.TheVariants.{Round}
use Rattle.fof_parse.specs.declared.token.Mark.TheVariants.{Close, Comma, Binary, Equality}
use Rattle.fof_parse.specs.declared.token.Operator.{Operator}
use Rattle.fof_parse.specs.declared.token.Quantifier.{Quantifier as Quantor}
use Rattle.fof_parse.specs.Token.{Token, Placed, marked}
use Rattle.fof_parse.specs.Grammar.{Symbol, word, defined, Term, Terms, no_terms, Sentence, Statement, IsApplied, alone, with_terms, IsTerm, variable_, number_, distinct_, applied_, AreTerms, last_, more_, IsUnit, atom_, equality_, negation_, quantified_, parentheses_, IsScope, last_variable, more_variables, IsJoined, two, more, IsFormula, unit_, joined_, is_stop, IsStatement}
use Rattle.fof_parse.specs.Problem.{Label, known, functions_in_term, functions_in_terms, functions_in, predicates_in, is_conjecture, InternsAll, ArePlain, AreLabels, formulas_in}
use Rattle.fof_parse.specs.Refusal.{first_of, behind_first, AreGood}

-- Tokens

pub tokens_fit : (bytes : List ℕ) (from : ℕ) (ts : List LexToken) → from ≤ length bytes → AreIn bytes from ts → from + length ts ≤ length bytes
tokens_fit bytes from [] h are = omega (arith, h)
tokens_fit bytes from (t ∷ ts) h are = omega (arith, are.0, are.1, tokens_fit bytes t.end ts are.2 are.4)

-- Symbols of terms

known_fit : (f : Symbol) (us : Terms) → length (known f us) ≤ 1
known_fit (word w) us = omega arith
known_fit (defined w) us = omega arith

mutual
  applied_fit : {ts : List Token} {f : Symbol} {us : Terms} → IsApplied ts f us → length (known f us) + length (functions_in_terms us) ≤ length ts
  applied_fit (alone t f h) = omega (arith, known_fit f no_terms)
  applied_fit (with_terms t f ts us h k) = omega (arith, known_fit f us, terms_fit k, length-append ts (marked (Close Round) ∷ []))

  term_fit : {ts : List Token} {u : Term} → IsTerm ts u → length (functions_in_term u) ≤ length ts
  term_fit (variable_ w) = omega arith
  term_fit (number_ w) = omega arith
  term_fit (distinct_ w) = omega arith
  term_fit (applied_ ts f us h) = omega (arith, applied_fit h, length-append (known f us) (functions_in_terms us))

  terms_fit : {ts : List Token} {us : Terms} → AreTerms ts us → length (functions_in_terms us) ≤ length ts
  terms_fit (last_ ts u h) = omega (arith, term_fit h, length-append (functions_in_term u) [])
  terms_fit (more_ ts rest u us h k) = omega (arith, term_fit h, terms_fit k, length-append (functions_in_term u) (functions_in_terms us), length-append ts (marked Comma ∷ rest))

-- Symbols of formulas

abbrev pub symbols_in : Sentence → ℕ
symbols_in s = length (functions_in s) + length (predicates_in s)

both_fit : (a b : Sentence) → (length (functions_in a ++ functions_in b) ≡ length (functions_in a) + length (functions_in b)) × (length (predicates_in a ++ predicates_in b) ≡ length (predicates_in a) + length (predicates_in b))
both_fit a b = (length-append (functions_in a) (functions_in b), length-append (predicates_in a) (predicates_in b))

mutual
  unit_fit : {ts : List Token} {s : Sentence} → IsUnit ts s → symbols_in s ≤ length ts
  unit_fit (atom_ ts p us h) = omega (arith, applied_fit h)
  unit_fit (equality_ e ts us t u h k) = omega (arith, term_fit h, term_fit k, length-append (functions_in_term t) (functions_in_term u), length-append ts (marked (Equality e) ∷ us))
  unit_fit (negation_ ts a h) = omega (arith, unit_fit h)
  unit_fit (quantified_ q ts a h) = omega (arith, scope_fit h)
  unit_fit (parentheses_ ts a h) = omega (arith, formula_fit h, length-append ts (marked (Close Round) ∷ []))

  scope_fit : {q : Quantor} {ts : List Token} {s : Sentence} → IsScope q ts s → symbols_in s ≤ length ts
  scope_fit (last_variable q w ts a h) = omega (arith, unit_fit h)
  scope_fit (more_variables q w ts a h) = omega (arith, scope_fit h)

  joined_fit : {op : Operator} {ts : List Token} {s : Sentence} → IsJoined op ts s → symbols_in s ≤ length ts
  joined_fit (two op ts us a b h k) = omega (arith, unit_fit h, unit_fit k, both_fit a b, length-append ts (marked (Binary op) ∷ us))
  joined_fit (more op ts us a b r h k) = omega (arith, joined_fit h, unit_fit k, both_fit a b, length-append ts (marked (Binary op) ∷ us))

  formula_fit : {ts : List Token} {s : Sentence} → IsFormula ts s → symbols_in s ≤ length ts
  formula_fit (unit_ ts a h) = unit_fit h
  formula_fit (joined_ op ts a h) = joined_fit h

-- Statements

statement_fit : (ts : List Token) (st : Statement) → IsStatement ts st → symbols_in st.formula ≤ length ts
statement_fit ts st h = omega (arith, formula_fit h.of_formula, ap length h.written, length-append h.body h.tail)

pub first_and_rest : (ts : List Placed) → length (first_of ts) + length (behind_first ts) ≡ length ts
first_and_rest [] = omega arith
first_and_rest (t ∷ ts) = split (is_stop t.token) (first_and_rest ts) where
  split : (b : Bool) → length (first_of ts) + length (behind_first ts) ≡ length ts
      → length (cond b (t.token ∷ []) (t.token ∷ first_of ts)) + length (cond b ts (behind_first ts)) ≡ suc (length ts)
  split true h = omega arith
  split false h = omega (arith, h)

pub some_first : (t : Placed) (ts : List Placed) → 0 < length (first_of (t ∷ ts))
some_first t ts = split (is_stop t.token) where
  split : (b : Bool) → 0 < length (cond b (t.token ∷ []) (t.token ∷ first_of ts))
  split true = omega arith
  split false = omega arith

pub statements_fit : (had : Bool) (ts : List Placed) (sts : List Statement) → AreGood had ts sts → length sts ≤ length ts
statements_fit had [] [] h = omega arith
statements_fit had [] (st ∷ sts) h = absurd h
statements_fit had (t ∷ ts) [] h = absurd h
statements_fit had (t ∷ ts) (st ∷ sts) h =
    omega (arith, statements_fit (had || is_conjecture st) (behind_first (t ∷ ts)) sts h.1, some_first t ts, first_and_rest (t ∷ ts))

-- the symbols of one kind
all_fit : (f : Sentence → List Known) → ((s : Sentence) → length (f s) ≤ symbols_in s) → (had : Bool) (ts : List Placed) (sts : List Statement) → AreGood had ts sts
    → length (flat_map (λ st. f st.formula) sts) ≤ length ts
all_fit f few had [] [] h = omega arith
all_fit f few had [] (st ∷ sts) h = absurd h
all_fit f few had (t ∷ ts) [] h = absurd h
all_fit f few had (t ∷ ts) (st ∷ sts) h =
    omega (
      arith,
      few st.formula,
      statement_fit (first_of (t ∷ ts)) st h.0.statement,
      all_fit f few (had || is_conjecture st) (behind_first (t ∷ ts)) sts h.1,
      first_and_rest (t ∷ ts),
      length-append (f st.formula) (flat_map (λ (s : Statement). f s.formula) sts),
    )

pub functions_fit : (had : Bool) (ts : List Placed) (sts : List Statement) → AreGood had ts sts → length (flat_map (λ st. functions_in st.formula) sts) ≤ length ts
functions_fit had ts sts h = all_fit functions_in (λ s. omega arith) had ts sts h

pub predicates_fit : (had : Bool) (ts : List Placed) (sts : List Statement) → AreGood had ts sts → length (flat_map (λ st. predicates_in st.formula) sts) ≤ length ts
predicates_fit had ts sts h = all_fit predicates_in (λ s. omega arith) had ts sts h

-- What becomes of them

interned_fit : (old new : List Known) (s : Known) → Interns old s new → length new ≤ length old + 1
interned_fit old new s h = ⊎_elim (λ here. omega (arith, ap length here.2)) (λ added. omega (arith, ap length added.1, length-append old (s ∷ []))) h

pub all_interned_fit : (old new ss : List Known) → InternsAll old ss new → length new ≤ length old + length ss
all_interned_fit old new [] h = omega (arith, ap length h)
all_interned_fit old new (s ∷ ss) h = omega (arith, interned_fit old h.0 s h.1, all_interned_fit h.0 new ss h.2)

pub as_many_plain : (table : SymbolTable) (ss : List Sentence) (bs : List PlainFormula) → ArePlain table ss bs → length bs ≡ length ss
as_many_plain table [] [] h = refl
as_many_plain table [] (b ∷ bs) h = absurd h
as_many_plain table (s ∷ ss) [] h = absurd h
as_many_plain table (s ∷ ss) (b ∷ bs) h = ap suc (as_many_plain table ss bs h.1)

pub as_many_labels : (sts : List Statement) (ls : List Label) → AreLabels sts ls → length ls ≡ length sts
as_many_labels [] [] h = refl
as_many_labels [] (l ∷ ls) h = absurd h
as_many_labels (st ∷ sts) [] h = absurd h
as_many_labels (st ∷ sts) (l ∷ ls) h = ap suc (as_many_labels sts ls h.2)

pub formulas_fit : (p : Statement → Bool) (sts : List Statement) → length (formulas_in p sts) ≤ length sts
formulas_fit p sts = omega (arith, length-map (filter p sts) (λ (st : Statement). st.formula), length-filter p sts, count_by-le-length p sts)

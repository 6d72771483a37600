-- Each text is a problem, or is refused.
use Rattle.std.proofs.Common.{◌≡◌, ◌≢◌, ℕ, zero, suc, ◌<◌, ◌≤◌, Bool, true, false, cond, not, List, [], ◌∷◌, ◌++◌, length, map, Option, Some, None, refl, sym, ap, subst, ◌∙◌, ◌⊎◌, inl, inr, ⊎_elim, arith}
use Rattle.std.specs.Option.{is_some}
use Rattle.std.specs.Str.{bytes_eq}
use Rattle.std.proofs.lemmas.Bool.{false≢true, and_parts, cases_eq, cases_lt}
use Rattle.std.proofs.lemmas.Slice.Eq.{bytes_eq-Decides}
use Rattle.fol_core.specs.Syntax.{PlainTerm, PlainTerms, PlainFormula}
use Rattle.fol_core.specs.Syntax as syntax
use Rattle.fol_core.specs.Symbol.{Symbol as Known, SymbolTable, IsAt, IsNowhere, Interns}
use Rattle.fof_lex.specs.Tokens.{Lexes}
use Rattle.fof_lex.specs.declared.token.Token.{Token as LexToken}
use Rattle.fof_lex.proofs.Steps.{some_reading}
use Rattle.fof_parse.specs.declared.refusal.BadKind.{BadKind}
use Rattle.fof_parse.specs.declared.refusal.BadKind.TheVariants as kinds
use Rattle.fof_parse.specs.declared.read.ReadError.TheVariants.{TooLarge, Lex, Bad}
use Rattle.fof_parse.specs.Token.{Token, Placed, placed}
use Rattle.fof_parse.specs.Grammar.{word, defined, Term, variable, numeral, object, applied, Terms, no_terms, terms, Sentence, atom, equality, negation, binary, quantified, Statement, IsStatement}
use Rattle.fof_parse.specs.Problem.{PlainProblem, Label, empty_problem, role_of, is_conjecture, binder, is_closed_term, are_closed_terms, is_closed, functions_in_term, functions_in_terms, functions_in, predicates_in, truth, plain_binary, plain_quantified, InternsAll, IsPlainTerm, ArePlainTerms, IsPlain}
use Rattle.fof_parse.specs.Refusal.{fault_if, term_fault, terms_fault, element_fault, early_fault, late_fault, IsBad, is_early, no_statement, is_late, FirstBad, first_of, behind_first}
use Rattle.fof_parse.specs.Reader.Reading.{statement_within}
use Rattle.fof_parse.specs.Reader.Adding.{Places, Adds}
use Rattle.fof_parse.specs.Reader.Chunks.{has_conjecture, Takes, ReadSoFar}
use Rattle.fof_parse.specs.TheProblem.{most_bytes, HasProblem, IsGoodText}
use Rattle.fof_parse.specs.Refused.{HasRefusal}
use Rattle.fof_parse.proofs.Effects.{interns_all_keeps, or_else-parts}
use Rattle.fof_parse.proofs.Means.{no_equality}
use Rattle.fof_parse.proofs.Statements.{statement_is}
use Rattle.fof_parse.proofs.Judging.{refuted}
use Rattle.fof_parse.proofs.Lengths.{first_and_rest, some_first}
use Rattle.fof_parse.proofs.Taking.{faultless, nothing_so_far, one_statement_more, bad_statement, whole_text}
use Rattle.fof_parse.proofs.Once.{the_problem}
use Rattle.fof_parse.proofs.Apart.{good_not_refused}

-- Symbols

same_symbol : (x s : Known) → (x ≡ s) ⊎ (x ≢ s)
same_symbol x s = by_name (bytes_eq x.0 s.0) refl (cases_eq x.1 s.1) where
  by_name : (b : Bool) → bytes_eq x.0 s.0 ≡ b → (x.1 ≡ s.1) ⊎ (x.1 ≢ s.1) → (x ≡ s) ⊎ (x ≢ s)
  by_name true e (inl count) = inl (λ i. ((bytes_eq-Decides x.0 s.0).0 e i, count i))
  by_name true e (inr other) = inr (λ same. other (ap (λ (t : Known). t.1) same))
  by_name false e counts = inr (λ same. false≢true (sym e ∙ (bytes_eq-Decides x.0 s.0).1 (ap (λ (t : Known). t.0) same)))

not_in : (x : Known) (xs : List Known) (s : Known) → x ≢ s → IsNowhere xs s → (n : ℕ) → IsAt (x ∷ xs) s n → ⊥
not_in x xs s other nowhere zero h = let e : x ≡ s = cc (h) in other e
not_in x xs s other nowhere (suc n) h = nowhere n h

-- the symbol stands at some place of the list, or nowhere in it
find : (list : List Known) (s : Known) → ((n : ℕ) × IsAt list s n) ⊎ IsNowhere list s
find [] s = inr (λ n h. cc)
find (x ∷ xs) s =
    ⊎_elim (λ same. inl (zero, ap Some same))
    (λ other. ⊎_elim (λ later. inl (suc later.0, later.1)) (λ nowhere. inr (not_in x xs s other nowhere)) (find xs s)) (same_symbol x s)

intern : (old : List Known) (s : Known) → (new : List Known) × Interns old s new
intern old s =
    ⊎_elim (λ here. (old, inl (here.0, here.1, refl))) (λ nowhere. (old ++ s ∷ [], inr (nowhere, refl))) (find old s)

intern_all : (old ss : List Known) → (new : List Known) × InternsAll old ss new
intern_all old [] = (old, refl)
intern_all old (s ∷ ss) = let a = intern old s in let b = intern_all a.0 ss in (b.0, (a.0, a.1, b.1))

-- each of the symbols has a number in the list
abbrev AreAt : List Known → List Known → Type 0
AreAt list [] = Unit {0}
AreAt list (s ∷ ss) = ((n : ℕ) × IsAt list s n) × AreAt list ss

at_end : (xs : List Known) (s : Known) → IsAt (xs ++ s ∷ []) s (length xs)
at_end [] s = refl
at_end (x ∷ xs) s = at_end xs s

interned_at : (old new : List Known) (s : Known) → Interns old s new → (n : ℕ) × IsAt new s n
interned_at old new s h =
    ⊎_elim (λ here. (here.0, subst (λ table. IsAt table s here.0) (sym here.2) here.1))
    (λ added. (length old, subst (λ table. IsAt table s (length old)) (sym added.1) (at_end old s))) h

all_at : (old new ss : List Known) → InternsAll old ss new → AreAt new ss
all_at old new [] h = tt
all_at old new (s ∷ ss) h =
    let n = interned_at old h.0 s h.1 in ((n.0, interns_all_keeps h.0 new ss s n.0 h.2 n.1), all_at h.0 new ss h.2)

at_parts : (list ss ts : List Known) → AreAt list (ss ++ ts) → AreAt list ss × AreAt list ts
at_parts list [] ts h = (tt, h)
at_parts list (s ∷ ss) ts h = let r = at_parts list ss ts h.1 in ((h.0, r.0), r.1)

-- Formulas

some_of : {A : Type 0} (o : Option A) → is_some o ≡ true → (x : A) × (o ≡ Some x)
some_of None h = absurd (false≢true h)
some_of (Some x) h = (x, refl)

truth_of : (o : Option PlainFormula) → fault_if (not (is_some o)) kinds.Dollar ≡ None → (a : PlainFormula) × (o ≡ Some a)
truth_of None h = cc
truth_of (Some a) h = (a, refl)

mutual
  plain_term : (fs : List Known) (vs : List (List ℕ)) (u : Term) → term_fault u ≡ None → is_closed_term vs u ≡ true → AreAt fs (functions_in_term u) → (t : PlainTerm) × IsPlainTerm fs vs u t
  plain_term fs vs (variable w) none closed at = let b = some_of (binder vs w) closed in (syntax.bound b.0, (b.0, b.1, refl))
  plain_term fs vs (numeral w) none closed at = cc
  plain_term fs vs (object w) none closed at = cc
  plain_term fs vs (applied (defined w) us) none closed at = cc
  plain_term fs vs (applied (word w) us) none closed at =
      let r = plain_terms fs vs us none closed at.1 in (syntax.app at.0.0 r.0, (at.0.0, r.0, at.0.1, r.1, refl))

  plain_terms : (fs : List Known) (vs : List (List ℕ)) (us : Terms) → terms_fault us ≡ None → are_closed_terms vs us ≡ true → AreAt fs (functions_in_terms us) → (ts : PlainTerms) × ArePlainTerms fs vs us ts
  plain_terms fs vs no_terms none closed at = (syntax.no_terms, refl)
  plain_terms fs vs (terms u us) none closed at =
      let f = or_else-parts (term_fault u) (terms_fault us) none in
      let c = and_parts (is_closed_term vs u) (are_closed_terms vs us) closed in
      let a = at_parts fs (functions_in_term u) (functions_in_terms us) at in
      let t = plain_term fs vs u f.0 c.0 a.0 in
      let r = plain_terms fs vs us f.1 c.1 a.1 in
      (syntax.terms t.0 r.0, (t.0, r.0, t.1, r.1, refl))

plain_formula : (table : SymbolTable) (vs : List (List ℕ)) (s : Sentence) → element_fault s ≡ None → is_closed vs s ≡ true → AreAt table.functions (functions_in s) → AreAt table.predicates (predicates_in s)
    → (a : PlainFormula) × IsPlain table vs s a
plain_formula table vs (atom (word w) us) none closed fs ps =
    let r = plain_terms table.functions vs us none closed fs in (syntax.atom ps.0.0 r.0, (ps.0.0, r.0, ps.0.1, r.1, refl))
plain_formula table vs (atom (defined w) us) none closed fs ps = truth_of (truth w us) none
plain_formula table vs (equality e t u) none closed fs ps = absurd (no_equality (term_fault t) none)
plain_formula table vs (negation s) none closed fs ps =
    let r = plain_formula table vs s none closed fs ps in (syntax.not r.0, (r.0, r.1, refl))
plain_formula table vs (binary op s t) none closed fs ps =
    let f = or_else-parts (element_fault s) (element_fault t) none in
    let c = and_parts (is_closed vs s) (is_closed vs t) closed in
    let g = at_parts table.functions (functions_in s) (functions_in t) fs in
    let q = at_parts table.predicates (predicates_in s) (predicates_in t) ps in
    let a = plain_formula table vs s f.0 c.0 g.0 q.0 in
    let b = plain_formula table vs t f.1 c.1 g.1 q.1 in
    (plain_binary op a.0 b.0, (a.0, b.0, a.1, b.1, refl))
plain_formula table vs (quantified q w s) none closed fs ps =
    let r = plain_formula table (vs ++ w ∷ []) s none closed fs ps in (plain_quantified q r.0, (r.0, r.1, refl))

-- Statements

-- the problem with this table and these labels, in which the formula has its place
abbrev put : Bool → PlainFormula → PlainProblem → SymbolTable → List Label → PlainProblem
put b a old table labels =
    record { symbols = table; labels = labels; axioms = cond b old.axioms (old.axioms ++ a ∷ []); conjecture = cond b (Some a) old.conjecture }

put_places : (b : Bool) (a : PlainFormula) (old : PlainProblem) (table : SymbolTable) (labels : List Label) → Places b a old (put b a old table labels)
put_places true a old table labels = (refl, refl)
put_places false a old table labels = (refl, refl)

add_one : (old : PlainProblem) (st : Statement) → late_fault (has_conjecture old) st ≡ None → (new : PlainProblem) × Adds old st new
add_one old st late =
    let f = faultless (has_conjecture old) st late in
    let fs = intern_all old.symbols.functions (functions_in st.formula) in
    let ps = intern_all old.symbols.predicates (predicates_in st.formula) in
    let table : SymbolTable = record { functions = fs.0; predicates = ps.0 } in
    let plain = plain_formula table [] st.formula f.element f.closed (all_at old.symbols.functions fs.0 (functions_in st.formula) fs.1) (all_at old.symbols.predicates ps.0 (predicates_in st.formula) ps.1) in
    let role = some_of (role_of st.role) f.role in
    let label : Label = record { name = st.name; role = role.0 } in
    let labels = old.labels ++ label ∷ [] in (
      put (is_conjecture st) plain.0 old table labels,
      record {
        functions = fs.1;
        predicates = ps.1;
        label = label;
        name = refl;
        role = role.1;
        labels = refl;
        plain = plain.0;
        is_plain = plain.1;
        placed = put_places (is_conjecture st) plain.0 old table labels;
      },
    )

-- a statement is put into the problem, or is bad
abbrev TakesOrBad : PlainProblem → List Token → Type 0
TakesOrBad old ts = ((new : PlainProblem) × Takes old ts new) ⊎ ((k : BadKind) × IsBad (has_conjecture old) ts k)

by_late : (old : PlainProblem) (ts : List Token) (st : Statement) → early_fault ts ≡ None → IsStatement ts st → (o : Option BadKind) → late_fault (has_conjecture old) st ≡ o → TakesOrBad old ts
by_late old ts st early is None late =
    let a = add_one old st late in
    inl (a.0, record { statement = st; good = record { early = early; statement = is; late = late }; adds = a.1 })
by_late old ts st early is (Some k) late = inr (k, is_late k st early is late)

by_statement : (old : PlainProblem) (ts : List Token) → early_fault ts ≡ None → (o : Option Statement) → statement_within (suc (length ts)) ts ≡ o → TakesOrBad old ts
by_statement old ts early None e = inr (kinds.Syntax, no_statement early (refuted ts e))
by_statement old ts early (Some st) e =
    by_late old ts st early (statement_is (suc (length ts)) ts st e) (late_fault (has_conjecture old) st) refl

by_early : (old : PlainProblem) (ts : List Token) (o : Option BadKind) → early_fault ts ≡ o → TakesOrBad old ts
by_early old ts None e = by_statement old ts e (statement_within (suc (length ts)) ts) refl
by_early old ts (Some k) e = inr (k, is_early k e)

takes_or_bad : (old : PlainProblem) (ts : List Token) → TakesOrBad old ts
takes_or_bad old ts = by_early old ts (early_fault ts) refl

-- Texts

read_rest : (steps : ℕ) (ts rest : List Placed) (old : PlainProblem) → length rest < steps → ReadSoFar ts rest old
    → ((problem : PlainProblem) × ReadSoFar ts [] problem) ⊎ ((at : ℕ) × (k : BadKind) × FirstBad false ts at k)
read_rest zero ts rest old few s = absurd (omega (arith, few))
read_rest (suc steps) ts [] old few s = inl (old, s)
read_rest (suc steps) ts (t ∷ rest) old few s =
    ⊎_elim (λ more. read_rest steps ts (behind_first (t ∷ rest)) more.0 (omega (arith, few, some_first t rest, first_and_rest (t ∷ rest)))
    (one_statement_more ts t rest (behind_first (t ∷ rest)) (first_of (t ∷ rest)) old more.0 s refl refl more.1))
    (λ bad. inr (t.offset, bad.0, bad_statement ts t rest (first_of (t ∷ rest)) old bad.0 s refl bad.1))
    (takes_or_bad old (first_of (t ∷ rest)))

by_tokens : (bytes : List ℕ) (tokens : List LexToken) → length bytes ≤ most_bytes → Lexes 0 bytes tokens → HasProblem bytes ⊎ HasRefusal bytes
by_tokens bytes tokens within lexed =
    let ts = map (placed bytes) tokens in
    ⊎_elim (λ r. let w = whole_text ts r.0 r.1 in
    inl (r.0, the_problem bytes r.0 (record { within = within; tokens = tokens; lexed = lexed; statements = w.0; good = w.1; meaning = w.2 })))
    (λ b. inr (Bad b.0 b.1, (λ e. cc), record { within = within; tokens = tokens; lexed = lexed; bad = b.2 }))
    (read_rest (suc (length ts)) ts ts empty_problem (omega arith) (nothing_so_far ts empty_problem refl))

pub problem_or_refusal : (bytes : List ℕ) → HasProblem bytes ⊎ HasRefusal bytes
problem_or_refusal bytes =
    ⊎_elim (λ large. inr (TooLarge, (λ e. cc), large))
    (λ within. ⊎_elim (λ r. by_tokens bytes r.0 within r.1) (λ r. inr (Lex r.0, (λ e. cc), record { within = within; fails = r.1 })) (some_reading bytes))
    (cases_lt most_bytes (length bytes))

-- a text whose statements are without a fault
pub good_has_problem : (bytes : List ℕ) → IsGoodText bytes → HasProblem bytes
good_has_problem bytes g = ⊎_elim (λ p. p) (λ r. absurd (good_not_refused bytes g r.0 r.1 r.2)) (problem_or_refusal bytes)

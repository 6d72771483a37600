-- A text is the text of one problem.
use Rattle.std.proofs.Common.{◌≡◌, ℕ, zero, suc, Bool, ◌||◌, List, [], ◌∷◌, ◌++◌, length, map, Option, Some, None, refl, sym, ap, subst, ◌∙◌, ⊎_elim, ◌⊎◌, inl, inr, not}
use Rattle.std.specs.Prelude.{option_to_list}
use Rattle.std.specs.List.{flat_map}
use Rattle.fol_core.specs.Syntax.{PlainTerm, PlainTerms, PlainFormula}
use Rattle.fol_core.specs.Syntax as syntax
use Rattle.fol_core.specs.Symbol.{SymbolTable, IsAt, IsNowhere, Interns}
use Rattle.fol_core.specs.Symbol.{Symbol as Known}
use Rattle.fof_lex.proofs.Steps.{one_list}
use Rattle.fof_parse.specs.Token.{Placed, placed}
use Rattle.fof_parse.specs.Grammar.{word, defined, Term, variable, numeral, object, applied, Terms, no_terms, terms, Sentence, atom, equality, negation, binary, quantified, Statement}
use Rattle.fof_parse.specs.Problem.{PlainProblem, Label, role_of, is_conjecture, count, functions_in, predicates_in, InternsAll, plain_binary, plain_quantified, IsPlainTerm, ArePlainTerms, IsPlain, ArePlain, AreLabels, formulas_in, IsProblemOf}
use Rattle.fof_parse.specs.Refusal.{AreGood, first_of, behind_first}
use Rattle.fof_parse.specs.TheProblem.{IsProblemText, IsTheProblem}
use Rattle.fof_parse.proofs.Statements.{one_statement}

statements_once : (had : Bool) (ts : List Placed) (xs ys : List Statement) → AreGood had ts xs → AreGood had ts ys → xs ≡ ys
statements_once had [] [] [] h k = refl
statements_once had [] [] (y ∷ ys) h k = absurd k
statements_once had [] (x ∷ xs) ys h k = absurd h
statements_once had (t ∷ ts) [] ys h k = absurd h
statements_once had (t ∷ ts) (x ∷ xs) [] h k = absurd k
statements_once had (t ∷ ts) (x ∷ xs) (y ∷ ys) h k =
    let same = one_statement (first_of (t ∷ ts)) x y h.0.statement k.0.statement in
    ap (λ z. z ∷ xs) same
    ∙ ap (λ zs. y ∷ zs) (statements_once (had || is_conjecture y) (behind_first (t ∷ ts)) xs ys (subst (λ z. AreGood (had || is_conjecture z) (behind_first (t ∷ ts)) xs) same h.1) k.1)

-- no symbol stands at two places
abbrev AreOnce : List Known → Type 0
AreOnce list = (m n : ℕ) (s : Known) → IsAt list s m → IsAt list s n → m ≡ n

none_twice : AreOnce []
none_twice m n s h k = cc

at_end : (xs : List Known) (s t : Known) (n : ℕ) → IsAt (xs ++ s ∷ []) t n → IsAt xs t n ⊎ ((n ≡ length xs) × (t ≡ s))
at_end [] s t zero h = inr (refl, cc)
at_end [] s t (suc n) h = cc
at_end (x ∷ xs) s t zero h = inl h
at_end (x ∷ xs) s t (suc n) h = ⊎_elim (λ here. inl here) (λ last. inr (ap suc last.0, last.1)) (at_end xs s t n h)

added_once : (xs : List Known) (s : Known) → AreOnce xs → IsNowhere xs s → AreOnce (xs ++ s ∷ [])
added_once xs s once nowhere m n t h k =
    ⊎_elim (λ a. ⊎_elim (λ b. once m n t a b) (λ b. absurd (nowhere m (subst (λ u. IsAt xs u m) b.1 a))) (at_end xs s t n k))
    (λ a. ⊎_elim (λ b. absurd (nowhere n (subst (λ u. IsAt xs u n) a.1 b))) (λ b. a.0 ∙ sym b.0) (at_end xs s t n k)) (at_end xs s t m h)

interned_once : (old new : List Known) (s : Known) → AreOnce old → Interns old s new → AreOnce new
interned_once old new s once h =
    ⊎_elim (λ here. subst AreOnce (sym here.2) once) (λ added. subst AreOnce (sym added.1) (added_once old s once added.0)) h

all_interned_once : (old new ss : List Known) → AreOnce old → InternsAll old ss new → AreOnce new
all_interned_once old new [] once h = subst AreOnce (sym h) once
all_interned_once old new (s ∷ ss) once h = all_interned_once h.0 new ss (interned_once old h.0 s once h.1) h.2

one_interning : (old a b : List Known) (s : Known) → Interns old s a → Interns old s b → a ≡ b
one_interning old a b s h k =
    ⊎_elim (λ x. ⊎_elim (λ y. x.2 ∙ sym y.2) (λ y. absurd (y.0 x.0 x.1)) k) (λ x. ⊎_elim (λ y. absurd (x.0 y.0 y.1)) (λ y. x.1 ∙ sym y.1) k) h

one_table : (old a b ss : List Known) → InternsAll old ss a → InternsAll old ss b → a ≡ b
one_table old a b [] h k = h ∙ sym k
one_table old a b (s ∷ ss) h k =
    one_table k.0 a b ss (subst (λ mid. InternsAll mid ss a) (one_interning old h.0 k.0 s h.1 k.1) h.2) k.2

some_same : {A : Type 0} (x y : A) (o : Option A) → o ≡ Some x → o ≡ Some y → x ≡ y
some_same x y o h k = cc

module _ (fs : List Known) (once : (m n : ℕ) (s : Known) → IsAt fs s m → IsAt fs s n → m ≡ n) (vs : List (List ℕ)) where
  mutual
    one_term : (u : Term) (a b : PlainTerm) → IsPlainTerm fs vs u a → IsPlainTerm fs vs u b → a ≡ b
    one_term (variable w) a b (m, at, same) (n, at', same') = same ∙ ap syntax.bound (some_same m n _ at at') ∙ sym same'
    one_term (numeral w) a b h k = absurd h
    one_term (object w) a b h k = absurd h
    one_term (applied (defined w) us) a b h k = absurd h
    one_term (applied (word w) us) a b (m, ts, at, h, same) (n, rs, at', k, same') =
        same ∙ ap (λ x. syntax.app x ts) (once m n (w, count us) at at') ∙ ap (syntax.app n) (one_list_of_terms us ts rs h k) ∙ sym same'

    one_list_of_terms : (us : Terms) (ts rs : PlainTerms) → ArePlainTerms fs vs us ts → ArePlainTerms fs vs us rs → ts ≡ rs
    one_list_of_terms no_terms ts rs h k = h ∙ sym k
    one_list_of_terms (terms u us) ts rs (a, xs, h, hs, same) (b, ys, k, ks, same') =
        same ∙ ap (λ x. syntax.terms x xs) (one_term u a b h k) ∙ ap (syntax.terms b) (one_list_of_terms us xs ys hs ks) ∙ sym same'

module _ (table : SymbolTable) (fs : (m n : ℕ) (s : Known) → IsAt table.functions s m → IsAt table.functions s n → m ≡ n) (ps : (m n : ℕ) (s : Known) → IsAt table.predicates s m → IsAt table.predicates s n → m ≡ n) where
  one_plain : (vs : List (List ℕ)) (s : Sentence) (a b : PlainFormula) → IsPlain table vs s a → IsPlain table vs s b → a ≡ b
  one_plain vs (atom (word w) us) a b (m, ts, at, h, same) (n, rs, at', k, same') =
      same ∙ ap (λ x. syntax.atom x ts) (ps m n (w, count us) at at') ∙ ap (syntax.atom n) (one_list_of_terms table.functions fs vs us ts rs h k) ∙ sym same'
  one_plain vs (atom (defined w) us) a b h k = some_same a b _ h k
  one_plain vs (equality e t u) a b h k = absurd h
  one_plain vs (negation s) a b (c, h, same) (d, k, same') = same ∙ ap syntax.not (one_plain vs s c d h k) ∙ sym same'
  one_plain vs (binary op s t) a b (c, d, h, g, same) (e, f, k, l, same') =
      same ∙ ap (λ x. plain_binary op x d) (one_plain vs s c e h k) ∙ ap (λ y. plain_binary op e y) (one_plain vs t d f g l) ∙ sym same'
  one_plain vs (quantified q w s) a b (c, h, same) (d, k, same') = same ∙ ap (plain_quantified q) (one_plain (vs ++ w ∷ []) s c d h k) ∙ sym same'

  all_plain : (ss : List Sentence) (xs bs : List PlainFormula) → ArePlain table ss xs → ArePlain table ss bs → xs ≡ bs
  all_plain [] [] [] h k = refl
  all_plain [] [] (b ∷ bs) h k = absurd k
  all_plain [] (a ∷ xs) bs h k = absurd h
  all_plain (s ∷ ss) [] bs h k = absurd h
  all_plain (s ∷ ss) (a ∷ xs) [] h k = absurd k
  all_plain (s ∷ ss) (a ∷ xs) (b ∷ bs) h k = ap (λ x. x ∷ xs) (one_plain [] s a b h.0 k.0) ∙ ap (λ zs. b ∷ zs) (all_plain ss xs bs h.1 k.1)

all_labels : (sts : List Statement) (ls ms : List Label) → AreLabels sts ls → AreLabels sts ms → ls ≡ ms
all_labels [] [] [] h k = refl
all_labels [] [] (m ∷ ms) h k = absurd k
all_labels [] (l ∷ ls) ms h k = absurd h
all_labels (st ∷ sts) [] ms h k = absurd h
all_labels (st ∷ sts) (l ∷ ls) [] h k = absurd k
all_labels (st ∷ sts) (l ∷ ls) (m ∷ ms) h k =
    let name = h.0 ∙ sym k.0 in
    let role = some_same l.role m.role (role_of st.role) h.1 k.1 in
    let rest = all_labels sts ls ms h.2 k.2 in
    λ i. record { name = name i; role = role i } ∷ rest i

one_option : (a b : Option PlainFormula) → option_to_list a ≡ option_to_list b → a ≡ b
one_option None None e = refl
one_option None (Some y) e = cc
one_option (Some x) None e = cc
one_option (Some x) (Some y) e = cc

one_meaning : (sts : List Statement) (p q : PlainProblem) → IsProblemOf sts p → IsProblemOf sts q → p ≡ q
one_meaning sts p q h k =
    let fs = flat_map (λ (st : Statement). functions_in st.formula) sts in
    let ps = flat_map (λ (st : Statement). predicates_in st.formula) sts in
    let functions = one_table [] p.symbols.functions q.symbols.functions fs h.functions k.functions in
    let predicates = one_table [] p.symbols.predicates q.symbols.predicates ps h.predicates k.predicates in
    let table : p.symbols ≡ q.symbols = λ i. record { functions = functions i; predicates = predicates i } in
    let fonce = all_interned_once [] q.symbols.functions fs none_twice k.functions in
    let ponce = all_interned_once [] q.symbols.predicates ps none_twice k.predicates in
    let labels = all_labels sts p.labels q.labels h.labels k.labels in
    let axioms_in = formulas_in (λ st. not (is_conjecture st)) sts in
    let conjectures_in = formulas_in is_conjecture sts in
    let axioms = all_plain q.symbols fonce ponce axioms_in p.axioms q.axioms (subst (λ t. ArePlain t axioms_in p.axioms) table h.axioms) k.axioms in
    let conjecture =
    one_option p.conjecture q.conjecture
    (all_plain q.symbols fonce ponce conjectures_in (option_to_list p.conjecture) (option_to_list q.conjecture)
    (subst (λ t. ArePlain t conjectures_in (option_to_list p.conjecture)) table h.conjecture) k.conjecture)
    in
    λ i. record { symbols = table i; labels = labels i; axioms = axioms i; conjecture = conjecture i }

one_problem : (bytes : List ℕ) (p q : PlainProblem) → IsProblemText bytes p → IsProblemText bytes q → p ≡ q
one_problem bytes p q h k =
    let tokens = one_list 0 bytes h.tokens k.tokens h.lexed k.lexed in
    let good = subst (λ ts. AreGood _ (map (placed bytes) ts) h.statements) tokens h.good in
    one_meaning k.statements p q
    (subst (λ sts. IsProblemOf sts p) (statements_once _ (map (placed bytes) k.tokens) h.statements k.statements good k.good) h.meaning) k.meaning

pub the_problem : (bytes : List ℕ) (p : PlainProblem) → IsProblemText bytes p → IsTheProblem bytes p
the_problem bytes p h = record { is_text = h; only = λ q k. one_problem bytes q p k h }

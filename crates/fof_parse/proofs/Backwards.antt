-- What is read from the left stands in front by the grammar.
use Rattle.std.proofs.Common.{◌≡◌, ℕ, zero, suc, true, List, [], ◌∷◌, ◌++◌, Option, Some, None, refl, sym, ap, subst, ◌∙◌, append_assoc}
use Rattle.fof_parse.specs.declared.token.Operator.{Operator}
use Rattle.fof_parse.specs.declared.token.Quantifier.{Quantifier as Quantor}
use Rattle.fof_parse.specs.declared.token.Bracket.TheVariants.{Round, Square}
use Rattle.fof_parse.specs.declared.token.Mark.TheVariants.{Open, Close, Comma, Colon, Not, Quantifier, Binary, Equality}
use Rattle.fof_parse.specs.Token.{Token, upper, marked}
use Rattle.fof_parse.specs.Grammar.{Symbol, Term, variable, numeral, object, applied, Terms, no_terms, terms, Sentence, atom, equality, negation, binary, quantified, IsSymbol, alone, with_terms, IsTerm, variable_, number_, distinct_, applied_, AreTerms, last_, more_, IsUnit, atom_, equality_, negation_, quantified_, parentheses_, IsScope, last_variable, more_variables, IsJoined, two, more, IsFormula, unit_, joined_}
use Rattle.fof_parse.specs.Reader.Reading.{if_some, after_mark, Reader, one_token, Head, symbol_head, variable_head, numeral_head, object_head, head_of, Lead, negation_lead, group_lead, quantifier_lead, lead_of, equality_of, variable_of, arguments_by, headed_by, term_by, terms_by, term_within, equated_by, atom_of, led_by, scope_by, body_by, bound_by, unit_by, can_join, next_operator, chain_by, formula_by, unit_within, formula_within}
use Rattle.fof_parse.proofs.Fronts.{bind_some, after_mark_is, one_token_is, lead_token, lead_of_is, equality_of_is, variable_of_is, IsHead, head_of_is, next_operator_is, can_repeat}
use Rattle.fof_parse.proofs.Forwards.{term_none, term_step, unit_none, unit_step}

-- A part of some kind stands in front.
pub record Stands {A : Type 0} (Is : List Token → A → Type 0) (ts : List Token) (a : A) (rest : List Token) : Type 0 where
  pub front : List Token
  pub is : Is front a
  pub cut : ts ≡ front ++ rest

abbrev pub Sound : {A : Type 0} → (List Token → A → Type 0) → Reader A → Type 0
Sound {A = A} Is read = (ts : List Token) (a : A) (rest : List Token) → read ts ≡ Some (a, rest) → Stands Is ts a rest

-- whether something was read, by cases
pub either_way : {A B : Type 0} (o : Option A) (last : Option B) (next : A → Option B) (y : B) (P : Type 0) → if_some o last next ≡ Some y
    → (o ≡ None → last ≡ Some y → P) → ((x : A) → o ≡ Some x → next x ≡ Some y → P) → P
either_way None last next y P h none some = none refl h
either_way (Some x) last next y P h none some = some x refl h

-- Terms

arguments_sound : (arguments : Reader Terms) → Sound AreTerms arguments → (t : Token) (f : Symbol) → IsSymbol t f → (ts : List Token) (u : Term) (rest : List Token)
    → arguments_by arguments f ts ≡ Some (u, rest) → Stands IsTerm (t ∷ ts) u rest
arguments_sound arguments sound t f symbol ts u rest h =
    either_way (after_mark (Open Round) ts) _ _ (u, rest) (Stands IsTerm (t ∷ ts) u rest) h
    (λ none k.
    let e : ◌≡◌ {A = Term × List Token} (applied f no_terms, ts) (u, rest) = cc (k) in
    subst (λ (p : Term × List Token). Stands IsTerm (t ∷ ts) p.0 p.1) e (record { front = t ∷ []; is = applied_ _ _ _ (alone t f symbol); cut = refl }))
    (λ inner opened k.
    let x = bind_some (arguments inner) _ (u, rest) k in
    let y = bind_some (after_mark (Close Round) x.0.1) _ (u, rest) x.2 in
    let s = sound inner x.0.0 x.0.1 x.1 in
    let e : ◌≡◌ {A = Term × List Token} (applied f x.0.0, y.0) (u, rest) = cc (y.2) in
    subst (λ (p : Term × List Token). Stands IsTerm (t ∷ ts) p.0 p.1) e
    (record {
      front = t ∷ marked (Open Round) ∷ (s.front ++ marked (Close Round) ∷ []);
      is = applied_ _ _ _ (with_terms t f s.front x.0.0 symbol s.is);
      cut = ap (λ us. t ∷ us) (after_mark_is (Open Round) ts inner opened ∙ ap (λ us. marked (Open Round) ∷ us)
          (s.cut ∙ ap (λ us. s.front ++ us) (after_mark_is (Close Round) x.0.1 y.0 y.1) ∙ sym (append_assoc s.front (marked (Close Round) ∷ []) y.0)));
    }))

headed_sound : (arguments : Reader Terms) → Sound AreTerms arguments → (t : Token) (p : Head) → IsHead t p → (ts : List Token) (u : Term) (rest : List Token)
    → headed_by arguments p ts ≡ Some (u, rest) → Stands IsTerm (t ∷ ts) u rest
headed_sound arguments sound t (symbol_head f) is ts u rest h = arguments_sound arguments sound t f is ts u rest h
headed_sound arguments sound t (variable_head w) is ts u rest h =
    let e : ◌≡◌ {A = Term × List Token} (variable w, ts) (u, rest) = cc (h) in
    subst (λ (p : Term × List Token). Stands IsTerm (t ∷ ts) p.0 p.1) e (record { front = t ∷ []; is = subst (λ x. IsTerm (x ∷ []) (variable w)) (sym is) (variable_ w); cut = refl })
headed_sound arguments sound t (numeral_head w) is ts u rest h =
    let e : ◌≡◌ {A = Term × List Token} (numeral w, ts) (u, rest) = cc (h) in
    subst (λ (p : Term × List Token). Stands IsTerm (t ∷ ts) p.0 p.1) e (record { front = t ∷ []; is = subst (λ x. IsTerm (x ∷ []) (numeral w)) (sym is) (number_ w); cut = refl })
headed_sound arguments sound t (object_head w) is ts u rest h =
    let e : ◌≡◌ {A = Term × List Token} (object w, ts) (u, rest) = cc (h) in
    subst (λ (p : Term × List Token). Stands IsTerm (t ∷ ts) p.0 p.1) e (record { front = t ∷ []; is = subst (λ x. IsTerm (x ∷ []) (object w)) (sym is) (distinct_ w); cut = refl })

term_by_sound : (arguments : Reader Terms) → Sound AreTerms arguments → Sound IsTerm (term_by arguments)
term_by_sound arguments sound ts u rest h =
    let x = bind_some (one_token head_of ts) _ (u, rest) h in
    let o = one_token_is head_of ts x.0.0 x.0.1 x.1 in
    subst (λ us. Stands IsTerm us u rest) (sym o.1) (headed_sound arguments sound o.0 x.0.0 (head_of_is o.0 x.0.0 o.2) x.0.1 u rest x.2)

terms_by_sound : (term : Reader Term) → Sound IsTerm term → (c : ℕ) → Sound AreTerms (terms_by term c)
terms_by_sound term sound zero ts us rest h = cc
terms_by_sound term sound (suc c) ts us rest h =
    let x = bind_some (term ts) _ (us, rest) h in
    let s = sound ts x.0.0 x.0.1 x.1 in
    either_way (after_mark Comma x.0.1) _ _ (us, rest) (Stands AreTerms ts us rest) x.2
    (λ none k.
    let e : ◌≡◌ {A = Terms × List Token} (terms x.0.0 no_terms, x.0.1) (us, rest) = cc (k) in
    subst (λ (p : Terms × List Token). Stands AreTerms ts p.0 p.1) e (record { front = s.front; is = last_ s.front x.0.0 s.is; cut = s.cut }))
    (λ behind comma k.
    let y = bind_some (terms_by term c behind) _ (us, rest) k in
    let more = terms_by_sound term sound c behind y.0.0 y.0.1 y.1 in
    let e : ◌≡◌ {A = Terms × List Token} (terms x.0.0 y.0.0, y.0.1) (us, rest) = cc (y.2) in
    subst (λ (p : Terms × List Token). Stands AreTerms ts p.0 p.1) e
    (record {
      front = s.front ++ marked Comma ∷ more.front;
      is = more_ s.front more.front x.0.0 y.0.0 s.is more.is;
      cut = s.cut ∙ ap (λ vs. s.front ++ vs) (after_mark_is Comma x.0.1 behind comma ∙ ap (λ vs. marked Comma ∷ vs) more.cut) ∙ sym (append_assoc s.front (marked Comma ∷ more.front) y.0.1);
    }))

pub term_sound : (steps : ℕ) → Sound IsTerm (term_within steps)
term_sound zero ts u rest h = cc (term_none ts, h)
term_sound (suc s) ts u rest h = term_by_sound (terms_by (term_within s) s) (terms_by_sound (term_within s) (term_sound s) s) ts u rest (sym (term_step s ts) ∙ h)

-- Units

atom_front : {ts : List Token} {t : Term} → IsTerm ts t → (a : Sentence) → atom_of t ≡ Some a → IsUnit ts a
atom_front (applied_ ts p us h) a e = let k : atom p us ≡ a = cc (e) in subst (IsUnit ts) k (atom_ ts p us h)
atom_front (variable_ w) a e = cc
atom_front (number_ w) a e = cc
atom_front (distinct_ w) a e = cc

equated_sound : (term : Reader Term) → Sound IsTerm term → (ts : List Token) (t : Term) (mid : List Token) → Stands IsTerm ts t mid → (a : Sentence) (rest : List Token)
    → equated_by term t mid ≡ Some (a, rest) → Stands IsUnit ts a rest
equated_sound term sound ts t mid s a rest h =
    either_way (one_token equality_of mid) _ _ (a, rest) (Stands IsUnit ts a rest) h
    (λ none k.
    let x = bind_some (atom_of t) _ (a, rest) k in
    let e : ◌≡◌ {A = Sentence × List Token} (x.0, mid) (a, rest) = cc (x.2) in
    subst (λ (p : Sentence × List Token). Stands IsUnit ts p.0 p.1) e (record { front = s.front; is = atom_front s.is x.0 x.1; cut = s.cut }))
    (λ p some k.
    let o = one_token_is equality_of mid p.0 p.1 some in
    let x = bind_some (term p.1) _ (a, rest) k in
    let u = sound p.1 x.0.0 x.0.1 x.1 in
    let e : ◌≡◌ {A = Sentence × List Token} (equality p.0 t x.0.0, x.0.1) (a, rest) = cc (x.2) in
    subst (λ (q : Sentence × List Token). Stands IsUnit ts q.0 q.1) e
    (record {
      front = s.front ++ marked (Equality p.0) ∷ u.front;
      is = equality_ p.0 s.front u.front t x.0.0 s.is u.is;
      cut = s.cut ∙ ap (λ vs. s.front ++ vs) (o.1 ∙ ap (λ x. x ∷ p.1) (equality_of_is o.0 p.0 o.2) ∙ ap (λ vs. marked (Equality p.0) ∷ vs) u.cut)
          ∙ sym (append_assoc s.front (marked (Equality p.0) ∷ u.front) x.0.1);
    }))

body_sound : (unit : Reader Sentence) → Sound IsUnit unit → (q : Quantor) (w : List ℕ) (ts : List Token) (a : Sentence) (rest : List Token) → body_by unit ts ≡ Some (a, rest)
    → Stands (IsScope q) (upper w ∷ ts) (quantified q w a) rest
body_sound unit sound q w ts a rest h =
    let x = bind_some (after_mark (Close Square) ts) _ (a, rest) h in
    let y = bind_some (after_mark Colon x.0) _ (a, rest) x.2 in
    let u = sound y.0 a rest y.2 in
    record {
      front = upper w ∷ marked (Close Square) ∷ marked Colon ∷ u.front;
      is = last_variable q w u.front a u.is;
      cut = ap (λ vs. upper w ∷ vs) (after_mark_is (Close Square) ts x.0 x.1 ∙ ap (λ vs. marked (Close Square) ∷ vs) (after_mark_is Colon x.0 y.0 y.1 ∙ ap (λ vs. marked Colon ∷ vs) u.cut));
    }

scope_sound : (unit : Reader Sentence) → Sound IsUnit unit → (q : Quantor) (c : ℕ) → Sound (IsScope q) (scope_by unit q c)
scope_sound unit sound q zero ts a rest h = cc
scope_sound unit sound q (suc c) ts a rest h =
    let x = bind_some (one_token variable_of ts) _ (a, rest) h in
    let o = one_token_is variable_of ts x.0.0 x.0.1 x.1 in
    let begins = o.1 ∙ ap (λ t. t ∷ x.0.1) (variable_of_is o.0 x.0.0 o.2) in
    let y = bind_some (bound_by unit (scope_by unit q c) x.0.1) _ (a, rest) x.2 in
    let e : ◌≡◌ {A = Sentence × List Token} (quantified q x.0.0 y.0.0, y.0.1) (a, rest) = cc (y.2) in
    subst (λ us. Stands (IsScope q) us a rest) (sym begins)
    (subst (λ (p : Sentence × List Token). Stands (IsScope q) (upper x.0.0 ∷ x.0.1) p.0 p.1) e
    (either_way (after_mark Comma x.0.1) _ _ y.0 (Stands (IsScope q) (upper x.0.0 ∷ x.0.1) (quantified q x.0.0 y.0.0) y.0.1) y.1
    (λ none k. body_sound unit sound q x.0.0 x.0.1 y.0.0 y.0.1 k)
    (λ behind comma k.
    let s = scope_sound unit sound q c behind y.0.0 y.0.1 k in
    record {
      front = upper x.0.0 ∷ marked Comma ∷ s.front;
      is = more_variables q x.0.0 s.front y.0.0 s.is;
      cut = ap (λ vs. upper x.0.0 ∷ vs) (after_mark_is Comma x.0.1 behind comma ∙ ap (λ vs. marked Comma ∷ vs) s.cut);
    })))

led_sound : (unit formula : Reader Sentence) → Sound IsUnit unit → Sound IsFormula formula → (c : ℕ) (l : Lead) (ts : List Token) (a : Sentence) (rest : List Token)
    → led_by unit formula c l ts ≡ Some (a, rest) → Stands IsUnit (lead_token l ∷ ts) a rest
led_sound unit formula us fs c negation_lead ts a rest h =
    let x = bind_some (unit ts) _ (a, rest) h in
    let s = us ts x.0.0 x.0.1 x.1 in
    let e : ◌≡◌ {A = Sentence × List Token} (negation x.0.0, x.0.1) (a, rest) = cc (x.2) in
    subst (λ (p : Sentence × List Token). Stands IsUnit (marked Not ∷ ts) p.0 p.1) e
    (record { front = marked Not ∷ s.front; is = negation_ s.front x.0.0 s.is; cut = ap (λ vs. marked Not ∷ vs) s.cut })
led_sound unit formula us fs c group_lead ts a rest h =
    let x = bind_some (formula ts) _ (a, rest) h in
    let y = bind_some (after_mark (Close Round) x.0.1) _ (a, rest) x.2 in
    let s = fs ts x.0.0 x.0.1 x.1 in
    let e : ◌≡◌ {A = Sentence × List Token} (x.0.0, y.0) (a, rest) = cc (y.2) in
    subst (λ (p : Sentence × List Token). Stands IsUnit (marked (Open Round) ∷ ts) p.0 p.1) e
    (record {
      front = marked (Open Round) ∷ (s.front ++ marked (Close Round) ∷ []);
      is = parentheses_ s.front x.0.0 s.is;
      cut = ap (λ vs. marked (Open Round) ∷ vs) (s.cut ∙ ap (λ vs. s.front ++ vs) (after_mark_is (Close Round) x.0.1 y.0 y.1) ∙ sym (append_assoc s.front (marked (Close Round) ∷ []) y.0));
    })
led_sound unit formula us fs c (quantifier_lead q) ts a rest h =
    let x = bind_some (after_mark (Open Square) ts) _ (a, rest) h in
    let s = scope_sound unit us q c x.0 a rest x.2 in
    record {
      front = marked (Quantifier q) ∷ marked (Open Square) ∷ s.front;
      is = quantified_ q s.front a s.is;
      cut = ap (λ vs. marked (Quantifier q) ∷ vs) (after_mark_is (Open Square) ts x.0 x.1 ∙ ap (λ vs. marked (Open Square) ∷ vs) s.cut);
    }

unit_by_sound : (term : Reader Term) (unit formula : Reader Sentence) → Sound IsTerm term → Sound IsUnit unit → Sound IsFormula formula → (c : ℕ) → Sound IsUnit (unit_by term unit formula c)
unit_by_sound term unit formula tsound us fs c ts a rest h =
    either_way (one_token lead_of ts) _ _ (a, rest) (Stands IsUnit ts a rest) h
    (λ none k. let x = bind_some (term ts) _ (a, rest) k in equated_sound term tsound ts x.0.0 x.0.1 (tsound ts x.0.0 x.0.1 x.1) a rest x.2)
    (λ p some k.
    let o = one_token_is lead_of ts p.0 p.1 some in
    subst (λ vs. Stands IsUnit vs a rest) (sym (o.1 ∙ ap (λ t. t ∷ p.1) (lead_of_is o.0 p.0 o.2))) (led_sound unit formula us fs c p.0 p.1 a rest k))

-- Formulas

-- the units of a formula so far, by the operator that joins them
abbrev Partial : Option Operator → List Token → Sentence → Type 0
Partial None ts a = IsUnit ts a
Partial (Some op) ts a = IsJoined op ts a

partial_formula : (by : Option Operator) (ts : List Token) (a : Sentence) → Partial by ts a → IsFormula ts a
partial_formula None ts a h = unit_ ts a h
partial_formula (Some op) ts a h = joined_ op ts a h

partial_more : (by : Option Operator) (op : Operator) (ts us : List Token) (a b : Sentence) → can_join by op ≡ true → Partial by ts a → IsUnit us b
    → IsJoined op (ts ++ marked (Binary op) ∷ us) (binary op a b)
partial_more None op ts us a b h u v = two op ts us a b u v
partial_more (Some by) op ts us a b h u v = let r = can_repeat by op h in more op ts us a b r.1 (subst (λ o. IsJoined o ts a) r.0 u) v

chain_sound : (unit : Reader Sentence) → Sound IsUnit unit → (c : ℕ) (by : Option Operator) (ts : List Token) (left : Sentence) (mid : List Token) → Stands (Partial by) ts left mid
    → (a : Sentence) (rest : List Token) → chain_by unit c by left mid ≡ Some (a, rest) → Stands IsFormula ts a rest
chain_sound unit sound zero by ts left mid s a rest h = cc
chain_sound unit sound (suc c) by ts left mid s a rest h =
    either_way (next_operator by mid) _ _ (a, rest) (Stands IsFormula ts a rest) h
    (λ none k.
    let e : ◌≡◌ {A = Sentence × List Token} (left, mid) (a, rest) = cc (k) in
    subst (λ (p : Sentence × List Token). Stands IsFormula ts p.0 p.1) e (record { front = s.front; is = partial_formula by s.front left s.is; cut = s.cut }))
    (λ p some k.
    let o = next_operator_is by mid p.0 p.1 some in
    let x = bind_some (unit p.1) _ (a, rest) k in
    let u = sound p.1 x.0.0 x.0.1 x.1 in
    chain_sound unit sound c (Some p.0) ts (binary p.0 left x.0.0) x.0.1
    (record {
      front = s.front ++ marked (Binary p.0) ∷ u.front;
      is = partial_more by p.0 s.front u.front left x.0.0 o.1 s.is u.is;
      cut = s.cut ∙ ap (λ vs. s.front ++ vs) (o.0 ∙ ap (λ vs. marked (Binary p.0) ∷ vs) u.cut) ∙ sym (append_assoc s.front (marked (Binary p.0) ∷ u.front) x.0.1);
    })
    a rest x.2)

formula_by_sound : (unit : Reader Sentence) → Sound IsUnit unit → (c : ℕ) → Sound IsFormula (formula_by unit c)
formula_by_sound unit sound c ts a rest h =
    let x = bind_some (unit ts) _ (a, rest) h in chain_sound unit sound c None ts x.0.0 x.0.1 (sound ts x.0.0 x.0.1 x.1) a rest x.2

pub unit_sound : (steps : ℕ) → Sound IsUnit (unit_within steps)
unit_sound zero ts a rest h = cc (unit_none ts, h)
unit_sound (suc s) ts a rest h =
    unit_by_sound (term_within (suc s)) (unit_within s) (formula_within s) (term_sound (suc s)) (unit_sound s) (formula_by_sound (unit_within s) (unit_sound s) s) s ts a rest
    (sym (unit_step s ts) ∙ h)

pub formula_sound : (steps : ℕ) → Sound IsFormula (formula_within steps)
formula_sound steps = formula_by_sound (unit_within steps) (unit_sound steps) steps

-- What ends a statement is found from the left.
use Rattle.std.proofs.Common.{◌≡◌, Bool, true, false, not, cond, List, [], ◌∷◌, ◌++◌, Option, Some, None, refl, sym, ap, subst, ◌∙◌, append_assoc}
use Rattle.std.proofs.lemmas.Bool.{false≢true, and_parts}
use Rattle.fof_parse.specs.declared.token.Bracket.{Bracket}
use Rattle.fof_parse.specs.declared.token.Bracket.TheVariants.{Round}
use Rattle.fof_parse.specs.declared.token.Mark.TheVariants.{Open, Close, Comma, Stop, Colon, Not, Quantifier, Binary, Equality}
use Rattle.fof_parse.specs.Token.{Token, lower, upper, quoted, distinct, dollar, number, marked, other}
use Rattle.fof_parse.specs.Grammar.{is_bracket, is_stop, AreBalanced, none, plain, nested, IsEnding, bare, annotated}
use Rattle.fof_parse.specs.Reader.Reading.{◌>>=◌, same_bracket, closing, behind_balanced, begins_closed, is_end, is_bare, is_bare_behind, is_annotated, is_ending, if_some, after_mark}
use Rattle.fof_parse.proofs.Fronts.{bind_some, after_mark_is, same_bracket_is, same_bracket_self}

-- Forwards

-- a token that is no bracket and no full stop is passed over
passed : (stack : List Bracket) (t : Token) (ts : List Token) → is_bracket t ≡ false → is_stop t ≡ false → behind_balanced stack (t ∷ ts) ≡ behind_balanced stack ts
passed stack (lower w) ts h k = refl
passed stack (upper w) ts h k = refl
passed stack (quoted w) ts h k = refl
passed stack (distinct w) ts h k = refl
passed stack (dollar w) ts h k = refl
passed stack (number w) ts h k = refl
passed stack other ts h k = refl
passed stack (marked (Open b)) ts h k = absurd (false≢true (sym h))
passed stack (marked (Close b)) ts h k = absurd (false≢true (sym h))
passed stack (marked Stop) ts h k = absurd (false≢true (sym k))
passed stack (marked Comma) ts h k = refl
passed stack (marked Colon) ts h k = refl
passed stack (marked Not) ts h k = refl
passed stack (marked (Quantifier q)) ts h k = refl
passed stack (marked (Binary op)) ts h k = refl
passed stack (marked (Equality e)) ts h k = refl

closes : (b : Bracket) (stack : List Bracket) (ts : List Token) → behind_balanced (b ∷ stack) (marked (Close b) ∷ ts) ≡ behind_balanced stack ts
closes b stack ts = ap (λ c. cond c (Some (Some stack)) None >>= λ o. closing o b ts (λ left. behind_balanced left ts)) (same_bracket_self b)

balanced_behind : {ts : List Token} → AreBalanced ts → (stack : List Bracket) (rest : List Token) → behind_balanced stack (ts ++ rest) ≡ behind_balanced stack rest
balanced_behind none stack rest = refl
balanced_behind (plain t ts h k a) stack rest = passed stack t (ts ++ rest) h k ∙ balanced_behind a stack rest
balanced_behind (nested b ts us a c) stack rest =
    ap (behind_balanced (b ∷ stack)) (append_assoc ts (marked (Close b) ∷ us) rest) ∙ balanced_behind a (b ∷ stack) (marked (Close b) ∷ (us ++ rest))
    ∙ closes b stack (us ++ rest) ∙ balanced_behind c stack rest

balanced_open : {t : Token} {ts : List Token} → AreBalanced (t ∷ ts) → (rest : List Token) → begins_closed ((t ∷ ts) ++ rest) ≡ false
balanced_open (plain t ts h k a) rest = no_bracket t h where
  no_bracket : (t : Token) → is_bracket t ≡ false → begins_closed (t ∷ (ts ++ rest)) ≡ false
  no_bracket (marked (Close b)) h = absurd (false≢true (sym h))
  no_bracket (marked (Open b)) h = refl
  no_bracket (marked Stop) h = refl
  no_bracket (marked Comma) h = refl
  no_bracket (marked Colon) h = refl
  no_bracket (marked Not) h = refl
  no_bracket (marked (Quantifier q)) h = refl
  no_bracket (marked (Binary op)) h = refl
  no_bracket (marked (Equality e)) h = refl
  no_bracket (lower w) h = refl
  no_bracket (upper w) h = refl
  no_bracket (quoted w) h = refl
  no_bracket (distinct w) h = refl
  no_bracket (dollar w) h = refl
  no_bracket (number w) h = refl
  no_bracket other h = refl
balanced_open (nested b ts us a c) rest = refl

pub ending_found : {ts : List Token} → IsEnding ts → is_ending ts ≡ true
ending_found bare = refl
ending_found (annotated t ts a) =
    rw (balanced_open a (marked (Close Round) ∷ marked Stop ∷ []), balanced_behind a [] (marked (Close Round) ∷ marked Stop ∷ [])) refl

-- Backwards

-- tokens that close these brackets, the innermost first, with balanced ones before, between and behind them
abbrev Closes : List Bracket → List Token → Type 0
Closes [] ts = AreBalanced ts
Closes (b ∷ stack) ts = (front back : List Token) × AreBalanced front × (ts ≡ front ++ marked (Close b) ∷ back) × Closes stack back

closes_plain : (stack : List Bracket) (t : Token) (ts : List Token) → is_bracket t ≡ false → is_stop t ≡ false → Closes stack ts → Closes stack (t ∷ ts)
closes_plain [] t ts h k c = plain t ts h k c
closes_plain (b ∷ stack) t ts h k c = (t ∷ c.0, c.1, plain t c.0 h k c.2, ap (λ us. t ∷ us) c.3, c.4)

closes_nested : (b : Bracket) (stack : List Bracket) (front back : List Token) → AreBalanced front → Closes stack back → Closes stack (marked (Open b) ∷ (front ++ marked (Close b) ∷ back))
closes_nested b [] front back a c = nested b front back a c
closes_nested b (d ∷ stack) front back a c = (
  marked (Open b) ∷ (front ++ marked (Close b) ∷ c.0),
  c.1,
  nested b front c.0 a c.2,
  ap (λ us. marked (Open b) ∷ us) (ap (λ us. front ++ marked (Close b) ∷ us) c.3 ∙ sym (append_assoc front (marked (Close b) ∷ c.0) (marked (Close d) ∷ c.1))),
  c.4,
)

record Closed (stack : List Bracket) (ts rest : List Token) : Type 0 where
  front : List Token
  closes : Closes stack front
  cut : ts ≡ front ++ rest

over_plain : (stack : List Bracket) (t : Token) (ts rest : List Token) → is_bracket t ≡ false → is_stop t ≡ false → Closed stack ts rest → Closed stack (t ∷ ts) rest
over_plain stack t ts rest h k c = record { front = t ∷ c.front; closes = closes_plain stack t c.front h k c.closes; cut = ap (λ us. t ∷ us) c.cut }

closed_part : (stack : List Bracket) (ts rest : List Token) → behind_balanced stack ts ≡ Some rest → Closed stack ts rest
closed_part stack [] rest h = cc
closed_part stack (marked (Open b) ∷ ts) rest h =
    let c = closed_part (b ∷ stack) ts rest h in
    let k = c.closes in
    record {
      front = marked (Open b) ∷ c.front;
      closes = subst (λ us. Closes stack (marked (Open b) ∷ us)) (sym k.3) (closes_nested b stack k.0 k.1 k.2 k.4);
      cut = ap (λ us. marked (Open b) ∷ us) c.cut;
    }
closed_part [] (marked (Close b) ∷ ts) rest h =
    let e : marked (Close b) ∷ ts ≡ rest = cc (h) in record { front = []; closes = none; cut = e }
closed_part (c ∷ stack) (marked (Close b) ∷ ts) rest h =
    by_case (same_bracket b c) refl (closed_part stack ts rest) h where
      by_case : (same : Bool) → same_bracket b c ≡ same → (behind_balanced stack ts ≡ Some rest → Closed stack ts rest) → (cond same (Some (Some stack)) None >>= λ o. closing o b ts (λ left. behind_balanced left ts)) ≡ Some rest → Closed (c ∷ stack) (marked (Close b) ∷ ts) rest
      by_case true e inner k =
          let d = inner k in
          record {
            front = marked (Close b) ∷ d.front;
            closes = ([], d.front, none, ap (λ x. marked (Close x) ∷ d.front) (same_bracket_is b c e), d.closes);
            cut = ap (λ us. marked (Close b) ∷ us) d.cut;
          }
      by_case false e inner k = cc
closed_part stack (marked Stop ∷ ts) rest h = cc
closed_part stack (lower w ∷ ts) rest h = over_plain stack (lower w) ts rest refl refl (closed_part stack ts rest h)
closed_part stack (upper w ∷ ts) rest h = over_plain stack (upper w) ts rest refl refl (closed_part stack ts rest h)
closed_part stack (quoted w ∷ ts) rest h = over_plain stack (quoted w) ts rest refl refl (closed_part stack ts rest h)
closed_part stack (distinct w ∷ ts) rest h = over_plain stack (distinct w) ts rest refl refl (closed_part stack ts rest h)
closed_part stack (dollar w ∷ ts) rest h = over_plain stack (dollar w) ts rest refl refl (closed_part stack ts rest h)
closed_part stack (number w ∷ ts) rest h = over_plain stack (number w) ts rest refl refl (closed_part stack ts rest h)
closed_part stack (other ∷ ts) rest h = over_plain stack other ts rest refl refl (closed_part stack ts rest h)
closed_part stack (marked Comma ∷ ts) rest h = over_plain stack (marked Comma) ts rest refl refl (closed_part stack ts rest h)
closed_part stack (marked Colon ∷ ts) rest h = over_plain stack (marked Colon) ts rest refl refl (closed_part stack ts rest h)
closed_part stack (marked Not ∷ ts) rest h = over_plain stack (marked Not) ts rest refl refl (closed_part stack ts rest h)
closed_part stack (marked (Quantifier q) ∷ ts) rest h = over_plain stack (marked (Quantifier q)) ts rest refl refl (closed_part stack ts rest h)
closed_part stack (marked (Binary op) ∷ ts) rest h = over_plain stack (marked (Binary op)) ts rest refl refl (closed_part stack ts rest h)
closed_part stack (marked (Equality e) ∷ ts) rest h = over_plain stack (marked (Equality e)) ts rest refl refl (closed_part stack ts rest h)

is_end_is : (o : Option (List Token)) → is_end o ≡ true → o ≡ Some []
is_end_is None h = absurd (false≢true h)
is_end_is (Some []) h = refl
is_end_is (Some (t ∷ ts)) h = absurd (false≢true h)

bare_is : (ts : List Token) → is_bare ts ≡ true → ts ≡ marked (Close Round) ∷ marked Stop ∷ []
bare_is ts h =
    let b = bind_some (after_mark (Close Round) ts) (after_mark Stop) [] (is_end_is _ h) in
    after_mark_is (Close Round) ts b.0 b.1 ∙ ap (λ us. marked (Close Round) ∷ us) (after_mark_is Stop b.0 [] b.2)

bare_behind_is : (o : Option (List Token)) → is_bare_behind o ≡ true → o ≡ Some (marked (Close Round) ∷ marked Stop ∷ [])
bare_behind_is None h = absurd (false≢true h)
bare_behind_is (Some ts) h = ap Some (bare_is ts h)

not_true : (b : Bool) → not b ≡ true → b ≡ false
not_true true h = absurd (false≢true h)
not_true false h = refl

annotated_part : (ts front : List Token) → begins_closed ts ≡ false → AreBalanced front → ts ≡ front ++ marked (Close Round) ∷ marked Stop ∷ [] → IsEnding (marked Comma ∷ ts)
annotated_part ts [] h a cut = absurd (false≢true (sym h ∙ ap begins_closed cut))
annotated_part ts (t ∷ front) h a cut = subst (λ us. IsEnding (marked Comma ∷ us)) (sym cut) (annotated t front a)

annotated_is : (ts : List Token) → is_annotated ts ≡ true → IsEnding (marked Comma ∷ ts)
annotated_is ts h =
    let b = and_parts (not (begins_closed ts)) (is_bare_behind (behind_balanced [] ts)) h in
    let c = closed_part [] ts (marked (Close Round) ∷ marked Stop ∷ []) (bare_behind_is _ b.1) in
    annotated_part ts c.front (not_true _ b.0) c.closes c.cut

pub ending_is : (ts : List Token) → is_ending ts ≡ true → IsEnding ts
ending_is ts h =
    by_case (after_mark Comma ts) refl h where
      by_case : (o : Option (List Token)) → after_mark Comma ts ≡ o → if_some o (is_bare ts) is_annotated ≡ true → IsEnding ts
      by_case None e k = subst IsEnding (sym (bare_is ts k)) bare
      by_case (Some us) e k = subst IsEnding (sym (after_mark_is Comma ts us e)) (annotated_is us k)

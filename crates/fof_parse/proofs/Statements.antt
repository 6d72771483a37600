-- A statement by the grammar is what is read, and the other way round.
use Rattle.std.proofs.Common.{◌≡◌, ℕ, suc, ◌<◌, List, ◌∷◌, ◌++◌, codes, length, Some, refl, ap, subst, ◌∙◌, length-append, arith}
use Rattle.std.specs.Str.{bytes_eq}
use Rattle.std.proofs.lemmas.Slice.Eq.{bytes_eq-Decides}
use Rattle.fof_parse.specs.declared.token.Bracket.TheVariants.{Round}
use Rattle.fof_parse.specs.declared.token.Mark.TheVariants.{Open, Comma}
use Rattle.fof_parse.specs.Token.{Token, lower, upper, quoted, distinct, dollar, number, marked, other}
use Rattle.fof_parse.specs.Grammar.{Statement, name_of, IsEnding, bare, annotated, IsStatement}
use Rattle.fof_parse.specs.Reader.Reading.{after_mark, one_token, lower_of, fof_of, heading_at, formula_within, is_ending, statement_within}
use Rattle.fof_parse.proofs.Fronts.{bind_some, chosen, after_mark_is, one_token_is, one_token_front}
use Rattle.fof_parse.proofs.Forwards.{EndsFormula, formula_read}
use Rattle.fof_parse.proofs.Backwards.{formula_sound}
use Rattle.fof_parse.proofs.Endings.{ending_found, ending_is}

-- Forwards

heading_front : (name : Token) (w role : List ℕ) (ts : List Token) → name_of name ≡ Some w
    → heading_at (lower (codes "fof") ∷ marked (Open Round) ∷ name ∷ marked Comma ∷ lower role ∷ marked Comma ∷ ts) ≡ Some ((w, role), ts)
unfolding heading_at
heading_front name w role ts h = rw (one_token_front name_of name (marked Comma ∷ lower role ∷ marked Comma ∷ ts) w h) refl

ends_formula : {ts : List Token} → IsEnding ts → EndsFormula ts
ends_formula bare = ((refl, refl), refl)
ends_formula (annotated t ts a) = ((refl, refl), refl)

pub statement_read : (ts : List Token) (st : Statement) → IsStatement ts st → (steps : ℕ) → length ts < steps → statement_within steps ts ≡ Some st
unfolding statement_within
statement_read ts st h steps lt =
    let len = ap length h.written in
    let f = formula_read h.of_formula steps (omega (arith, lt, len, length-append h.body h.tail)) h.tail (ends_formula h.ending) in
    ap (statement_within steps) h.written ∙ rw (heading_front h.name st.name st.role (h.body ++ h.tail) h.named) (rw f (rw (ending_found h.ending) refl))

-- Backwards

lower_of_is : (t : Token) (w : List ℕ) → lower_of t ≡ Some w → t ≡ lower w
lower_of_is (lower v) w h = let k : v ≡ w = cc in ap lower k
lower_of_is (upper v) w h = cc
lower_of_is (quoted v) w h = cc
lower_of_is (distinct v) w h = cc
lower_of_is (dollar v) w h = cc
lower_of_is (number v) w h = cc
lower_of_is (marked m) w h = cc
lower_of_is other w h = cc

fof_of_is : (t : Token) (w : List ℕ) → fof_of t ≡ Some w → t ≡ lower (codes "fof")
fof_of_is t w h =
    let b = bind_some (lower_of t) _ w h in
    let d = chosen (bytes_eq b.0 (codes "fof")) b.0 w b.2 in
    lower_of_is t b.0 b.1 ∙ ap lower ((bytes_eq-Decides b.0 (codes "fof")).0 d.0)

record Heading (ts : List Token) (w role : List ℕ) (rest : List Token) : Type 0 where
  name : Token
  named : name_of name ≡ Some w
  written : ts ≡ lower (codes "fof") ∷ marked (Open Round) ∷ name ∷ marked Comma ∷ lower role ∷ marked Comma ∷ rest

heading_at_is : (ts : List Token) (w role : List ℕ) (rest : List Token) → heading_at ts ≡ Some ((w, role), rest) → Heading ts w role rest
unfolding heading_at
heading_at_is ts w role rest h =
    let fof = bind_some (one_token fof_of ts) _ ((w, role), rest) h in
    let opened = bind_some (after_mark (Open Round) fof.0.1) _ ((w, role), rest) fof.2 in
    let named = bind_some (one_token name_of opened.0) _ ((w, role), rest) opened.2 in
    let first = bind_some (after_mark Comma named.0.1) _ ((w, role), rest) named.2 in
    let of = bind_some (one_token lower_of first.0) _ ((w, role), rest) first.2 in
    let second = bind_some (after_mark Comma of.0.1) _ ((w, role), rest) of.2 in
    let d : ◌≡◌ {A = (List ℕ × List ℕ) × List Token} ((named.0.0, of.0.0), second.0) ((w, role), rest) = cc (second.2) in
    let a = one_token_is fof_of ts fof.0.0 fof.0.1 fof.1 in
    let b = one_token_is name_of opened.0 named.0.0 named.0.1 named.1 in
    let c = one_token_is lower_of first.0 of.0.0 of.0.1 of.1 in
    subst (λ (q : (List ℕ × List ℕ) × List Token). Heading ts q.0.0 q.0.1 q.1) d
    (record {
      name = b.0;
      named = b.2;
      written = a.1 ∙ ap (λ t. t ∷ fof.0.1) (fof_of_is a.0 fof.0.0 a.2) ∙ ap (λ xs. lower (codes "fof") ∷ xs) (after_mark_is (Open Round) fof.0.1 opened.0 opened.1
          ∙ ap (λ xs. marked (Open Round) ∷ xs) (b.1 ∙ ap (λ xs. b.0 ∷ xs) (after_mark_is Comma named.0.1 first.0 first.1 ∙ ap (λ xs. marked Comma ∷ xs)
          (c.1 ∙ ap (λ t. t ∷ of.0.1) (lower_of_is c.0 of.0.0 c.2) ∙ ap (λ xs. lower of.0.0 ∷ xs) (after_mark_is Comma of.0.1 second.0 second.1)))));
    })

pub statement_is : (steps : ℕ) (ts : List Token) (st : Statement) → statement_within steps ts ≡ Some st → IsStatement ts st
unfolding statement_within
statement_is steps ts st h =
    let heading = bind_some (heading_at ts) _ st h in
    let formula = bind_some (formula_within steps heading.0.1) _ st heading.2 in
    let made : Statement = record { name = heading.0.0.0; role = heading.0.0.1; formula = formula.0.0 } in
    let d = chosen (is_ending formula.0.1) made st formula.2 in
    let front = heading_at_is ts made.name made.role heading.0.1 heading.1 in
    let body = formula_sound steps heading.0.1 made.formula formula.0.1 formula.1 in
    subst (IsStatement ts) d.1
    (record {
      name = front.name;
      named = front.named;
      body = body.front;
      of_formula = body.is;
      tail = formula.0.1;
      ending = ending_is formula.0.1 d.0;
      written = front.written ∙ ap (λ xs. lower (codes "fof") ∷ marked (Open Round) ∷ front.name ∷ marked Comma ∷ lower made.role ∷ marked Comma ∷ xs) body.cut;
    })

-- The tokens are one statement, or none.
pub one_statement : (ts : List Token) (a b : Statement) → IsStatement ts a → IsStatement ts b → a ≡ b
one_statement ts a b h k = cc (statement_read ts a h (suc (length ts)) (omega arith), statement_read ts b k (suc (length ts)) (omega arith))

-- what stands behind a heading is shorter
pub heading_less : (ts : List Token) (w role : List ℕ) (rest : List Token) → heading_at ts ≡ Some ((w, role), rest) → length rest < length ts
heading_less ts w role rest h = let front = heading_at_is ts w role rest h in omega (arith, ap length front.written)

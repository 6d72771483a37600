-- Reading a comment up to its first `*/`.
use Rattle.std.proofs.Common.{◌≡◌, ℕ, Bool, true, false, not, ◌&&◌, eqb, List, [], ◌∷◌, ◌++◌, length, Option, Some, None, refl, ap, sym, ◌∙◌, subst, length-append, arith}
use Rattle.std.proofs.lemmas.Bool.{and_parts, false≢true, eqb-true, cond_both, cond-false, false_from_ne_true}
use Rattle.fof_lex.specs.Bytes.{is_in_line}
use Rattle.fof_lex.specs.Tokens.{IsLineEnd, at_feed, at_end}
use Rattle.fof_lex.specs.Reading.{begins_with, without_first, after, after_close}
use Rattle.fof_lex.proofs.Fronts.{first_is, after_stops}

-- no `*/` stands in the bytes with a star behind them
abbrev pub IsOpen : List ℕ → Type 0
IsOpen body = (front back : List ℕ) → body ++ 42 ∷ [] ≡ front ++ 42 ∷ 47 ∷ back → ⊥

tails : (c d : ℕ) (cs ds : List ℕ) → c ∷ cs ≡ d ∷ ds → cs ≡ ds
tails c d cs ds e = ap without_first e

heads : (c d : ℕ) (cs ds : List ℕ) → c ∷ cs ≡ d ∷ ds → c ≡ d
heads c d cs ds e = cc

open_nothing : IsOpen []
open_nothing front back e = absurd (omega (arith, ap length e, length-append front (42 ∷ 47 ∷ back)))

-- `*/` begins at the byte c where cs follows
abbrev closes_at : ℕ → List ℕ → Bool
closes_at c cs = eqb c 42 && begins_with (eqb 47) cs

closes_parts : (c : ℕ) (cs : List ℕ) → closes_at c cs ≡ true → (rest : List ℕ) × (c ≡ 42) × (cs ≡ 47 ∷ rest)
closes_parts c cs h =
    let p = and_parts (eqb c 42) (begins_with (eqb 47) cs) h in let f = first_is 47 cs p.1 in (f.0, eqb-true c 42 p.0, f.1)

closes_from : (c : ℕ) (cs rest : List ℕ) → c ≡ 42 → cs ≡ 47 ∷ rest → closes_at c cs ≡ true
closes_from c cs rest e f = ap (λ x. closes_at x cs) e ∙ ap (begins_with (eqb 47)) f

-- of what follows the star, only the first byte matters
same_close : (c : ℕ) (body rest : List ℕ) → closes_at c (body ++ 42 ∷ rest) ≡ closes_at c (body ++ 42 ∷ [])
same_close c [] rest = refl
same_close c (b ∷ body) rest = refl

open_more : (c : ℕ) (body : List ℕ) → closes_at c (body ++ 42 ∷ []) ≡ false → IsOpen body → IsOpen (c ∷ body)
open_more c body h open_body [] back e =
    false≢true (sym h ∙ closes_from c (body ++ 42 ∷ []) back (heads c 42 _ _ e) (tails c 42 _ _ e))
open_more c body h open_body (x ∷ front) back e = open_body front back (tails c x _ _ e)

-- A text that begins with bytes and `*/`, the first one.
pub record Ends (text rest : List ℕ) : Type 0 where
  pub body : List ℕ
  pub is : IsOpen body
  pub cut : text ≡ body ++ 42 ∷ 47 ∷ rest

abbrev pub MayEnd : List ℕ → Option (List ℕ) → Type 0
MayEnd text None = Unit {0}
MayEnd text (Some rest) = Ends text rest

ends_here : (c : ℕ) (cs : List ℕ) → closes_at c cs ≡ true → Ends (c ∷ cs) (without_first cs)
ends_here c cs h =
    let p = closes_parts c cs h in
    record {
      body = [];
      is = open_nothing;
      cut = ap (λ x. x ∷ cs) p.1 ∙ ap (λ bs. 42 ∷ bs) (p.2 ∙ ap (λ bs. 47 ∷ without_first bs) (sym p.2));
    }

ends_later : (c : ℕ) (cs : List ℕ) (o : Option (List ℕ)) → closes_at c cs ≡ false → MayEnd cs o → MayEnd (c ∷ cs) o
ends_later c cs None h m = tt
ends_later c cs (Some rest) h m =
    record {
      body = c ∷ m.body;
      is = open_more c m.body (sym (same_close c m.body (47 ∷ rest)) ∙ ap (closes_at c) (sym m.cut) ∙ h) m.is;
      cut = ap (λ bs. c ∷ bs) m.cut;
    }

pub may_end : (text : List ℕ) → MayEnd text (after_close text)
may_end [] = tt
may_end (c ∷ cs) =
    cond_both (closes_at c cs) (Some (without_first cs)) (after_close cs) (MayEnd (c ∷ cs)) (λ h. ends_here c cs h)
    (λ h. ends_later c cs (after_close cs) h (may_end cs))

open_less : (c : ℕ) (body : List ℕ) → IsOpen (c ∷ body) → IsOpen body
open_less c body h front back e = h (c ∷ front) back (ap (λ bs. c ∷ bs) e)

open_first : (c : ℕ) (body : List ℕ) → IsOpen (c ∷ body) → closes_at c (body ++ 42 ∷ []) ≡ false
open_first c body h =
    false_from_ne_true (closes_at c (body ++ 42 ∷ [])) (λ t. let p = closes_parts c (body ++ 42 ∷ []) t in h [] p.0 (ap (λ x. x ∷ body ++ 42 ∷ []) p.1 ∙ ap (λ bs. 42 ∷ bs) p.2))

-- what follows the first `*/`
pub ends_body : (body rest : List ℕ) → IsOpen body → after_close (body ++ 42 ∷ 47 ∷ rest) ≡ Some rest
ends_body [] rest h = refl
ends_body (c ∷ body) rest h =
    cond-false (closes_at c (body ++ 42 ∷ 47 ∷ rest)) (Some (without_first (body ++ 42 ∷ 47 ∷ rest))) (after_close (body ++ 42 ∷ 47 ∷ rest)) (same_close c body (47 ∷ rest) ∙ open_first c body h)
    ∙ ends_body body rest (open_less c body h)

-- Lines

not_in_line : (c : ℕ) → is_in_line c ≡ false → c ≡ 10
not_in_line c h = by_case (eqb c 10) refl h where
  by_case : (b : Bool) → eqb c 10 ≡ b → not b ≡ false → c ≡ 10
  by_case true e h = eqb-true c 10 e
  by_case false e h = absurd (false≢true (sym h))

line_end : (rest : List ℕ) → begins_with is_in_line rest ≡ false → IsLineEnd rest
line_end [] h = at_end
line_end (c ∷ cs) h = subst (λ x. IsLineEnd (x ∷ cs)) (sym (not_in_line c h)) (at_feed cs)

pub line_ends : (text : List ℕ) → IsLineEnd (after is_in_line text)
line_ends text = line_end (after is_in_line text) (after_stops is_in_line text)

pub after_line_end : (rest : List ℕ) → IsLineEnd rest → after is_in_line rest ≡ rest
after_line_end rest (at_feed more) = refl
after_line_end rest at_end = refl

-- A text is cut into its lines in one way.
use Rattle.std.proofs.Common.{◌≡◌, ℕ, ◌+◌, ◌<◌, ◌≤◌, Bool, true, false, eqb, List, [], ◌∷◌, ◌++◌, take, drop, get_or, length, refl, ap, sym, ◌∙◌, subst, arith, append_assoc, length-append, take-append-drop}
use Rattle.std.specs.List.{AllByRecursion}
use Rattle.std.proofs.lemmas.Bool.{or_parts, or_from, or_right, eqb-true, false≢true, false_from_ne_true}
use Rattle.std.proofs.lemmas.List.{take_more, drop_more}
use Rattle.gs3_text.proofs.Feeds.{IsLine-append}
use Rattle.gs3_text.specs.ProofText.{has_feed, IsLine, text_of}
use Rattle.gs3_text.proofs.Shapes.{heads, tails}

pub text_cons : (line : List ℕ) (lines : List (List ℕ)) (rest : List ℕ) → text_of (line ∷ lines) ++ rest ≡ line ++ 10 ∷ (text_of lines ++ rest)
text_cons line lines rest = append_assoc (line ++ 10 ∷ []) (text_of lines) rest ∙ append_assoc line (10 ∷ []) (text_of lines ++ rest)

pub text-append : (ls ms : List (List ℕ)) → text_of (ls ++ ms) ≡ text_of ls ++ text_of ms
text-append [] ms = refl
text-append (l ∷ ls) ms = ap (λ bs. (l ++ 10 ∷ []) ++ bs) (text-append ls ms) ∙ sym (append_assoc (l ++ 10 ∷ []) (text_of ls) (text_of ms))

pub lines-append : (ls ms : List (List ℕ)) → AllByRecursion IsLine ls → AllByRecursion IsLine ms → AllByRecursion IsLine (ls ++ ms)
lines-append [] ms p q = q
lines-append (l ∷ ls) ms p q = (p.0, lines-append ls ms p.1 q)

-- a line ends at the first line feed
first_line : (l m x y : List ℕ) → IsLine l → IsLine m → l ++ 10 ∷ x ≡ m ++ 10 ∷ y → (l ≡ m) × (x ≡ y)
first_line [] [] x y p q e = (refl, tails 10 10 x y e)
first_line [] (c ∷ m) x y p q e = absurd (false≢true (sym (or_parts (eqb c 10) (has_feed m) q).0 ∙ ap (λ b. eqb b 10) (sym (heads 10 c x (m ++ 10 ∷ y) e))))
first_line (c ∷ l) [] x y p q e = absurd (false≢true (sym (or_parts (eqb c 10) (has_feed l) p).0 ∙ ap (λ b. eqb b 10) (heads c 10 (l ++ 10 ∷ x) y e)))
first_line (c ∷ l) (d ∷ m) x y p q e =
    let more = first_line l m x y (or_parts (eqb c 10) (has_feed l) p).1 (or_parts (eqb d 10) (has_feed m) q).1 (tails c d (l ++ 10 ∷ x) (m ++ 10 ∷ y) e) in
    let same = heads c d (l ++ 10 ∷ x) (m ++ 10 ∷ y) e in
    (λ i. same i ∷ more.0 i, more.1)

feed_within : (l x : List ℕ) → has_feed (l ++ 10 ∷ x) ≡ true
feed_within [] x = refl
feed_within (c ∷ l) x = or_right (eqb c 10) (has_feed (l ++ 10 ∷ x)) (feed_within l x)

no_line : (l x q : List ℕ) → IsLine q → l ++ 10 ∷ x ≡ q → ⊥
no_line l x q p e = false≢true (sym p ∙ ap has_feed (sym e) ∙ feed_within l x)

-- Two cuts of one text are one.
pub one_cut : (ls ms : List (List ℕ)) (r q : List ℕ) → AllByRecursion IsLine ls → AllByRecursion IsLine ms → IsLine r → IsLine q → text_of ls ++ r ≡ text_of ms ++ q → (ls ≡ ms) × (r ≡ q)
one_cut [] [] r q a b p s e = (refl, e)
one_cut [] (m ∷ ms) r q a b p s e = absurd (no_line m (text_of ms ++ q) r p (sym (text_cons m ms q) ∙ sym e))
one_cut (l ∷ ls) [] r q a b p s e = absurd (no_line l (text_of ls ++ r) q s (sym (text_cons l ls r) ∙ e))
one_cut (l ∷ ls) (m ∷ ms) r q a b p s e =
    let first = first_line l m (text_of ls ++ r) (text_of ms ++ q) a.0 b.0 (sym (text_cons l ls r) ∙ e ∙ text_cons m ms q) in
    let more = one_cut ls ms r q a.1 b.1 p s first.1 in
    (λ i. first.0 i ∷ more.0 i, more.1)

-- a text cut at its line feeds
pub record IsCut (bytes : List ℕ) : Type 0 where
  pub lines : List (List ℕ)
  pub rest : List ℕ
  pub text : bytes ≡ text_of lines ++ rest
  pub whole : AllByRecursion IsLine lines
  pub rest_is_line : IsLine rest

cut_feed : (bytes : List ℕ) → IsCut bytes → IsCut (10 ∷ bytes)
cut_feed bytes more = record { lines = [] ∷ more.lines; rest = more.rest; text = ap (λ bs. 10 ∷ bs) more.text; whole = (refl, more.whole); rest_is_line = more.rest_is_line }

cut_onto : (c : ℕ) → eqb c 10 ≡ false → (bytes : List ℕ) (lines : List (List ℕ)) (rest : List ℕ) → bytes ≡ text_of lines ++ rest → AllByRecursion IsLine lines → IsLine rest → IsCut (c ∷ bytes)
cut_onto c ne bytes [] rest text whole is_line =
    record { lines = []; rest = c ∷ rest; text = ap (λ bs. c ∷ bs) text; whole = tt; rest_is_line = or_from (eqb c 10) (has_feed rest) ne is_line }
cut_onto c ne bytes (l ∷ lines) rest text whole is_line =
    record { lines = (c ∷ l) ∷ lines; rest = rest; text = ap (λ bs. c ∷ bs) text; whole = (or_from (eqb c 10) (has_feed l) ne whole.0, whole.1); rest_is_line = is_line }

cut_byte : (c : ℕ) (bytes : List ℕ) (b : Bool) → eqb c 10 ≡ b → IsCut bytes → IsCut (c ∷ bytes)
cut_byte c bytes true e more = subst (λ d. IsCut (d ∷ bytes)) (sym (eqb-true c 10 e)) (cut_feed bytes more)
cut_byte c bytes false e more = cut_onto c e bytes more.lines more.rest more.text more.whole more.rest_is_line

pub cut : (bytes : List ℕ) → IsCut bytes
cut [] = record { lines = []; rest = []; text = refl; whole = tt; rest_is_line = refl }
cut (c ∷ bytes) = cut_byte c bytes (eqb c 10) refl (cut bytes)

-- Looking for a line feed

pub feed_step : (bytes : List ℕ) (i : ℕ) → i < length bytes → IsLine (take i bytes) → (get_or bytes i 0 ≡ 10 → ⊥) → IsLine (take (i + 1) bytes)
feed_step bytes i within p ne =
    rw (take_more bytes i 0 within) (IsLine-append (take i bytes) (get_or bytes i 0 ∷ []) p (or_from (eqb (get_or bytes i 0) 10) false (false_from_ne_true _ (λ e. ne (eqb-true (get_or bytes i 0) 10 e))) refl))

pub feed_at : (bytes : List ℕ) (i : ℕ) → i < length bytes → get_or bytes i 0 ≡ 10 → bytes ≡ take i bytes ++ 10 ∷ drop (i + 1) bytes
feed_at bytes i within e = sym (take-append-drop i bytes) ∙ ap (λ bs. take i bytes ++ bs) (drop_more bytes i 0 within ∙ ap (λ b. b ∷ drop (i + 1) bytes) e)

-- each line has its line feed
pub lines_short : (lines : List (List ℕ)) → length lines ≤ length (text_of lines)
lines_short [] = omega arith
lines_short (line ∷ lines) = omega (arith, lines_short lines, length-append (line ++ 10 ∷ []) (text_of lines), length-append line (10 ∷ []))

-- The tokens of a text, one after the other.
use Rattle.std.proofs.Common.{◌≡◌, ◌≢◌, ℕ, zero, suc, ◌+◌, ◌-◌, ◌<◌, ◌≤◌, true, false, cond, eqb, List, [], ◌∷◌, ◌++◌, length, map, take, drop, length-append, Option, Some, None, refl, sym, ap, subst, ◌∙◌, arith}
use Rattle.std.specs.Prelude.{slice_get}
use Rattle.std.specs.List.{slice_range, list_all}
use Rattle.fof_lex.specs.declared.token.Token.{Token as LexToken}
use Rattle.fof_lex.specs.declared.token.Kind.{Kind}
use Rattle.fof_lex.specs.declared.token.Kind.TheVariants.{LowerWord, UpperWord, Quoted, DistinctObject, DollarWord, Number, Connective as of_connective, Mark as of_mark}
use Rattle.fof_lex.specs.Bytes.{is_word_byte, is_lower, is_plain, is_escaped}
use Rattle.fof_lex.specs.Tokens.{IsTextOf, IsLowerWord, lower_word, IsBody, no_more, itself, escape, IsQuoted, quoted}
use Rattle.fol_core.specs.Symbol.{IsSymbolName}
use Rattle.fof_parse.specs.declared.token.Mark.{Mark}
use Rattle.fof_parse.specs.declared.text.Text.{Text}
use Rattle.fof_parse.specs.Token.{Token, between, unescaped_from, unescaped, mark_of, token_of, token_in}
use Rattle.fof_parse.specs.Token.{of_mark as token_of_mark}
use Rattle.fof_parse.specs.Reader.Text.{IsIn, AreAllIn, AreIn, from, IsProper}
use Rattle.std.proofs.lemmas.Bool.{and_parts}
use Rattle.std.proofs.lemmas.Bool.Decides.{nat_tests}
use Rattle.std.proofs.lemmas.List.Elements.{All-nil, All-cons}
use Rattle.std.specs.List.{All}

dropped : (f : LexToken → Token) (ts : List LexToken) (at : ℕ) (t : LexToken) → slice_get ts at ≡ Some t
    → (drop at (map f ts) ≡ f t ∷ drop (suc at) (map f ts)) × (at < length ts)
dropped f [] at t h = cc
dropped f (x ∷ ts) zero t h = let e : x ≡ t = cc (h) in (ap (λ y. f y ∷ map f ts) e, omega arith)
dropped f (x ∷ ts) (suc at) t h = let d = dropped f ts at t h in (d.0, omega (arith, d.1))

pub next_from : (text : Text) (at : ℕ) (t : LexToken) → slice_get text.tokens.now at ≡ Some t
    → (from text at ≡ token_in text.bytes.now t ∷ from text (at + 1)) × (at < length text.tokens.now)
next_from text at t h =
    let d = dropped (token_in text.bytes.now) text.tokens.now at t h in
    let e : suc at ≡ at + 1 = omega arith in
    (d.0 ∙ ap (λ n. token_in text.bytes.now t ∷ from text n) e, d.1)

-- What stands in the bytes is proper

is_in : (bytes : List ℕ) (ts : List LexToken) (at : ℕ) (t : LexToken) → AreAllIn bytes ts → slice_get ts at ≡ Some t → IsIn bytes t
is_in bytes [] at t h e = cc
is_in bytes (x ∷ ts) zero t h e = let k : x ≡ t = cc (e) in subst (IsIn bytes) k h.0
is_in bytes (x ∷ ts) (suc at) t h e = is_in bytes ts at t h.1 e

IsPrintable : ℕ → Type 0
IsPrintable c = (32 ≤ c) × (c ≤ 126)

word_byte : (c : ℕ) → is_word_byte c ≡ true → IsPrintable c
unfolding IsPrintable
word_byte c h = (grind (arith, nat_tests), grind (arith, nat_tests))

lower_byte : (c : ℕ) → is_lower c ≡ true → IsPrintable c
unfolding IsPrintable
lower_byte c h = (grind (arith, nat_tests), grind (arith, nat_tests))

plain_byte : (c : ℕ) → is_plain 39 c ≡ true → IsPrintable c
unfolding IsPrintable
plain_byte c h = (grind (arith, nat_tests), grind (arith, nat_tests))

escaped_byte : (c : ℕ) → is_escaped 39 c ≡ true → IsPrintable c
unfolding IsPrintable
escaped_byte c h = (grind (arith, nat_tests), grind (arith, nat_tests))

plain_is_no_backslash : (c : ℕ) → is_plain 39 c ≡ true → eqb c 92 ≡ false
plain_is_no_backslash c h = grind (arith, nat_tests)

word_bytes : (cs : List ℕ) → list_all is_word_byte cs ≡ true → All (λ c. (32 ≤ c) × (c ≤ 126)) cs
unfolding IsPrintable
word_bytes [] h = All-nil (λ c. (32 ≤ c) × (c ≤ 126))
word_bytes (c ∷ cs) h =
    let b = and_parts (is_word_byte c) (list_all is_word_byte cs) h in All-cons (λ c. (32 ≤ c) × (c ≤ 126)) c cs (word_byte c b.0) (word_bytes cs b.1)

lower_name : {w : List ℕ} → IsLowerWord w → IsSymbolName w
unfolding IsPrintable
lower_name (lower_word c cs h) =
    let p = and_parts (is_lower c) (list_all is_word_byte cs) h in (omega arith, All-cons (λ c. (32 ≤ c) × (c ≤ 126)) c cs (lower_byte c p.0) (word_bytes cs p.1))

unescaped_plain : (c : ℕ) (body : List ℕ) → is_plain 39 c ≡ true → unescaped (c ∷ body) ≡ c ∷ unescaped body
unescaped_plain c body h = ap (λ b. cond b (unescaped_from true body) (c ∷ unescaped body)) (plain_is_no_backslash c h)

body_bytes : {body : List ℕ} → IsBody 39 body → All (λ c. (32 ≤ c) × (c ≤ 126)) (unescaped body)
unfolding IsPrintable
body_bytes no_more = All-nil (λ c. (32 ≤ c) × (c ≤ 126))
body_bytes (itself c body h k) =
    subst (All (λ c. (32 ≤ c) × (c ≤ 126))) (sym (unescaped_plain c body h)) (All-cons (λ c. (32 ≤ c) × (c ≤ 126)) c (unescaped body) (plain_byte c h) (body_bytes k))
body_bytes (escape c body h k) = All-cons (λ c. (32 ≤ c) × (c ≤ 126)) c (unescaped body) (escaped_byte c h) (body_bytes k)

body_some : {body : List ℕ} → IsBody 39 body → body ≢ [] → 0 < length (unescaped body)
body_some no_more some = absurd (some refl)
body_some (itself c body h k) some = subst (λ cs. 0 < length cs) (sym (unescaped_plain c body h)) (omega arith)
body_some (escape c body h k) some = omega arith

taken : (xs : List ℕ) (c : ℕ) → take (length xs) (xs ++ c ∷ []) ≡ xs
taken [] c = refl
taken (x ∷ xs) c = ap (λ ys. x ∷ ys) (taken xs c)

between_quotes : (body : List ℕ) → between (39 ∷ body ++ 39 ∷ []) ≡ body
between_quotes body =
    let e : length (39 ∷ body ++ 39 ∷ []) - 1 - 1 ≡ length body = omega (arith, length-append body (39 ∷ [])) in ap (λ n. take n (body ++ 39 ∷ [])) e ∙ taken body 39

quoted_name : {w : List ℕ} → IsQuoted w → IsSymbolName (unescaped (between w))
quoted_name (quoted body some h) =
    subst (λ b. IsSymbolName (unescaped b)) (sym (between_quotes body)) (body_some h some, body_bytes h)

pub proper_of : (k : Kind) (text : List ℕ) → IsTextOf k text → IsProper (token_of k text)
proper_of LowerWord text h = lower_name h
proper_of UpperWord text h = tt
proper_of Quoted text h = quoted_name h
proper_of DistinctObject text h = tt
proper_of DollarWord text h = tt
proper_of Number text h = tt
proper_of (of_connective c) text h = tt
proper_of (of_mark m) text h = of_some (mark_of m) where
  of_some : (o : Option Mark) → IsProper (token_of_mark o)
  of_some None = tt
  of_some (Some m) = tt

pub proper_in : (text : Text) (at : ℕ) (t : LexToken) → AreIn text → slice_get text.tokens.now at ≡ Some t → IsProper (token_in text.bytes.now t)
proper_in text at t h e = let i = is_in text.bytes.now text.tokens.now at t h e in proper_of t.kind (slice_range text.bytes.now t.start t.end) i.is_text

pub range_in : (text : Text) (at : ℕ) (t : LexToken) → AreIn text → slice_get text.tokens.now at ≡ Some t → IsIn text.bytes.now t
range_in text at t h e = is_in text.bytes.now text.tokens.now at t h e

-- How a word is taken apart, and put together again.
use Rattle.std.proofs.Common.{◌≡◌, ◌≢◌, ◌<◌, ℕ, ◌+◌, suc, cond, Bool, true, false, [], ◌∷◌, ◌++◌, refl, ap, sym, ◌∙◌, true≢false, Option, Some, None, arith}
use Rattle.std.specs.Prelude.{if◌then◌else◌, ◌&&◌, ◌||◌, ◌==◌, not, slice_get, length}
use Rattle.std.specs.List.{position_or_len}
use Rattle.std.specs.Str.{bytes_eq, chars, IsUtf8, encode_utf8_all, continuation_len, lead_bits, chars_after}
use Rattle.std.proofs.lemmas.Str.{encodes-chars}
use Rattle.std.proofs.lemmas.Bool.Decides.{nat_tests}
use Rattle.clap.specs.Lexer.{long_of, short_of, name_and_value}
use Rattle.goeland_words.specs.Table.{Text}
use Rattle.goeland_words.specs.Cut.{has_byte, before, after, CutsAt}
use Rattle.goeland_words.specs.Line.{dashes, is_plain}
use Rattle.goeland_words.proofs.Steps.{IsText}

-- ---- a text before and after its first byte k

pub equal : (x y : ℕ) → (x == y) ≡ true → x ≡ y
equal x y e = grind (arith, nat_tests)

itself : (x : ℕ) → (x == x) ≡ true
itself x = grind (arith, nat_tests)

before-cons : (k x : ℕ) (xs : Text) → (x == k) ≡ false → before k (x ∷ xs) ≡ x ∷ before k xs
before-cons k x xs e = let s : 1 + position_or_len (λ y. y == k) xs ≡ suc (position_or_len (λ y. y == k) xs) = omega arith in rw (e, s) refl

after-cons : (k x : ℕ) (xs : Text) → (x == k) ≡ false → after k (x ∷ xs) ≡ after k xs
after-cons k x xs e = let s : 1 + position_or_len (λ y. y == k) xs + 1 ≡ suc (position_or_len (λ y. y == k) xs + 1) = omega arith in rw (e, s) refl

pub cut_has : (k : ℕ) (text : Text) → has_byte k text ≡ true → text ≡ before k text ++ k ∷ after k text
cut_has k [] has = absurd (true≢false (sym has))
cut_has k (x ∷ xs) has = go (x == k) refl has (cut_has k xs)
  where
    go : (b : Bool) → (x == k) ≡ b → (b || has_byte k xs) ≡ true → (has_byte k xs ≡ true → xs ≡ before k xs ++ k ∷ after k xs) → x ∷ xs ≡ before k (x ∷ xs) ++ k ∷ after k (x ∷ xs)
    go true e has later = rw e (ap (λ c. c ∷ xs) (equal x k e))
    go false e has later = rw (before-cons k x xs e, after-cons k x xs e) (ap (λ (l : Text). x ∷ l) (later has))

cut_lacks : (k : ℕ) (text : Text) → has_byte k text ≡ false → before k text ≡ text
cut_lacks k [] lacks = refl
cut_lacks k (x ∷ xs) lacks = go (x == k) refl lacks (cut_lacks k xs)
  where
    go : (b : Bool) → (x == k) ≡ b → (b || has_byte k xs) ≡ false → (has_byte k xs ≡ false → before k xs ≡ xs) → before k (x ∷ xs) ≡ x ∷ xs
    go true e lacks later = absurd (true≢false lacks)
    go false e lacks later = before-cons k x xs e ∙ ap (λ (l : Text). x ∷ l) (later lacks)

pub cut_at : (k : ℕ) (n v : Text) → has_byte k n ≡ false → CutsAt k n v (n ++ k ∷ v)
cut_at k [] v lacks = record { has = rw (itself k) refl; front = rw (itself k) refl; back = rw (itself k) refl }
cut_at k (x ∷ xs) v lacks = go (x == k) refl lacks (cut_at k xs v)
  where
    go : (b : Bool) → (x == k) ≡ b → (b || has_byte k xs) ≡ false → (has_byte k xs ≡ false → CutsAt k xs v (xs ++ k ∷ v)) → CutsAt k (x ∷ xs) v ((x ∷ xs) ++ k ∷ v)
    go true e lacks later = absurd (true≢false lacks)
    go false e lacks later = let l = later lacks in record {
      has = rw e l.has;
      front = before-cons k x (xs ++ k ∷ v) e ∙ ap (λ (t : Text). x ∷ t) l.front;
      back = after-cons k x (xs ++ k ∷ v) e ∙ l.back;
    }

-- by the place of the first such byte
pub has_before_end : (k : ℕ) (text : Text) → position_or_len (λ x. x == k) text < length text → has_byte k text ≡ true
has_before_end k [] below = absurd (omega (arith, below))
has_before_end k (x ∷ xs) below = go (x == k) refl below (has_before_end k xs)
  where
    go : (b : Bool) → (x == k) ≡ b → cond (not b) (1 + position_or_len (λ y. y == k) xs) 0 < suc (length xs) → (position_or_len (λ y. y == k) xs < length xs → has_byte k xs ≡ true) → has_byte k (x ∷ xs) ≡ true
    go true e below later = rw e refl
    go false e below later = rw e (later (omega (arith, below)))

pub lacks_at_end : (k : ℕ) (text : Text) → position_or_len (λ x. x == k) text ≡ length text → has_byte k text ≡ false
lacks_at_end k [] is = refl
lacks_at_end k (x ∷ xs) is = go (x == k) refl is (lacks_at_end k xs)
  where
    go : (b : Bool) → (x == k) ≡ b → cond (not b) (1 + position_or_len (λ y. y == k) xs) 0 ≡ suc (length xs) → (position_or_len (λ y. y == k) xs ≡ length xs → has_byte k xs ≡ false) → has_byte k (x ∷ xs) ≡ false
    go true e is later = absurd (omega (arith, is))
    go false e is later = rw e (later (omega (arith, is)))

-- ---- words

some≢none : {A : Type 0} → (a : A) → Some a ≢ None
some≢none a = λ e. cc

-- the parts of `--text`
abbrev cut : Bool → Text → Text × Option Text
cut b text = (before 61 text, if b then Some (after 61 text) else None)

cut_parts : (text n : Text) (v : Option Text) (b : Bool) → has_byte 61 text ≡ b → cut b text ≡ (n, v) → (before 61 text ≡ n) × ((if b then Some (after 61 text) else None) ≡ v)
cut_parts text n v b e is = (ap (λ (q : Text × Option Text). q.0) is, ap (λ (q : Text × Option Text). q.1) is)

unsome : {A : Type 0} → (a b : A) → Some a ≡ Some b → a ≡ b
unsome a b e = cc

joined_text : (text n v : Text) → name_and_value text ≡ (n, Some v) → text ≡ n ++ 61 ∷ v
joined_text text n v is = go (has_byte 61 text) refl is
  where
    go : (b : Bool) → has_byte 61 text ≡ b → cut b text ≡ (n, Some v) → text ≡ n ++ 61 ∷ v
    go true e is = let q = cut_parts text n (Some v) true e is in let a : after 61 text ≡ v = unsome _ _ q.1 in cut_has 61 text e ∙ rw (q.0, a) refl
    go false e is = absurd (some≢none v (sym (cut_parts text n (Some v) false e is).1))

alone_text : (text n : Text) → name_and_value text ≡ (n, None) → text ≡ n
alone_text text n is = go (has_byte 61 text) refl is
  where
    go : (b : Bool) → has_byte 61 text ≡ b → cut b text ≡ (n, None) → text ≡ n
    go true e is = absurd (some≢none _ (cut_parts text n None true e is).1)
    go false e is = sym (cut_lacks 61 text e) ∙ (cut_parts text n None false e is).0

-- a word with a name is two hyphens and a text that is not empty
long_text : (x : Text) (q : Text × Option Text) → long_of x ≡ Some q → (c : ℕ) × (cs : Text) × (x ≡ dashes ++ c ∷ cs) × (name_and_value (c ∷ cs) ≡ q)
long_text [] q is = absurd (some≢none q (sym is))
long_text (a ∷ []) q is = go (a == 45) refl
  where
    go : (b : Bool) → (a == 45) ≡ b → (c : ℕ) × (cs : Text) × (a ∷ [] ≡ dashes ++ c ∷ cs) × (name_and_value (c ∷ cs) ≡ q)
    go true e = let h : None ≡ Some q = sym (rw e refl) ∙ is in absurd (some≢none q (sym h))
    go false e = let h : None ≡ Some q = sym (rw e refl) ∙ is in absurd (some≢none q (sym h))
long_text (a ∷ b ∷ []) q is = go (a == 45) (b == 45) refl refl
  where
    go : (s t : Bool) → (a == 45) ≡ s → (b == 45) ≡ t → (c : ℕ) × (cs : Text) × (a ∷ b ∷ [] ≡ dashes ++ c ∷ cs) × (name_and_value (c ∷ cs) ≡ q)
    go true true e f = let h : None ≡ Some q = sym (rw (e, f) refl) ∙ is in absurd (some≢none q (sym h))
    go true false e f = let h : None ≡ Some q = sym (rw (e, f) refl) ∙ is in absurd (some≢none q (sym h))
    go false t e f = let h : None ≡ Some q = sym (rw e refl) ∙ is in absurd (some≢none q (sym h))
long_text (a ∷ b ∷ c ∷ cs) q is = go (a == 45) (b == 45) refl refl
  where
    go : (s t : Bool) → (a == 45) ≡ s → (b == 45) ≡ t → (d : ℕ) × (ds : Text) × (a ∷ b ∷ c ∷ cs ≡ dashes ++ d ∷ ds) × (name_and_value (d ∷ ds) ≡ q)
    go true true e f =
        let h : Some (name_and_value (c ∷ cs)) ≡ Some q = sym (rw (e, f) refl) ∙ is in
        (c, cs, rw (equal a 45 e, equal b 45 f) refl, unsome _ _ h)
    go true false e f = let h : None ≡ Some q = sym (rw (e, f) refl) ∙ is in absurd (some≢none q (sym h))
    go false t e f = let h : None ≡ Some q = sym (rw e refl) ∙ is in absurd (some≢none q (sym h))

pub joined_word : (x n v : Text) → long_of x ≡ Some (n, Some v) → x ≡ dashes ++ n ++ 61 ∷ v
joined_word x n v is = let w = long_text x (n, Some v) is in w.2 ∙ ap (λ (l : Text). dashes ++ l) (joined_text (w.0 ∷ w.1) n v w.3)

pub alone_word : (x n : Text) → long_of x ≡ Some (n, None) → x ≡ dashes ++ n
alone_word x n is = let w = long_text x (n, None) is in w.2 ∙ ap (λ (l : Text). dashes ++ l) (alone_text (w.0 ∷ w.1) n w.3)

-- a word that is neither `--`, nor begins with a hyphen and more
pub plain_word : (x : Text) → bytes_eq x dashes ≡ false → long_of x ≡ None → short_of x ≡ None → is_plain x ≡ true
plain_word [] apart long short = refl
plain_word (a ∷ []) apart long short = refl
plain_word (a ∷ b ∷ bs) apart long short = go (a == 45) refl
  where
    at_hyphens : (cs : Text) (s : Bool) → (a == 45) ≡ true → (b == 45) ≡ s → bytes_eq (a ∷ b ∷ cs) dashes ≡ false → long_of (a ∷ b ∷ cs) ≡ None → short_of (a ∷ b ∷ cs) ≡ None → ⊥
    at_hyphens cs false e f apart long short = let h : Some (b ∷ cs) ≡ None = sym (rw (e, f) refl) ∙ short in some≢none _ h
    at_hyphens [] true e f apart long short = let h : true ≡ false = sym (rw (equal a 45 e, equal b 45 f) refl) ∙ apart in true≢false h
    at_hyphens (c ∷ cs) true e f apart long short = let h : Some (name_and_value (c ∷ cs)) ≡ None = sym (rw (e, f) refl) ∙ long in some≢none _ h

    go : (s : Bool) → (a == 45) ≡ s → not (a == 45) ≡ true
    go true e = absurd (at_hyphens bs (b == 45) e refl apart long short)
    go false e = rw e refl

-- and the other way round
pub record IsPlainWord (x : Text) : Type 0 where
  pub apart : bytes_eq x dashes ≡ false
  pub long : long_of x ≡ None
  pub short : short_of x ≡ None

plain_head : (a b : ℕ) (bs : Text) (s : Bool) → (a == 45) ≡ s → not s ≡ true → IsPlainWord (a ∷ b ∷ bs)
plain_head a b bs true e is = absurd (true≢false (sym is))
plain_head a b bs false e is = record { apart = rw e refl; long = rw e refl; short = rw e refl }

plain_one : (a : ℕ) (s : Bool) → (a == 45) ≡ s → IsPlainWord (a ∷ [])
plain_one a true e = record { apart = rw e refl; long = rw e refl; short = rw e refl }
plain_one a false e = record { apart = rw e refl; long = rw e refl; short = rw e refl }

pub plain_parts : (x : Text) → is_plain x ≡ true → IsPlainWord x
plain_parts [] is = record { apart = refl; long = refl; short = refl }
plain_parts (a ∷ []) is = plain_one a (a == 45) refl
plain_parts (a ∷ b ∷ bs) is = plain_head a b bs (a == 45) refl is

-- ---- names

-- the name is not empty, and has no `=`
abbrev pub is_name : Text → Bool
is_name n = not (has_byte 61 n) && not (length n == 0)

pub record IsOption (x n : Text) (v : Option Text) : Type 0 where
  pub apart : bytes_eq x dashes ≡ false
  pub long : long_of x ≡ Some (n, v)

not-true : (b : Bool) → not b ≡ true → b ≡ false
not-true true h = absurd (true≢false (sym h))
not-true false h = refl

and-left : (a b : Bool) → (a && b) ≡ true → a ≡ true
and-left true b h = refl
and-left false b h = absurd (true≢false (sym h))

name_cut : (n v : Text) → has_byte 61 n ≡ false → name_and_value (n ++ 61 ∷ v) ≡ (n, Some v)
name_cut n v lacks = let q = cut_at 61 n v lacks in rw (q.has, q.front, q.back) refl

pub joined_parts : (n v : Text) → is_name n ≡ true → IsOption (dashes ++ n ++ 61 ∷ v) n (Some v)
joined_parts [] v is = absurd (true≢false (sym is))
joined_parts (c ∷ cs) v is = record {
  apart = refl;
  long = ap (λ (q : Text × Option Text). Some q) (name_cut (c ∷ cs) v (not-true _ (and-left _ _ is)));
}

alone_cut : (n : Text) → has_byte 61 n ≡ false → name_and_value n ≡ (n, None)
alone_cut n lacks = rw (lacks, cut_lacks 61 n lacks) refl

pub alone_parts : (n : Text) → is_name n ≡ true → IsOption (dashes ++ n) n None
alone_parts [] is = absurd (true≢false (sym is))
alone_parts (c ∷ cs) is = record {
  apart = refl;
  long = ap (λ (q : Text × Option Text). Some q) (alone_cut (c ∷ cs) (not-true _ (and-left _ _ is)));
}

-- ---- a word of UTF-8 is text

-- what follows a hyphen has a first character
first_char : (b : ℕ) (bs : Text) → IsUtf8 (45 ∷ b ∷ bs) → (c : ℕ) × (slice_get (chars (b ∷ bs)) 0 ≡ Some c)
unfolding chars lib.Utf8.encode
first_char b bs u = go (chars_after (continuation_len b) (lead_bits b) bs) refl
  where
    go : (l : Text) → chars_after (continuation_len b) (lead_bits b) bs ≡ l → (c : ℕ) × (slice_get (chars (b ∷ bs)) 0 ≡ Some c)
    go [] e =
        let h : encode_utf8_all (45 ∷ chars_after (continuation_len b) (lead_bits b) bs) ≡ 45 ∷ b ∷ bs = encodes-chars (45 ∷ b ∷ bs) u in
        let k : 45 ∷ [] ≡ 45 ∷ b ∷ bs = sym (rw e refl) ∙ h in cc
    go (c ∷ cs) e = (c, rw e refl)

pub text_word : (x : Text) → IsUtf8 x → IsText x
text_word [] u f is = absurd (some≢none f (sym is))
text_word (a ∷ bs) u f is = go (a == 45) refl bs refl
  where
    at_hyphen : (ds : Text) → (a == 45) ≡ true → bs ≡ ds → (b : ℕ) × (cs : Text) × (c : ℕ) × (f ≡ b ∷ cs) × (slice_get (chars (b ∷ cs)) 0 ≡ Some c)
    at_hyphen [] e d = let h : None ≡ Some f = sym (rw (e, d) refl) ∙ is in absurd (some≢none f (sym h))
    at_hyphen (d ∷ ds) e same = by_second (d == 45) refl
      where
        by_second : (s : Bool) → (d == 45) ≡ s → (b : ℕ) × (cs : Text) × (c : ℕ) × (f ≡ b ∷ cs) × (slice_get (chars (b ∷ cs)) 0 ≡ Some c)
        by_second true g = let h : None ≡ Some f = sym (rw (e, same, g) refl) ∙ is in absurd (some≢none f (sym h))
        by_second false g =
            let h : Some (d ∷ ds) ≡ Some f = sym (rw (e, same, g) refl) ∙ is in
            let v : IsUtf8 (45 ∷ d ∷ ds) = rw (← equal a 45 e, ← same) u in
            let first = first_char d ds v in
            (d, ds, first.0, sym (unsome _ _ h), first.1)

    go : (s : Bool) → (a == 45) ≡ s → (ds : Text) → bs ≡ ds → (b : ℕ) × (cs : Text) × (c : ℕ) × (f ≡ b ∷ cs) × (slice_get (chars (b ∷ cs)) 0 ≡ Some c)
    go true e ds same = at_hyphen ds e same
    go false e ds same = let h : None ≡ Some f = sym (rw e refl) ∙ is in absurd (some≢none f (sym h))

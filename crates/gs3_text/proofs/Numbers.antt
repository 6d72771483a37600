-- What digits are worth, and reading a number again.
use Rattle.std.proofs.Common.{◌≡◌, ℕ, zero, suc, ◌+◌, ◌-◌, ◌*◌, ◌^◌, ◌<◌, ◌≤◌, Bool, true, false, ◌&&◌, cond, eqb, leb, inl, inr, List, [], ◌∷◌, ◌++◌, length, get_or, take, drop, Some, None, option_map, refl, ap, sym, ◌∙◌, subst, arith, take-append-drop}
use Rattle.std.specs.Fmt.{decimal}
use Rattle.std.specs.Int.{IsInRange}
use Rattle.std.specs.List.{prefix_len, list_all}
use Rattle.std.proofs.lemmas.Bool.{and_parts, and_from, and_cases, or_parts, or_from, leb-true, leb-false, le-leb, lt-leb, false_from_ne_true, eqb-true, eqb-false}
use Rattle.std.proofs.lemmas.Fmt.{digits_decimal, digits_value-decimal, decimal-digits_value, first_decimal, decimal_digit, decimal_nonempty}
use Rattle.std.proofs.lemmas.List.{drop_more, take_at, drop_at}
use Rattle.std.proofs.lemmas.Option.{none-some, same_Some, some_pair_parts}
use Rattle.gs3_text.proofs.Options.{option_map_some}
use Rattle.std.proofs.lemmas.Str.Parse.{IsNumeralModel, IsDigitsTest, numerals_by_fold}
use Rattle.gs3_text.specs.Reading.{value_after, is_digit, number_of, number_at}

pub value_grows : (n : ℕ) (ds : List ℕ) → n ≤ value_after n ds
value_grows n [] = omega arith
value_grows n (d ∷ ds) = omega (arith, value_grows (n * 10 + (d - 48)) ds)

-- with the digit at i, the number is at least that large
pub value_from : (n : ℕ) (ds : List ℕ) (i : ℕ) → i < length ds → n * 10 + (get_or ds i 0 - 48) ≤ value_after n (drop i ds)
value_from n ds i within = rw (drop_more ds i 0 within) (value_grows (n * 10 + (get_or ds i 0 - 48)) (drop (i + 1) ds))

abbrev pub AreDigits : List ℕ → Type 0
AreDigits ds = list_all is_digit ds ≡ true

digit_in_range : (c : ℕ) → is_digit c ≡ true → IsInRange 48 57 c
digit_in_range c e = let parts = and_parts _ _ e in (leb-true 48 c parts.0, leb-true c 57 parts.1)

in_range_digit : (c : ℕ) → IsInRange 48 57 c → is_digit c ≡ true
in_range_digit c h = and_from _ _ (le-leb 48 c h.0) (le-leb c 57 h.1)

digits_test : IsDigitsTest AreDigits
digits_test = record {
  empty = refl;
  parts = λ c cs p. (let both = and_parts (is_digit c) _ p in (digit_in_range c both.0, both.1));
  more = λ c cs h p. and_from (is_digit c) _ (in_range_digit c h) p;
}

own : IsNumeralModel AreDigits (value_after 0)
own = numerals_by_fold AreDigits digits_test value_after (record { empty = λ n. refl; more = λ n c cs h. refl })

pub one_more : (k : ℕ) → 1 + k ≡ suc k
one_more k = omega arith

front_case : (p : ℕ → Bool) (x : ℕ) (xs : List ℕ) (b : Bool) → p x ≡ b → list_all p (take (prefix_len p xs) xs) ≡ true → list_all p (take (cond b (1 + prefix_len p xs) 0) (x ∷ xs)) ≡ true
front_case p x xs true e all = rw (one_more (prefix_len p xs)) (and_from (p x) _ e all)
front_case p x xs false e all = refl

-- the front of those that pass
pub front_all : (p : ℕ → Bool) (xs : List ℕ) → list_all p (take (prefix_len p xs) xs) ≡ true
front_all p [] = refl
front_all p (x ∷ xs) = front_case p x xs (p x) refl (front_all p xs)

pub front_len : (p : ℕ → Bool) (xs rest : List ℕ) → list_all p xs ≡ true → prefix_len p rest ≡ 0 → prefix_len p (xs ++ rest) ≡ length xs
front_len p [] rest all none = none
front_len p (x ∷ xs) rest all none =
    let both = and_parts (p x) (list_all p xs) all in
    ap (λ b. cond b (1 + prefix_len p (xs ++ rest)) 0) both.0 ∙ ap (λ n. 1 + n) (front_len p xs rest both.1 none) ∙ one_more (length xs)

pub chosen : {A : Type 0} (b : Bool) (x y : A) → cond b None (Some x) ≡ Some y → (b ≡ false) × (x ≡ y)
chosen true x y e = absurd (none-some y e)
chosen false x y e = (refl, same_Some x y e)

lone_zero : (c : ℕ) (cs : List ℕ) → (eqb c 48 && leb 1 (length cs)) ≡ false → c ≡ 48 → length (c ∷ cs) ≡ 1
lone_zero c cs e is =
    elim (and_cases (eqb c 48) (leb 1 (length cs)) e) [ inl ne ↦ absurd (eqb-false c 48 ne is) | inr short ↦ omega (arith, leb-false 1 (length cs) short) ]

number_of_takes : (limit : ℕ) (ds : List ℕ) (n : ℕ) → limit ≤ 2 ^ 64 → AreDigits ds → number_of limit ds ≡ Some n → (ds ≡ decimal n) × (n < limit)
unfolding number_of
number_of_takes limit [] n small digits e = absurd (none-some n e)
number_of_takes limit (c ∷ cs) n small digits e =
    let both = chosen _ (value_after 0 (c ∷ cs)) n e in
    let tests = or_parts (eqb c 48 && leb 1 (length cs)) (leb limit (value_after 0 (c ∷ cs))) both.0 in
    let below = leb-false limit (value_after 0 (c ∷ cs)) tests.1 in
    let written = decimal-digits_value own (c ∷ cs) digits (omega arith) (lone_zero c cs tests.0) (omega arith) in
    (sym written ∙ ap decimal both.1, subst (λ m. m < limit) both.1 below)

-- A number that was read is spelled so.
pub number_takes : (limit : ℕ) (bytes : List ℕ) (n : ℕ) (rest : List ℕ) → limit ≤ 2 ^ 64 → number_at limit bytes ≡ Some (n, rest) → (bytes ≡ decimal n ++ rest) × (n < limit)
unfolding number_at
number_takes limit bytes n rest small e =
    let len = prefix_len is_digit bytes in
    let found = option_map_some (λ x. (x, drop len bytes)) (number_of limit (take len bytes)) (n, rest) e in
    let parts = some_pair_parts found.0 n (drop len bytes) rest (ap Some found.2) in
    let taken = number_of_takes limit (take len bytes) n small (front_all is_digit bytes) (found.1 ∙ ap Some parts.0) in
    (sym (take-append-drop len bytes) ∙ ap (λ ds. ds ++ drop len bytes) taken.0 ∙ ap (λ r. decimal n ++ r) parts.1, taken.1)

lone_test : (c : ℕ) (cs : List ℕ) → (c ≡ 48 → length (c ∷ cs) ≡ 1) → (eqb c 48 && leb 1 (length cs)) ≡ false
lone_test c cs lone = false_from_ne_true _ (λ e. let both = and_parts (eqb c 48) (leb 1 (length cs)) e in
    let one = lone (eqb-true c 48 both.0) in omega (arith, one, leb-true 1 (length cs) both.1))

number_of_again : (limit n : ℕ) (ds : List ℕ) → n < limit → value_after 0 ds ≡ n → 0 < length ds → (get_or ds 0 0 ≡ 48 → length ds ≡ 1) → number_of limit ds ≡ Some n
unfolding number_of
number_of_again limit n [] within is some lone = absurd (omega (arith, some))
number_of_again limit n (c ∷ cs) within is some lone =
    let first = lone_test c cs lone in
    let second = lt-leb limit (value_after 0 (c ∷ cs)) (subst (λ m. m < limit) (sym is) within) in
    ap (λ b. cond b None (Some (value_after 0 (c ∷ cs)))) (or_from _ _ first second) ∙ ap Some is

lone_decimal : (n : ℕ) → n < 2 ^ 64 → get_or (decimal n) 0 0 ≡ 48 → length (decimal n) ≡ 1
lone_decimal zero small e = ap length (decimal_digit 0 (omega arith))
lone_decimal (suc n) small e = absurd (omega (arith, first_decimal (suc n) (omega arith) small))

-- A number that is spelled so is read, where no digit follows.
pub number_again : (limit n : ℕ) (rest : List ℕ) → limit ≤ 2 ^ 64 → n < limit → prefix_len is_digit rest ≡ 0 → number_at limit (decimal n ++ rest) ≡ Some (n, rest)
unfolding number_at
number_again limit n rest small within stop =
    let below : n < 2 ^ 64 = omega arith in
    let len = front_len is_digit (decimal n) rest (digits_decimal own n below) stop in
    ap (λ k. option_map (λ x. (x, drop k (decimal n ++ rest))) (number_of limit (take k (decimal n ++ rest)))) len
    ∙ ap (λ ds. option_map (λ x. (x, drop (length (decimal n)) (decimal n ++ rest))) (number_of limit ds)) (take_at (decimal n) rest (length (decimal n)) refl)
    ∙ ap (λ r. option_map (λ x. (x, r)) (number_of limit (decimal n))) (drop_at (decimal n) rest (length (decimal n)) refl)
    ∙ ap (option_map (λ x. (x, rest))) (number_of_again limit n (decimal n) within (digits_value-decimal own n below) (decimal_nonempty n below) (lone_decimal n below))

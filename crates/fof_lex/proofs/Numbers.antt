-- Reading a number reads a longest one.
use Rattle.std.proofs.Common.{◌≡◌, ℕ, Bool, true, false, ◌||◌, eqb, List, [], ◌∷◌, ◌++◌, refl, ap, sym, ◌∙◌, subst, append_assoc, ◌⊎◌, inl, inr, arith}
use Rattle.std.specs.List.{list_all}
use Rattle.std.proofs.lemmas.Bool.{and_from, false≢true, eqb-true, cond_both, cond-true, cond-false}
use Rattle.std.proofs.lemmas.Bool.Decides.{nat_tests}
use Rattle.fof_lex.specs.Bytes.{is_digit}
use Rattle.fof_lex.specs.Tokens.{AreDigits, digits, IsSign, no_sign, plus, minus, IsPoint, no_point, point, IsExponent, no_exponent, exponent, IsNumberTail, denominator, decimals}
use Rattle.fof_lex.specs.Reading.{begins_with, without_first, after, after_digits_or, is_sign, without_sign, is_exponent, after_point, after_exponent, after_tail, after_number}
use Rattle.fof_lex.proofs.Fronts.{Stands, Reaches, reaches_trans, stands_reaches, IsRun, after_stands, after_reaches, after_all, first_is}

-- What is read

digits_stand : (text : List ℕ) → begins_with is_digit text ≡ true → Stands AreDigits text (after is_digit text)
digits_stand [] h = absurd (false≢true h)
digits_stand (d ∷ ds) h =
    let s = after_stands is_digit ds in
    let here : Stands AreDigits (d ∷ ds) (after is_digit ds) = record { front = d ∷ s.front; cut = ap (λ bs. d ∷ bs) s.cut; is = digits d s.front h s.is } in
    subst (Stands AreDigits (d ∷ ds)) (sym (cond-true (is_digit d) (after is_digit ds) (d ∷ ds) h)) here

-- digits behind something, or nothing of both
digits_or_stand : (P : List ℕ → Type 0) (text ds front : List ℕ) → text ≡ front ++ ds → P [] → ((digits : List ℕ) → AreDigits digits → P (front ++ digits)) → Stands P text (after_digits_or text ds)
digits_or_stand P text ds front e none some =
    cond_both (begins_with is_digit ds) (after is_digit ds) text (Stands P text)
    (λ h. let s = digits_stand ds h in
    record { front = front ++ s.front; cut = e ∙ ap (λ bs. front ++ bs) s.cut ∙ sym (append_assoc front s.front (after is_digit ds)); is = some s.front s.is })
    (λ h. record { front = []; cut = refl; is = none })

point_stands : (text : List ℕ) → Stands IsPoint text (after_point text)
point_stands text =
    cond_both (begins_with (eqb 46) text) (after_digits_or text (without_first text)) text (Stands IsPoint text)
    (λ h. let f = first_is 46 text h in digits_or_stand IsPoint text (without_first text) (46 ∷ []) (f.1 ∙ ap (λ bs. 46 ∷ without_first bs) (sym f.1)) no_point (λ ds is. point ds is))
    (λ h. record { front = []; cut = refl; is = no_point })

either_sign : (c : ℕ) (b : Bool) → eqb c 43 ≡ b → is_sign c ≡ true → IsSign (c ∷ [])
either_sign c true e h = subst (λ x. IsSign (x ∷ [])) (sym (eqb-true c 43 e)) plus
either_sign c false e h = subst (λ x. IsSign (x ∷ [])) (sym (eqb-true c 45 (sym (ap (λ b. b || eqb c 45) e) ∙ h))) minus

sign_stands : (text : List ℕ) → Stands IsSign text (without_sign text)
sign_stands [] = record { front = []; cut = refl; is = no_sign }
sign_stands (c ∷ cs) =
    cond_both (is_sign c) cs (c ∷ cs) (Stands IsSign (c ∷ cs))
    (λ h. record { front = c ∷ []; cut = refl; is = either_sign c (eqb c 43) refl h })
    (λ h. record { front = []; cut = refl; is = no_sign })

either_e : (c : ℕ) (b : Bool) → eqb c 101 ≡ b → is_exponent c ≡ true → (c ≡ 101) ⊎ (c ≡ 69)
either_e c true e h = inl (eqb-true c 101 e)
either_e c false e h = inr (eqb-true c 69 (sym (ap (λ b. b || eqb c 69) e) ∙ h))

exponent_stands : (text : List ℕ) → Stands IsExponent text (after_exponent text)
exponent_stands [] = record { front = []; cut = refl; is = no_exponent }
exponent_stands (c ∷ cs) =
    cond_both (is_exponent c) (after_digits_or (c ∷ cs) (without_sign cs)) (c ∷ cs) (Stands IsExponent (c ∷ cs))
    (λ h. let s = sign_stands cs in
    digits_or_stand IsExponent (c ∷ cs) (without_sign cs) (c ∷ s.front) (ap (λ bs. c ∷ bs) s.cut) no_exponent (λ ds is. exponent c s.front ds (either_e c (eqb c 101) refl h) s.is is))
    (λ h. record { front = []; cut = refl; is = no_exponent })

pub tail_stands : (text : List ℕ) → Stands IsNumberTail text (after_tail text)
tail_stands text =
    cond_both (begins_with (eqb 47) text) (after_digits_or text (without_first text)) (after_exponent (after_point text)) (Stands IsNumberTail text)
    (λ h. let f = first_is 47 text h in
    digits_or_stand IsNumberTail text (without_first text) (47 ∷ []) (f.1 ∙ ap (λ bs. 47 ∷ without_first bs) (sym f.1)) (decimals [] [] no_point no_exponent) (λ ds is. denominator ds is))
    (λ h. let p = point_stands text in
    let e = exponent_stands (after_point text) in
    record { front = p.front ++ e.front; cut = p.cut ∙ ap (λ bs. p.front ++ bs) e.cut ∙ sym (append_assoc p.front e.front (after_exponent (after_point text))); is = decimals p.front e.front p.is e.is })

-- digits and what may follow them
pub record IsUnsigned (cs : List ℕ) : Type 0 where
  pub first : List ℕ
  pub tail : List ℕ
  pub digits : AreDigits first
  pub is_tail : IsNumberTail tail
  pub is : cs ≡ first ++ tail

pub number_stands : (text : List ℕ) → begins_with is_digit text ≡ true → Stands IsUnsigned text (after_number text)
unfolding after_number
number_stands text h =
    let d = digits_stand text h in
    let t = tail_stands (after is_digit text) in
    record {
      front = d.front ++ t.front;
      cut = d.cut ∙ ap (λ bs. d.front ++ bs) t.cut ∙ sym (append_assoc d.front t.front (after_tail (after is_digit text)));
      is = record { first = d.front; tail = t.front; digits = d.is; is_tail = t.is; is = refl };
    }

-- What there is

all_digits : (ds : List ℕ) → AreDigits ds → IsRun is_digit ds
all_digits ds (digits d more h k) = and_from (is_digit d) (list_all is_digit more) h k

begins_digits : (ds rest : List ℕ) → AreDigits ds → begins_with is_digit (ds ++ rest) ≡ true
begins_digits ds rest (digits d more h k) = h

digits_or_is : (text ds rest : List ℕ) → AreDigits ds → after_digits_or text (ds ++ rest) ≡ after is_digit rest
digits_or_is text ds rest is =
    cond-true (begins_with is_digit (ds ++ rest)) (after is_digit (ds ++ rest)) text (begins_digits ds rest is) ∙ after_all is_digit ds rest (all_digits ds is)

digits_or_reach : (text ds rest : List ℕ) → AreDigits ds → Reaches (after_digits_or text (ds ++ rest)) rest
digits_or_reach text ds rest is = subst (λ r. Reaches r rest) (sym (digits_or_is text ds rest is)) (after_reaches is_digit rest)

no_sign_digit : (d : ℕ) → is_digit d ≡ true → is_sign d ≡ false
no_sign_digit d h = grind (arith, nat_tests)

without_sign_digits : (ds rest : List ℕ) → AreDigits ds → without_sign (ds ++ rest) ≡ ds ++ rest
without_sign_digits ds rest (digits d more h k) = cond-false (is_sign d) (more ++ rest) (d ∷ more ++ rest) (no_sign_digit d h)

without_sign_is : (sign ds rest : List ℕ) → IsSign sign → AreDigits ds → without_sign ((sign ++ ds) ++ rest) ≡ ds ++ rest
without_sign_is sign ds rest no_sign is = without_sign_digits ds rest is
without_sign_is sign ds rest plus is = refl
without_sign_is sign ds rest minus is = refl

signed_reach : (text sign ds rest : List ℕ) → IsSign sign → AreDigits ds → Reaches (after_digits_or text (without_sign ((sign ++ ds) ++ rest))) rest
signed_reach text sign ds rest s is =
    subst (λ bs. Reaches (after_digits_or text bs) rest) (sym (without_sign_is sign ds rest s is)) (digits_or_reach text ds rest is)

exponent_shrinks : (text : List ℕ) → Reaches (after_exponent text) text
exponent_shrinks text = stands_reaches IsExponent text (after_exponent text) (exponent_stands text)

tail_shrinks : (text : List ℕ) → Reaches (after_tail text) text
tail_shrinks text = stands_reaches IsNumberTail text (after_tail text) (tail_stands text)

-- an exponent behind digits that may go on
exponent_reaches : (power rest : List ℕ) → IsExponent power → Reaches (after_exponent (after is_digit (power ++ rest))) rest
exponent_reaches power rest no_exponent = reaches_trans _ (after is_digit rest) rest (exponent_shrinks (after is_digit rest)) (after_reaches is_digit rest)
exponent_reaches power rest (exponent e sign ds (inl h) s is) =
    subst (λ x. Reaches (after_exponent (after is_digit (x ∷ (sign ++ ds) ++ rest))) rest) (sym h) (signed_reach (101 ∷ (sign ++ ds) ++ rest) sign ds rest s is)
exponent_reaches power rest (exponent e sign ds (inr h) s is) =
    subst (λ x. Reaches (after_exponent (after is_digit (x ∷ (sign ++ ds) ++ rest))) rest) (sym h) (signed_reach (69 ∷ (sign ++ ds) ++ rest) sign ds rest s is)

-- the same behind a number's first digits
power_reaches : (power rest : List ℕ) → IsExponent power → Reaches (after_tail (after is_digit (power ++ rest))) rest
power_reaches power rest no_exponent = reaches_trans _ (after is_digit rest) rest (tail_shrinks (after is_digit rest)) (after_reaches is_digit rest)
power_reaches power rest (exponent e sign ds (inl h) s is) =
    subst (λ x. Reaches (after_tail (after is_digit (x ∷ (sign ++ ds) ++ rest))) rest) (sym h) (signed_reach (101 ∷ (sign ++ ds) ++ rest) sign ds rest s is)
power_reaches power rest (exponent e sign ds (inr h) s is) =
    subst (λ x. Reaches (after_tail (after is_digit (x ∷ (sign ++ ds) ++ rest))) rest) (sym h) (signed_reach (69 ∷ (sign ++ ds) ++ rest) sign ds rest s is)

decimals_reach : (fraction power rest : List ℕ) → IsPoint fraction → IsExponent power → Reaches (after_tail (after is_digit ((fraction ++ power) ++ rest))) rest
decimals_reach fraction power rest no_point e = power_reaches power rest e
decimals_reach fraction power rest (point ds is) e =
    let whole : List ℕ = 46 ∷ (ds ++ power) ++ rest in
    let behind : after_point whole ≡ after is_digit (power ++ rest) =
    ap (after_digits_or whole) (append_assoc ds power rest) ∙ digits_or_is whole ds (power ++ rest) is in
    subst (λ bs. Reaches (after_exponent bs) rest) (sym behind) (exponent_reaches power rest e)

tail_reaches : (tail rest : List ℕ) → IsNumberTail tail → Reaches (after_tail (after is_digit (tail ++ rest))) rest
tail_reaches tail rest (denominator ds is) = digits_or_reach (47 ∷ ds ++ rest) ds rest is
tail_reaches tail rest (decimals fraction power p e) = decimals_reach fraction power rest p e

-- What follows a number that is read begins no earlier than what follows any number in front.
pub number_reaches : (ds tail rest : List ℕ) → AreDigits ds → IsNumberTail tail → Reaches (after_number ((ds ++ tail) ++ rest)) rest
unfolding after_number
number_reaches ds tail rest is t =
    subst (λ bs. Reaches (after_tail bs) rest) (sym (ap (after is_digit) (append_assoc ds tail rest) ∙ after_all is_digit ds (tail ++ rest) (all_digits ds is))) (tail_reaches tail rest t)

pub number_begins : (ds tail rest : List ℕ) → AreDigits ds → begins_with is_digit ((ds ++ tail) ++ rest) ≡ true
number_begins ds tail rest (digits d more h k) = h

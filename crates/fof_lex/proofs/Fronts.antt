-- A text cut in two, and runs of bytes in front of it.
use Rattle.std.proofs.Common.{◌≡◌, ℕ, ◌<◌, Bool, true, false, eqb, List, [], ◌∷◌, ◌++◌, length, refl, ap, sym, ◌∙◌, subst, length-append, ◌⊎◌, inl, inr, arith}
use Rattle.std.specs.List.{list_all}
use Rattle.std.proofs.lemmas.Bool.{and_parts, and_from, false≢true, eqb-true, cond_both, cond-true}
use Rattle.fof_lex.specs.Reading.{begins_with, after}

-- A text that begins with a list of which P holds, where `rest` follows.
pub record Stands (P : List ℕ → Type 0) (text rest : List ℕ) : Type 0 where
  pub front : List ℕ
  pub cut : text ≡ front ++ rest
  pub is : P front

-- one end of a text lies behind another, or is the same
abbrev pub Reaches : List ℕ → List ℕ → Type 0
Reaches rest text = (length rest < length text) ⊎ (rest ≡ text)

pub reaches_trans : (r s t : List ℕ) → Reaches r s → Reaches s t → Reaches r t
reaches_trans r s t (inl h) (inl k) = inl (omega arith)
reaches_trans r s t (inl h) (inr k) = inl (subst (λ x. length r < length x) k h)
reaches_trans r s t (inr h) k = subst (λ x. Reaches x t) (sym h) k

cut_reaches : (front text rest : List ℕ) → text ≡ front ++ rest → Reaches rest text
cut_reaches [] text rest e = inr (sym e)
cut_reaches (c ∷ front) text rest e = inl (omega (arith, ap length e, length-append (c ∷ front) rest))

pub stands_reaches : (P : List ℕ → Type 0) (text rest : List ℕ) → Stands P text rest → Reaches rest text
stands_reaches P text rest s = cut_reaches s.front text rest s.cut

-- Runs

abbrev pub IsRun : (ℕ → Bool) → List ℕ → Type 0
IsRun p cs = list_all p cs ≡ true

pub after_stands : (p : ℕ → Bool) (text : List ℕ) → Stands (IsRun p) text (after p text)
after_stands p [] = record { front = []; cut = refl; is = refl }
after_stands p (c ∷ cs) =
    cond_both (p c) (after p cs) (c ∷ cs) (Stands (IsRun p) (c ∷ cs))
    (λ h. let s = after_stands p cs in record { front = c ∷ s.front; cut = ap (λ bs. c ∷ bs) s.cut; is = and_from (p c) (list_all p s.front) h s.is })
    (λ h. record { front = []; cut = refl; is = refl })

pub after_reaches : (p : ℕ → Bool) (text : List ℕ) → Reaches (after p text) text
after_reaches p text = stands_reaches (IsRun p) text (after p text) (after_stands p text)

pub after_stops : (p : ℕ → Bool) (text : List ℕ) → begins_with p (after p text) ≡ false
after_stops p [] = refl
after_stops p (c ∷ cs) = cond_both (p c) (after p cs) (c ∷ cs) (λ rest. begins_with p rest ≡ false) (λ h. after_stops p cs) (λ h. h)

pub after_all : (p : ℕ → Bool) (xs ys : List ℕ) → IsRun p xs → after p (xs ++ ys) ≡ after p ys
after_all p [] ys h = refl
after_all p (x ∷ xs) ys h =
    let parts = and_parts (p x) (list_all p xs) h in
    cond-true (p x) (after p (xs ++ ys)) (x ∷ xs ++ ys) parts.0 ∙ after_all p xs ys parts.1

-- What follows a run of a longer text follows it no later than the run's own end.
pub run_reaches : (p : ℕ → Bool) (xs ys : List ℕ) → IsRun p xs → Reaches (after p (xs ++ ys)) ys
run_reaches p xs ys h = subst (λ r. Reaches r ys) (sym (after_all p xs ys h)) (after_reaches p ys)

-- the byte in front
pub first_is : (n : ℕ) (text : List ℕ) → begins_with (eqb n) text ≡ true → (rest : List ℕ) × (text ≡ n ∷ rest)
first_is n [] h = absurd (false≢true h)
first_is n (c ∷ cs) h = (cs, ap (λ x. x ∷ cs) (sym (eqb-true n c h)))

pub not_first : (n : ℕ) (text more : List ℕ) → begins_with (eqb n) text ≡ false → eqb n n ≡ true → text ≡ n ∷ more → ⊥
not_first n text more h same e = false≢true (sym h ∙ ap (begins_with (eqb n)) e ∙ same)

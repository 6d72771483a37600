-- The two numbers of a schedule.
use Rattle.std.proofs.Common.{◌≡◌, ◌<◌, ℕ, Bool, true, false, [], ◌∷◌, ◌++◌, refl, ap, ap₂, sym, ◌∙◌, subst, true≢false, Option, Some, None, arith}
use Rattle.std.specs.Prelude.{◌==◌, MatchOption, IsNone, length}
use Rattle.std.specs.List.{position_or_len}
use Rattle.std.specs.Char.{digit_value}
use Rattle.std.specs.Str.Parse.{AllDigits, digits_value}
use Rattle.goeland_words.specs.Table.{Text}
use Rattle.goeland_words.specs.Cut.{has_byte, after, CutsAt}
use Rattle.goeland_words.specs.Numbers.{IsNumberIn}
use Rattle.goeland_words.specs.Values.{IsPair, IsSchedule}
use Rattle.goeland_words.specs.declared.prove.Schedule.{Schedule}
use Rattle.goeland_words.proofs.Spelled.{equal, cut_at, cut_has, lacks_at_end}
use Rattle.goeland_words.specs.declared.limits.TheConstants.{MAX_SEED, MAX_TURNS}

-- no digit is a comma
no_comma_digit : (digits : Text) → AllDigits 10 digits → has_byte 44 digits ≡ false
no_comma_digit [] all = refl
no_comma_digit (c ∷ cs) all = go (c == 44) refl (no_comma_digit cs all.1)
  where
    bad : c ≡ 44 → ⊥
    bad is = let h : digit_value 44 < 10 = subst (λ (x : ℕ). digit_value x < 10) is all.0 in absurd (omega (arith, h))

    go : (b : Bool) → (c == 44) ≡ b → has_byte 44 cs ≡ false → has_byte 44 (c ∷ cs) ≡ false
    go true e later = absurd (bad (equal c 44 e))
    go false e later = rw e later

-- so the parts of a pair are those at the first comma
pub pair_cut : (text : Text) (s : Schedule) (p : IsPair text s) → CutsAt 44 p.seed p.turns text
pair_cut text s p = subst (λ (x : Text). CutsAt 44 p.seed p.turns x) (sym p.parts) (cut_at 44 p.seed p.turns (no_comma_digit p.seed p.is_seed.0.0.1))

pub no_comma : (text : Text) → has_byte 44 text ≡ false → (r : Option Schedule) → IsSchedule (Some text) r → ⊥
no_comma text lacks None is = is
no_comma text lacks (Some s) is = true≢false (sym (pair_cut text s is).has ∙ lacks)

pub no_seed : (text seed turns : Text) → CutsAt 44 seed turns text → ((n : ℕ) → IsNumberIn 0 MAX_SEED seed n → ⊥) → (r : Option Schedule) → IsSchedule (Some text) r → ⊥
no_seed text seed turns cut none None is = is
no_seed text seed turns cut none (Some s) is = none s.seed (subst (λ (x : Text). IsNumberIn 0 MAX_SEED x s.seed) (sym (pair_cut text s is).front ∙ cut.front) is.is_seed)

pub no_turns : (text seed turns : Text) → CutsAt 44 seed turns text → ((n : ℕ) → IsNumberIn 0 MAX_TURNS turns n → ⊥) → (r : Option Schedule) → IsSchedule (Some text) r → ⊥
no_turns text seed turns cut none None is = is
no_turns text seed turns cut none (Some s) is = none s.turns (subst (λ (x : Text). IsNumberIn 0 MAX_TURNS x s.turns) (sym (pair_cut text s is).back ∙ cut.back) is.are_turns)

pub is_pair : (text seed turns : Text) (s : Schedule) → CutsAt 44 seed turns text → IsNumberIn 0 MAX_SEED seed s.seed → IsNumberIn 0 MAX_TURNS turns s.turns → IsPair text s
is_pair text seed turns s cut one two = record {
  seed = seed;
  turns = turns;
  parts = cut_has 44 text cut.has ∙ (ap (λ (l : Text). l ++ 44 ∷ after 44 text) cut.front ∙ ap (λ (l : Text). seed ++ 44 ∷ l) cut.back);
  is_seed = one;
  are_turns = two;
}

pub same_pair : (text : Text) (s t : Schedule) → IsPair text s → IsPair text t → s ≡ t
same_pair text s t p q =
    let front = sym (pair_cut text s p).front ∙ (pair_cut text t q).front in
    let back = sym (pair_cut text s p).back ∙ (pair_cut text t q).back in
    let one : s.seed ≡ t.seed = p.is_seed.0.2 ∙ (ap (λ (x : Text). digits_value 10 x) front ∙ sym q.is_seed.0.2) in
    let two : s.turns ≡ t.turns = p.are_turns.0.2 ∙ (ap (λ (x : Text). digits_value 10 x) back ∙ sym q.are_turns.0.2) in
    let make : ℕ → ℕ → Schedule = λ a b. record { seed = a; turns = b } in
    ap₂ make one two

-- a text that is not split has no comma
pub not_split : {X : Type 0} → (P : X → Type 0) (text : Text) (r : Option X) → MatchOption r (position_or_len (λ b. b == 44) text ≡ length text) P → IsNone r → has_byte 44 text ≡ false
not_split P text None is none = lacks_at_end 44 text is
not_split P text (Some x) is none = absurd (true≢false none)

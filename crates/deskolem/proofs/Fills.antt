-- The gamma steps of a rewriting, counted one by one from the last fill on.
use Rattle.std.proofs.Common.{◌≡◌, ◌+◌, ◌<◌, ◌≤◌, ℕ, zero, suc, min, max, List, [], ◌∷◌, ◌++◌, length, map, reverse, take, get_or, Result, Ok, Err, refl, ap, sym, ◌∙◌, subst, arith}
use mathlib.Core.List.{reverse-cons}
use Rattle.fol_core.specs.Symbol.{Symbol}
use Rattle.gs3_rules.specs.Rules.{gamma}
use Rattle.free_terms.specs.Free.{Name}
use Rattle.free_terms.specs.View.{fill_of, fills_of}
use Rattle.free_terms.specs.declared.fills.Fill.{Fill}
use Rattle.rewrite_expand.specs.Expansion.{gamma_steps, last_of}
use Rattle.unify.specs.Offers.{Offer}
use Rattle.unify.specs.declared.measuring.Lengths.{Lengths}
use Rattle.translation.specs.Counting.{lines_bytes}
use Rattle.translation.specs.Measures.{nesting_of}
use Rattle.translation.specs.Translation.{fill_under}
use Rattle.deskolem.specs.Sums.{AreLengths, Adds, closed_fills, most_counted}
use Rattle.deskolem.specs.declared.answer.GsError.{GsError}
use Rattle.deskolem.specs.declared.answer.GsError.TheVariants.{Bytes, Nesting, OutOfMemory}
use Rattle.deskolem.specs.declared.count.Count.{Count}
use Rattle.deskolem.proofs.Spanned.{taken}

pub reverse_last : {A : Type 0} (xs : List A) (x : A) → reverse (xs ++ x ∷ []) ≡ x ∷ reverse xs
reverse_last [] x = refl
reverse_last (y ∷ xs) x = reverse-cons y (xs ++ x ∷ []) ∙ ap (λ r. r ++ y ∷ []) (reverse_last xs x) ∙ ap (λ r. x ∷ r) (sym (reverse-cons y xs))

mapped_last : (s : Offer) (ys : List Name) (fills : List Fill) (fill : Fill)
    → map (fill_under s ys) (fills_of (fills ++ fill ∷ [])) ≡ map (fill_under s ys) (fills_of fills) ++ fill_under s ys (fill_of fill) ∷ []
mapped_last s ys [] fill = refl
mapped_last s ys (f ∷ fills) fill = ap (λ l. fill_under s ys (fill_of f) ∷ l) (mapped_last s ys fills fill)

pub next_fill : (s : Offer) (ys : List Name) (fills : List Fill) (at : ℕ) (fill : Fill) → at < length fills → fill ≡ get_or fills at fill
    → closed_fills s ys (take (suc at) fills) ≡ fill_under s ys (fill_of fill) ∷ closed_fills s ys (take at fills)
next_fill s ys fills at fill lt e =
    ap (closed_fills s ys) (taken fills at fill lt e) ∙ ap reverse (mapped_last s ys (take at fills) fill)
    ∙ reverse_last (map (fill_under s ys) (fills_of (take at fills))) (fill_under s ys (fill_of fill))

-- what was counted, with the steps that are left, is the whole
pub record Remains (s : Offer) (l : Lengths) (so_far : Count) (axiom_place len : ℕ) (fills : List Fill) (count : Count) (place next at : ℕ) : Type 0 where
  pub last : (ys : List Name) → last_of place next (closed_fills s ys (take at fills)) ≡ last_of axiom_place len (closed_fills s ys fills)
  pub bytes : (fs : List Symbol) (ys : List Name) → AreLengths fs ys l
      → count.bytes + lines_bytes fs (gamma_steps place next (closed_fills s ys (take at fills)))
      ≡ so_far.bytes + lines_bytes fs (gamma_steps axiom_place len (closed_fills s ys fills))
  pub nesting : (fs : List Symbol) (ys : List Name) → AreLengths fs ys l
      → min most_counted (max count.depth (nesting_of (gamma_steps place next (closed_fills s ys (take at fills)))))
      ≡ min most_counted (max so_far.depth (nesting_of (gamma_steps axiom_place len (closed_fills s ys fills))))

all_taken : {A : Type 0} (xs : List A) (n : ℕ) → n ≡ length xs → take n xs ≡ xs
all_taken [] zero e = refl
all_taken [] (suc n) e = refl
all_taken (x ∷ xs) zero e = let no_place : ⊥ = omega (arith, e) in absurd no_place
all_taken (x ∷ xs) (suc n) e = ap (λ l. x ∷ l) (all_taken xs n (omega (arith, e)))

pub remains_all : (s : Offer) (l : Lengths) (so_far : Count) (axiom_place len : ℕ) (fills : List Fill) (at : ℕ) → at ≡ length fills → Remains s l so_far axiom_place len fills so_far axiom_place len at
remains_all s l so_far axiom_place len fills at e =
    let all = all_taken fills at e in record {
      last = λ ys. ap (λ z. last_of axiom_place len (closed_fills s ys z)) all;
      bytes = λ fs ys _. ap (λ z. so_far.bytes + lines_bytes fs (gamma_steps axiom_place len (closed_fills s ys z))) all;
      nesting = λ fs ys _. ap (λ z. min most_counted (max so_far.depth (nesting_of (gamma_steps axiom_place len (closed_fills s ys z))))) all;
    }

abbrev pub AddsGamma : Offer → Lengths → Count → ℕ → Fill → ℕ → Result Count GsError → Type 0
AddsGamma s l count place fill limit r =
    (fs : List Symbol) (ys : List Name) → AreLengths fs ys l → Adds fs count (gamma place (fill_under s ys (fill_of fill)) ∷ []) limit r

pub fill_refused : (s : Offer) (l : Lengths) (so_far : Count) (axiom_place len : ℕ) (fills : List Fill) (count : Count) (place next n at limit : ℕ) (fill : Fill) (e : GsError)
    → n ≡ suc at → Remains s l so_far axiom_place len fills count place next n → at < length fills → fill ≡ get_or fills at fill → AddsGamma s l count place fill limit (Err e)
    → (fs : List Symbol) (ys : List Name) → AreLengths fs ys l → Adds fs so_far (gamma_steps axiom_place len (closed_fills s ys fills)) limit (Err e)
fill_refused s l so_far axiom_place len fills count place next n at limit fill Bytes same h0 lt e adds fs ys are =
    let h = subst (Remains s l so_far axiom_place len fills count place next) same h0 in
    let split = ap (λ z. lines_bytes fs (gamma_steps place next z)) (next_fill s ys fills at fill lt e) in
    omega (arith, split, h.bytes fs ys are, adds fs ys are)
fill_refused s l so_far axiom_place len fills count place next n at limit fill Nesting same h0 lt e adds fs ys are = absurd (adds fs ys are)
fill_refused s l so_far axiom_place len fills count place next n at limit fill OutOfMemory same h0 lt e adds fs ys are = tt

pub fill_added : (s : Offer) (l : Lengths) (so_far : Count) (axiom_place len : ℕ) (fills : List Fill) (count more : Count) (place next n at limit : ℕ) (fill : Fill)
    → n ≡ suc at → Remains s l so_far axiom_place len fills count place next n → at < length fills → fill ≡ get_or fills at fill → AddsGamma s l count place fill limit (Ok more)
    → Remains s l so_far axiom_place len fills more next (next + 1) at
fill_added s l so_far axiom_place len fills count more place next n at limit fill same h0 lt e adds =
    let h = subst (Remains s l so_far axiom_place len fills count place next) same h0 in
    let further : suc next ≡ next + 1 = omega arith in
    subst (λ k. Remains s l so_far axiom_place len fills more next k at) further (record {
      last = λ ys. sym (ap (last_of place next) (next_fill s ys fills at fill lt e)) ∙ h.last ys;
      bytes = λ fs ys are.
          let split = ap (λ z. lines_bytes fs (gamma_steps place next z)) (next_fill s ys fills at fill lt e) in
          let is = adds fs ys are in
          omega (arith, split, h.bytes fs ys are, is.0);
      nesting = λ fs ys are.
          let split = ap (λ z. nesting_of (gamma_steps place next z)) (next_fill s ys fills at fill lt e) in
          let is = adds fs ys are in
          omega (arith, split, h.nesting fs ys are, is.1);
    })

pub all_added : (s : Offer) (l : Lengths) (so_far : Count) (axiom_place len : ℕ) (fills : List Fill) (count : Count) (place next at limit : ℕ) → at ≡ 0 → count.bytes ≤ limit
    → Remains s l so_far axiom_place len fills count place next at
    → (fs : List Symbol) (ys : List Name) → AreLengths fs ys l → Adds fs so_far (gamma_steps axiom_place len (closed_fills s ys fills)) limit (Ok count)
all_added s l so_far axiom_place len fills count place next at limit none fits h fs ys are =
    let none_left : take at fills ≡ [] = ap (λ n. take n fills) none in
    let bytes_left = ap (λ z. lines_bytes fs (gamma_steps place next (closed_fills s ys z))) none_left in
    let nesting_left = ap (λ z. nesting_of (gamma_steps place next (closed_fills s ys z))) none_left in
    (omega (arith, bytes_left, h.bytes fs ys are), omega (arith, nesting_left, h.nesting fs ys are), fits)

pub all_placed : (s : Offer) (l : Lengths) (so_far : Count) (axiom_place len : ℕ) (fills : List Fill) (count : Count) (place next at : ℕ) → at ≡ 0
    → Remains s l so_far axiom_place len fills count place next at → (ys : List Name) → place ≡ last_of axiom_place len (closed_fills s ys fills)
all_placed s l so_far axiom_place len fills count place next at none h ys =
    let none_left : take at fills ≡ [] = ap (λ n. take n fills) none in
    sym (ap (λ z. last_of place next (closed_fills s ys z)) none_left) ∙ h.last ys

-- The steps of lines, counted one line after the other.
use Rattle.std.proofs.Common.{◌≡◌, ◌+◌, ◌<◌, ◌≤◌, ℕ, zero, suc, min, max, List, [], ◌∷◌, length, drop, get_or, Result, Ok, Err, refl, ap, sym, subst, arith}
use Rattle.std.specs.List.{AllByRecursion}
use Rattle.fol_core.specs.Symbol.{Symbol}
use Rattle.free_terms.specs.Free.{Name}
use Rattle.unify.specs.Offers.{Offer}
use Rattle.unify.specs.declared.measuring.Lengths.{Lengths}
use Rattle.translation.specs.Counting.{lines_bytes}
use Rattle.translation.specs.Measures.{nesting_of}
use Rattle.translation.proofs.InTurn.{bytes_of_both, nesting_of_both}
use Rattle.deskolem.specs.Lines.{HasRoom, rules_of_line, rules_of_lines}
use Rattle.deskolem.specs.Sums.{AreLengths, Adds, most_counted}
use Rattle.deskolem.specs.declared.answer.GsError.{GsError}
use Rattle.deskolem.specs.declared.answer.GsError.TheVariants.{Bytes, Nesting, OutOfMemory}
use Rattle.deskolem.specs.declared.count.Count.{Count}
use Rattle.deskolem.specs.declared.line.Line.{Line}

next_line : (lines : List Line) (i : ℕ) (line : Line) → i < length lines → line ≡ get_or lines i line → drop i lines ≡ line ∷ drop (suc i) lines
next_line [] i line lt e = let no_place : ⊥ = omega (arith, lt) in absurd no_place
next_line (x ∷ lines) zero line lt e = ap (λ z. z ∷ lines) (sym e)
next_line (x ∷ lines) (suc i) line lt e = next_line lines i line (omega (arith, lt)) e

none_left : (lines : List Line) (i : ℕ) → length lines ≤ i → drop i lines ≡ []
none_left [] zero le = refl
none_left [] (suc i) le = refl
none_left (x ∷ lines) zero le = let no_place : ⊥ = omega (arith, le) in absurd no_place
none_left (x ∷ lines) (suc i) le = none_left lines i (omega (arith, le))

-- what was counted, with the lines that are left, is the whole
pub record LinesRemain (s : Offer) (ys : List Name) (l : Lengths) (so_far : Count) (lines : List Line) (count : Count) (i : ℕ) : Type 0 where
  pub bytes : (fs : List Symbol) → AreLengths fs ys l → count.bytes + lines_bytes fs (rules_of_lines s ys (drop i lines)) ≡ so_far.bytes + lines_bytes fs (rules_of_lines s ys lines)
  pub nesting : (fs : List Symbol) → AreLengths fs ys l
      → min most_counted (max count.depth (nesting_of (rules_of_lines s ys (drop i lines)))) ≡ min most_counted (max so_far.depth (nesting_of (rules_of_lines s ys lines)))

pub lines_remain : (s : Offer) (ys : List Name) (l : Lengths) (so_far : Count) (lines : List Line) → LinesRemain s ys l so_far lines so_far 0
lines_remain s ys l so_far lines = record { bytes = λ fs _. refl; nesting = λ fs _. refl }

abbrev pub AddsLine : Offer → List Name → Lengths → Count → Line → ℕ → Result Count GsError → Type 0
AddsLine s ys l count line limit r = (fs : List Symbol) → AreLengths fs ys l → Adds fs count (rules_of_line s ys line) limit r

pub line_added : (s : Offer) (ys : List Name) (l : Lengths) (so_far : Count) (lines : List Line) (count more : Count) (i limit : ℕ) (line : Line)
    → LinesRemain s ys l so_far lines count i → i < length lines → line ≡ get_or lines i line → AddsLine s ys l count line limit (Ok more)
    → LinesRemain s ys l so_far lines more (i + 1)
line_added s ys l so_far lines count more i limit line h lt e adds =
    let further : suc i ≡ i + 1 = omega arith in
    subst (LinesRemain s ys l so_far lines more) further (record {
      bytes = λ fs are.
          let split = ap (λ z. lines_bytes fs (rules_of_lines s ys z)) (next_line lines i line lt e) in
          let both = bytes_of_both fs (rules_of_line s ys line) (rules_of_lines s ys (drop (suc i) lines)) in
          let is = adds fs are in
          omega (arith, split, both, h.bytes fs are, is.0);
      nesting = λ fs are.
          let split = ap (λ z. nesting_of (rules_of_lines s ys z)) (next_line lines i line lt e) in
          let both = nesting_of_both (rules_of_line s ys line) (rules_of_lines s ys (drop (suc i) lines)) in
          let is = adds fs are in
          omega (arith, split, both, h.nesting fs are, is.1);
    })

pub line_refused : (s : Offer) (ys : List Name) (l : Lengths) (so_far : Count) (lines : List Line) (count : Count) (i limit : ℕ) (line : Line) (e : GsError)
    → LinesRemain s ys l so_far lines count i → i < length lines → line ≡ get_or lines i line → AddsLine s ys l count line limit (Err e)
    → (fs : List Symbol) → AreLengths fs ys l → Adds fs so_far (rules_of_lines s ys lines) limit (Err e)
line_refused s ys l so_far lines count i limit line Bytes h lt e adds fs are =
    let split = ap (λ z. lines_bytes fs (rules_of_lines s ys z)) (next_line lines i line lt e) in
    let both = bytes_of_both fs (rules_of_line s ys line) (rules_of_lines s ys (drop (suc i) lines)) in
    omega (arith, split, both, h.bytes fs are, adds fs are)
line_refused s ys l so_far lines count i limit line Nesting h lt e adds fs are = absurd (adds fs are)
line_refused s ys l so_far lines count i limit line OutOfMemory h lt e adds fs are = tt

pub lines_added : (s : Offer) (ys : List Name) (l : Lengths) (so_far : Count) (lines : List Line) (count : Count) (i limit : ℕ) → LinesRemain s ys l so_far lines count i → length lines ≤ i → count.bytes ≤ limit
    → (fs : List Symbol) → AreLengths fs ys l → Adds fs so_far (rules_of_lines s ys lines) limit (Ok count)
lines_added s ys l so_far lines count i limit h le fits fs are =
    let bytes_left = ap (λ z. lines_bytes fs (rules_of_lines s ys z)) (none_left lines i le) in
    let nesting_left = ap (λ z. nesting_of (rules_of_lines s ys z)) (none_left lines i le) in
    (omega (arith, bytes_left, h.bytes fs are), omega (arith, nesting_left, h.nesting fs are), fits)

rooms_next : (lines : List Line) (i : ℕ) → AllByRecursion HasRoom (drop i lines) → AllByRecursion HasRoom (drop (suc i) lines)
rooms_next [] zero h = tt
rooms_next [] (suc i) h = tt
rooms_next (x ∷ lines) zero h = h.1
rooms_next (x ∷ lines) (suc i) h = rooms_next lines i h

pub rooms_left : (lines : List Line) (i : ℕ) → AllByRecursion HasRoom (drop i lines) → AllByRecursion HasRoom (drop (i + 1) lines)
rooms_left lines i h =
    let further : suc i ≡ i + 1 = omega arith in
    subst (λ k. AllByRecursion HasRoom (drop k lines)) further (rooms_next lines i h)

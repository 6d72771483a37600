-- What counting the steps one after the other answers, which ends where there is no more room.
use Rattle.std.specs.Prelude.{◌≡◌, ℕ, suc, ◌+◌, ◌<◌, ◌≤◌, min, max, not, if◌then◌else◌, List, [], ◌∷◌, length, map}
use Rattle.std.specs.Prelude.{reverse, Result, Ok, Err}
use Rattle.fol_core.specs.Symbol.{Symbol}
use Rattle.gs3_rules.specs.Rules.{Rule, beta}
use Rattle.fol_core.specs.Syntax.{PlainTerm}
use Rattle.free_terms.specs.Free.{Name}
use Rattle.free_terms.specs.View.{fills_of}
use Rattle.free_terms.specs.declared.fills.Fill.{Fill}
use Rattle.rewrite_expand.specs.Expansion.{gamma_steps, head_place, opposite}
use Rattle.unify.specs.Offers.{Offer}
use Rattle.unify.specs.Measure.{symbol_length, skolem_length}
use Rattle.unify.specs.declared.measuring.Lengths.{Lengths}
use Rattle.translation.specs.Measures.{nesting_of}
use Rattle.translation.specs.Counting.{digits_of, symbol_bytes, lines_bytes}
use Rattle.translation.specs.Translation.{parameter_of, fill_under}
use Rattle.deskolem.specs.declared.answer.GsError.{GsError}
use Rattle.deskolem.specs.declared.answer.GsError.TheVariants.{Bytes, Nesting, OutOfMemory}
use Rattle.deskolem.specs.declared.count.Count.{Count}
use Rattle.deskolem.specs.declared.line.Rewriting.{Rewriting}
use Rattle.deskolem.specs.declared.measuring.Opened.{Opened}

-- a length or a depth is counted up to that many: no limit of a text is as large
abbrev pub most_counted : ℕ
most_counted = 134217729

-- These are the lengths of the function symbols' spellings, and of the parameters of the Skolem symbols ys. A symbol
-- without a name is spelled by two quotes, and what is open is #0.
pub record AreLengths (fs : List Symbol) (ys : List Name) (lengths : Lengths) : Type 0 where
  pub symbols : (f : ℕ) → symbol_length lengths f ≡ symbol_bytes fs f
  pub skolems : (x : Name) → skolem_length lengths x ≡ suc (digits_of (parameter_of 0 ys x))
  pub other : lengths.other ≡ 2

-- The bytes, and the nesting as far as it is counted, with those of further steps, or Bytes exactly where the bytes are
-- more than the limit, but for want of memory.
abbrev pub IsSum : Count → ℕ → ℕ → ℕ → Result Count GsError → Type 0
IsSum so_far bytes deep limit (Ok c) =
    (c.bytes ≡ so_far.bytes + bytes) × (min most_counted c.depth ≡ min most_counted (max so_far.depth deep))
    × (c.bytes ≤ limit)
IsSum so_far bytes deep limit (Err Bytes) = limit < so_far.bytes + bytes
IsSum so_far bytes deep limit (Err Nesting) = ⊥
IsSum so_far bytes deep limit (Err OutOfMemory) = Unit {0}

abbrev pub Adds : List Symbol → Count → List Rule → ℕ → Result Count GsError → Type 0
Adds fs so_far rules limit found = IsSum so_far (lines_bytes fs rules) (nesting_of rules) limit found

-- the terms of a rewriting's gamma steps, from the outermost quantifier on
abbrev pub closed_fills : Offer → List Name → List Fill → List PlainTerm
closed_fills s ys fills = reverse (map (fill_under s ys) (fills_of fills))

-- the same of the gamma steps of a rewriting
abbrev pub AddsFills : List Symbol → Offer → List Name → Count → Rewriting → ℕ → Result Opened GsError → Type 0
AddsFills fs s ys so_far w limit (Ok o) =
    Adds fs so_far (gamma_steps w.axiom w.len (closed_fills s ys w.rewritten.fills)) limit (Ok o.count)
AddsFills fs s ys so_far w limit (Err e) =
    Adds fs so_far (gamma_steps w.axiom w.len (closed_fills s ys w.rewritten.fills)) limit (Err e)

-- The split of a rewriting, by the place of its equivalence, and behind it the step that closes the left premise where
-- the literal is negated.
abbrev pub split_of : ℕ → Rewriting → List Rule
split_of place w =
    let head = head_place w.rewritten.head_left (w.len + length w.rewritten.fills) in
    beta place ∷ (if not w.positive then opposite w.positive w.literal head ∷ [] else [])

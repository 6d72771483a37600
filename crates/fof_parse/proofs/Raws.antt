-- The terms as written that the program's terms stand for, level by level.
use Rattle.std.proofs.Common.{◌≡◌, ℕ, zero, suc, ◌+◌, ◌≤◌, List, [], ◌∷◌, length, drop, Some, Bor, refl, sym, ap, ◌∙◌, arith}
use Rattle.std.specs.Prelude.{slice_get}
use Rattle.fof_parse.specs.Problem.{count}
use Rattle.fof_parse.specs.declared.term.Symbol.{Symbol}
use Rattle.fof_parse.specs.declared.term.Raw.{Raw, fold-roll-Raw}
use Rattle.fof_parse.specs.declared.term.Raw.TheVariants.{Variable, Number, Distinct, Applied}
use Rattle.fof_parse.specs.declared.term.Raw.TheOpen.{Raw-F}
use Rattle.fof_parse.specs.declared.term.Raw.TheViews.{roll-Raw}
use denote.Hole.Carrier.{roll}
use Rattle.fof_parse.specs.Grammar as grammar
use Rattle.fof_parse.specs.Reader.Views.{symbol_of, raw_level, raw_of, raws_of}

pub raw_of_applied : (f : Symbol) (us : List Raw) → raw_of (Applied f us) ≡ grammar.applied (symbol_of f) (raws_of us)
unfolding roll-Raw roll
raw_of_applied f us = fold-roll-Raw grammar.Term raw_level (Raw-F.Applied f us)

pub raw_of_variable : (w : Bor (List ℕ)) → raw_of (Variable w) ≡ grammar.variable w.now
unfolding roll-Raw roll
raw_of_variable w = fold-roll-Raw grammar.Term raw_level (Raw-F.Variable w)

pub raw_of_number : (w : Bor (List ℕ)) → raw_of (Number w) ≡ grammar.numeral w.now
unfolding roll-Raw roll
raw_of_number w = fold-roll-Raw grammar.Term raw_level (Raw-F.Number w)

pub raw_of_distinct : (w : Bor (List ℕ)) → raw_of (Distinct w) ≡ grammar.object w.now
unfolding roll-Raw roll
raw_of_distinct w = fold-roll-Raw grammar.Term raw_level (Raw-F.Distinct w)

pub raws_count : (us : List Raw) → count (raws_of us) ≡ length us
raws_count [] = refl
raws_count (u ∷ us) = ap suc (raws_count us)

pub raws_at : (us : List Raw) (i : ℕ) (u : Raw) → slice_get us i ≡ Some u → raws_of (drop i us) ≡ grammar.terms (raw_of u) (raws_of (drop (i + 1) us))
raws_at [] i u h = cc
raws_at (x ∷ us) zero u h = let e : x ≡ u = cc (h) in ap (λ y. grammar.terms (raw_of y) (raws_of us)) e
raws_at (x ∷ us) (suc i) u h =
    let e : suc i + 1 ≡ suc (i + 1) = omega arith in raws_at us i u h ∙ ap (λ n. grammar.terms (raw_of u) (raws_of (drop n (x ∷ us)))) (sym e)

pub raws_end : (us : List Raw) (i : ℕ) → length us ≤ i → raws_of (drop i us) ≡ grammar.no_terms
raws_end [] zero h = refl
raws_end [] (suc i) h = refl
raws_end (x ∷ us) zero h = absurd (omega (arith, h))
raws_end (x ∷ us) (suc i) h = raws_end us i (omega (arith, h))

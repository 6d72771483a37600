-- The steps of a rewriting before those with which the proof goes on: its gamma steps, and then its split.
use Rattle.std.proofs.Common.{◌≡◌, ◌+◌, ℕ, suc, not, if◌then◌else◌, List, [], ◌∷◌, ◌++◌, length, map, refl, ap, sym, ◌∙◌, append_assoc}
use Rattle.std.proofs.lemmas.List.{length-reverse}
use Rattle.gs3_rules.specs.Rules.{Rule, beta}
use Rattle.free_terms.specs.Free.{Name}
use Rattle.free_terms.specs.View.{fills_of}
use Rattle.free_terms.specs.declared.fills.Fill.{Fill}
use Rattle.rewrite_expand.specs.Expansion.{gamma_steps, last_of, head_place, opposite}
use Rattle.unify.specs.Offers.{Offer}
use Rattle.translation.specs.Translation.{fill_under}
use Rattle.deskolem.specs.Lines.{expansion_by, opening}
use Rattle.deskolem.specs.Sums.{closed_fills, split_of}
use Rattle.deskolem.specs.declared.line.Rewriting.{Rewriting}

map_length : (s : Offer) (ys : List Name) (fills : List Fill) → length (map (fill_under s ys) (fills_of fills)) ≡ length fills
map_length s ys [] = refl
map_length s ys (f ∷ fills) = ap suc (map_length s ys fills)

fills_length : (s : Offer) (ys : List Name) (fills : List Fill) → length (closed_fills s ys fills) ≡ length fills
fills_length s ys fills = length-reverse (map (fill_under s ys) (fills_of fills)) ∙ map_length s ys fills

pub opening_is : (s : Offer) (ys : List Name) (w : Rewriting) (place : ℕ) → place ≡ last_of w.axiom w.len (closed_fills s ys w.rewritten.fills)
    → gamma_steps w.axiom w.len (closed_fills s ys w.rewritten.fills) ++ split_of place w ≡ opening (expansion_by s ys w)
opening_is s ys w place is =
    let us = closed_fills s ys w.rewritten.fills in
    let gammas = gamma_steps w.axiom w.len us in
    let rest : ℕ → List Rule = λ n. if not w.positive then opposite w.positive w.literal (head_place w.rewritten.head_left (w.len + n)) ∷ [] else [] in
    ap (λ p. gammas ++ beta p ∷ rest (length w.rewritten.fills)) is
    ∙ ap (λ n. gammas ++ beta (last_of w.axiom w.len us) ∷ rest n) (sym (fills_length s ys w.rewritten.fills))
    ∙ sym (append_assoc gammas (beta (last_of w.axiom w.len us) ∷ []) (rest (length us)))

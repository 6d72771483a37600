-- A translation has no more parameters than steps.
use Rattle.std.proofs.Common.{ℕ, suc, ◌+◌, ◌≤◌, Bool, true, false, if◌then◌else◌, List, [], ◌∷◌, ◌++◌, length, map, reverse, slice_get, ap, arith, length-append}
use Rattle.gs3_rules.specs.Rules.{Rule}
use Rattle.gs3_rules.specs.Refutes.{ProofTree, preorder}
use Rattle.rewrite_expand.specs.Expansion.{Expansion, expansion}
use Rattle.rewrite_expand.specs.Expansion.{whole}
use Rattle.rewrite_expand.proofs.InPreorder.{in_preorder}
use Rattle.free_terms.specs.Free.{Name}
use Rattle.unify.specs.Offers.{Offer}
use Rattle.branch_rules.specs.Branch.{Branch, expand, rewrite, skolemize, instantiate, go_left, go_right, entries, after}
use Rattle.translation.specs.StepTree.{StepTree, closes, goes_on, forks}
use Rattle.translation.specs.Translation.{skolems, proof_below, fill_under, place_in, is_positive_at, run_of, growth}

one_longer : (t : ProofTree) → length (preorder t) ≤ length (preorder t ++ [])
one_longer t = omega (arith, length-append (preorder t) [])

part_of_whole : (x : Expansion) (steps : List Rule) → length steps ≤ length (whole x steps)
part_of_whole x steps = by_side x.close_first where
  by_side : (q : Bool) → length steps ≤ length (x.before ++ (if q then x.closing ∷ steps else steps ++ x.closing ∷ []))
  by_side true = omega (arith, length-append x.before (x.closing ∷ steps))
  by_side false = omega (arith, length-append x.before (steps ++ x.closing ∷ []), length-append steps (x.closing ∷ []))

module _ (s : Offer) (ys : List Name) where
  pub few_symbols : (c : StepTree) (b : Branch) (places : List ℕ) (len : ℕ) → length (skolems c) ≤ length (preorder (proof_below s ys b places len c))
  few_symbols (closes item) b places len = omega arith
  few_symbols (goes_on (expand i) c) b places len =
      let n = growth b (expand i) in
      omega (arith, few_symbols c (after b (expand i)) (places ++ run_of len n) (len + n), one_longer (proof_below s ys (after b (expand i)) (places ++ run_of len n) (len + n) c))
  few_symbols (goes_on (skolemize i x) c) b places len =
      omega (arith, few_symbols c (after b (skolemize i x)) (places ++ len ∷ []) (suc len), one_longer (proof_below s ys (after b (skolemize i x)) (places ++ len ∷ []) (suc len) c))
  few_symbols (goes_on (instantiate i x) c) b places len =
      omega (arith, few_symbols c (after b (instantiate i x)) (places ++ len ∷ []) (suc len), one_longer (proof_below s ys (after b (instantiate i x)) (places ++ len ∷ []) (suc len) c))
  few_symbols (goes_on (rewrite i r) c) b places len =
      let us = reverse (map (fill_under s ys) r.fills) in
      let positive = is_positive_at (slice_get (entries b) i) in
      let go_on : ℕ → ProofTree = λ body_at. proof_below s ys (after b (rewrite i r)) (places ++ body_at ∷ []) (2 + (len + length us)) c in
      let x = expansion len (place_in places r.axiom_place) (place_in places i) positive r.head_left us in
      omega (
        arith,
        ap length (in_preorder len (place_in places r.axiom_place) (place_in places i) positive r.head_left us go_on),
        part_of_whole x (preorder (go_on x.result)),
        few_symbols c (after b (rewrite i r)) (places ++ x.result ∷ []) (2 + (len + length us)),
      )
  few_symbols (goes_on (go_left i) c) b places len = few_symbols c (after b (go_left i)) places len
  few_symbols (goes_on (go_right i) c) b places len = few_symbols c (after b (go_right i)) places len
  few_symbols (forks i c c') b places len =
      let m = growth b (go_left i) in
      let n = growth b (go_right i) in
      let l = proof_below s ys (after b (go_left i)) (places ++ run_of len m) (len + m) c in
      let r = proof_below s ys (after b (go_right i)) (places ++ run_of len n) (len + n) c' in
      omega (
        arith,
        few_symbols c (after b (go_left i)) (places ++ run_of len m) (len + m),
        few_symbols c' (after b (go_right i)) (places ++ run_of len n) (len + n),
        length-append (skolems c) (skolems c'),
        length-append (preorder l) (preorder r ++ []),
        length-append (preorder r) [],
      )

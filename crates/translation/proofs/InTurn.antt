-- The translation in preorder, one step after the other, as a loop over a segment's steps writes it.
use Rattle.std.proofs.Common.{◌≡◌, ℕ, suc, ◌+◌, ◌<◌, ◌≤◌, max, true, false, leb, if◌then◌else◌, List, [], ◌∷◌, ◌++◌, length, map, reverse, slice_get, refl, ap, arith, append-nil, ◌⊎◌, inl, inr}
use Rattle.std.proofs.lemmas.Bool.Decides.{leb_tells}
use Rattle.fol_core.specs.Symbol.{Symbol}
use Rattle.gs3_rules.specs.Rules as gs3
use Rattle.gs3_rules.specs.Rules.{Rule}
use Rattle.gs3_rules.specs.Refutes.{preorder}
use Rattle.rewrite_expand.specs.Expansion.{expansion}
use Rattle.rewrite_expand.specs.Expansion.{whole}
use Rattle.rewrite_expand.proofs.InPreorder.{in_preorder}
use Rattle.free_terms.specs.Free.{Name, metavar}
use Rattle.unify.specs.Offers.{Offer}
use Rattle.rewrite_rules.specs.Rewriting.{Rewriting}
use Rattle.branch_rules.specs.Branch.{Branch, Done, expand, rewrite, skolemize, instantiate, go_left, go_right, entries, after}
use Rattle.tab_tree.specs.Items.{Item, newest}
use Rattle.translation.specs.StepTree.{StepTree, closes, goes_on, forks, until}
use Rattle.translation.specs.Translation.{parameter_of, term_under, fill_under, place_in, is_positive_at, run_of, closing, growth, proof_below}
use Rattle.translation.specs.Measures.{nesting_of}
use Rattle.translation.specs.Counting.{lines_bytes}

module _ (s : Offer) (ys : List Name) where
  -- the steps of the translation below a branch
  abbrev pub steps_below : Branch → List ℕ → ℕ → StepTree → List Rule
  steps_below b places len c = preorder (proof_below s ys b places len c)

  pub closes_in_turn : (b : Branch) (places : List ℕ) (len : ℕ) (item : Item) → steps_below b places len (closes item) ≡ closing places item ∷ []
  closes_in_turn b places len item = refl

  pub expand_in_turn : (b : Branch) (places : List ℕ) (len i : ℕ) (c : StepTree)
      → steps_below b places len (goes_on (expand i) c)
      ≡ gs3.alpha (place_in places i) ∷ steps_below (after b (expand i)) (places ++ run_of len (growth b (expand i))) (len + growth b (expand i)) c
  expand_in_turn b places len i c = ap (λ rest. gs3.alpha (place_in places i) ∷ rest) (append-nil _)

  pub skolemize_in_turn : (b : Branch) (places : List ℕ) (len i : ℕ) (x : Name) (c : StepTree)
      → steps_below b places len (goes_on (skolemize i x) c)
      ≡ gs3.delta (place_in places i) (parameter_of 0 ys x) ∷ steps_below (after b (skolemize i x)) (places ++ len ∷ []) (suc len) c
  skolemize_in_turn b places len i x c = ap (λ rest. gs3.delta (place_in places i) (parameter_of 0 ys x) ∷ rest) (append-nil _)

  pub instantiate_in_turn : (b : Branch) (places : List ℕ) (len i : ℕ) (x : Name) (c : StepTree)
      → steps_below b places len (goes_on (instantiate i x) c)
      ≡ gs3.gamma (place_in places i) (term_under s ys (metavar x)) ∷ steps_below (after b (instantiate i x)) (places ++ len ∷ []) (suc len) c
  instantiate_in_turn b places len i x c = ap (λ rest. gs3.gamma (place_in places i) (term_under s ys (metavar x)) ∷ rest) (append-nil _)

  pub rewrite_in_turn : (b : Branch) (places : List ℕ) (len i : ℕ) (r : Rewriting) (c : StepTree)
      → steps_below b places len (goes_on (rewrite i r) c)
      ≡ (let us = reverse (map (fill_under s ys) r.fills) in
      let x = expansion len (place_in places r.axiom_place) (place_in places i) (is_positive_at (slice_get (entries b) i)) r.head_left us in
      whole x (steps_below (after b (rewrite i r)) (places ++ x.result ∷ []) (2 + (len + length us)) c))
  rewrite_in_turn b places len i r c =
      let us = reverse (map (fill_under s ys) r.fills) in
      in_preorder len (place_in places r.axiom_place) (place_in places i) (is_positive_at (slice_get (entries b) i)) r.head_left us
      (λ body_at. proof_below s ys (after b (rewrite i r)) (places ++ body_at ∷ []) (2 + (len + length us)) c)

  pub forks_in_turn : (b : Branch) (places : List ℕ) (len i : ℕ) (c c' : StepTree)
      → steps_below b places len (forks i c c')
      ≡ gs3.beta (place_in places i)
      ∷ (steps_below (after b (go_left i)) (places ++ run_of len (growth b (go_left i))) (len + growth b (go_left i)) c
      ++ steps_below (after b (go_right i)) (places ++ run_of len (growth b (go_right i))) (len + growth b (go_right i)) c')
  forks_in_turn b places len i c c' =
      ap (λ rest. gs3.beta (place_in places i) ∷ (steps_below (after b (go_left i)) (places ++ run_of len (growth b (go_left i))) (len + growth b (go_left i)) c ++ rest))
      (append-nil _)

-- Where the item is there, the segment closes, and else its next step is done.
pub until_there : (item : Item) (b : Branch) (ds : List Done) → newest item < length (entries b) → until item b ds ≡ closes item
until_there item b [] lt = refl
until_there item b (d ∷ ds) lt = by_test (leb_tells (suc (newest item)) (length (entries b))) where
  by_test : ((leb (suc (newest item)) (length (entries b)) ≡ true) × (suc (newest item) ≤ length (entries b)))
      ⊎ ((leb (suc (newest item)) (length (entries b)) ≡ false) × (length (entries b) < suc (newest item))) → until item b (d ∷ ds) ≡ closes item
  by_test (inl p) = ap (λ q. if q then closes item else goes_on d (until item (after b d) ds)) p.0
  by_test (inr p) = let no_order : ⊥ = omega (arith, p.1, lt) in absurd no_order

pub until_later : (item : Item) (b : Branch) (d : Done) (ds : List Done) → length (entries b) ≤ newest item → until item b (d ∷ ds) ≡ goes_on d (until item (after b d) ds)
until_later item b d ds le = by_test (leb_tells (suc (newest item)) (length (entries b))) where
  by_test : ((leb (suc (newest item)) (length (entries b)) ≡ true) × (suc (newest item) ≤ length (entries b)))
      ⊎ ((leb (suc (newest item)) (length (entries b)) ≡ false) × (length (entries b) < suc (newest item))) → until item b (d ∷ ds) ≡ goes_on d (until item (after b d) ds)
  by_test (inl p) = let no_order : ⊥ = omega (arith, p.1, le) in absurd no_order
  by_test (inr p) = ap (λ q. if q then closes item else goes_on d (until item (after b d) ds)) p.0

-- bytes and nesting of two parts
pub bytes_of_both : (fs : List Symbol) (xs ys : List Rule) → lines_bytes fs (xs ++ ys) ≡ lines_bytes fs xs + lines_bytes fs ys
bytes_of_both fs [] ys = omega arith
bytes_of_both fs (x ∷ xs) ys = omega (arith, bytes_of_both fs xs ys)

pub nesting_of_both : (xs ys : List Rule) → nesting_of (xs ++ ys) ≡ max (nesting_of xs) (nesting_of ys)
nesting_of_both [] ys = omega arith
nesting_of_both (x ∷ xs) ys = omega (arith, nesting_of_both xs ys)

-- The names of a round's segments are small.
use Rattle.std.proofs.Common.{◌≡◌, ℕ, suc, ◌*◌, ◌+◌, ◌<◌, ◌≤◌, ◌^◌, Bool, true, false, List, [], ◌∷◌, ◌++◌, count_by, if◌then◌else◌, Option, Some, None, refl, ap, sym, ◌∙◌, subst, arith, inl, inr, length}
use Rattle.std.proofs.lemmas.Bool.{false≢true}
use Rattle.std.specs.List.{fold}
use Rattle.std.proofs.Math.Nat.{pow-suc}
use Rattle.std.proofs.Math.Pow.{pow_mono}
use Rattle.branch_rules.specs.Branch.{Branch, Done, Entry, go_left, go_right, is_split, after, entries, splits_done}
use Rattle.branch_rules.specs.Next.{Class, conjunctive, existential, disjunctive, universal, most_splits, Waits, Serves, ComesNext}
use Rattle.tab_tree.specs.RoundValue.{RoundValue, root_of}
use Rattle.tab_tree.proofs.Exists.{tableau_below}
use Rattle.tab_tree.specs.Tableau.{Tableau, leaf, step, split, IsTableau}
use Rattle.tab_tree.specs.Segments.{Segments, segments}
use Rattle.round_offers.specs.Places.{segments_at, has_parts}
use Rattle.round_offers.specs.RoundTableau.{tableau_of, segments_of}
use Rattle.round_offers.proofs.Everywhere.{Everywhere, of_named}

fold_last : {A B : Type 0} (f : B → A → B) (z : B) (xs : List A) (x : A) → fold f z (xs ++ x ∷ []) ≡ f (fold f z xs) x
fold_last f z [] x = refl
fold_last f z (y ∷ ys) x = fold_last f (f z y) ys x

abbrev as_number : Bool → ℕ
as_number q = if q then 1 else 0

count_last : (ds : List Done) (d : Done) → count_by is_split (ds ++ d ∷ []) ≡ count_by is_split ds + as_number (is_split d)
count_last ds d = fold_last (λ a x. a + (if is_split x then 1 else 0)) 0 ds d

as_many : (b : Branch) (d : Done) → is_split d ≡ false → splits_done (after b d) ≡ splits_done b
as_many b d e = let nothing : as_number (is_split d) ≡ 0 = ap as_number e in omega (arith, count_last b.steps d, nothing)

one_more : (b : Branch) (d : Done) → is_split d ≡ true → splits_done (after b d) ≡ suc (splits_done b)
one_more b d e = let one : as_number (is_split d) ≡ 1 = ap as_number e in omega (arith, count_last b.steps d, one)

doubled : (n k : ℕ) → n < 2 ^ k → 2 * n + 1 < 2 ^ suc k
doubled n k lt = omega (arith, lt, pow-suc 2 k)

only_disjunctive : (b : Branch) (c : Class) (i j : ℕ) (e : Entry) → Serves b c j e.formula (go_left i) → c ≡ disjunctive
only_disjunctive b conjunctive i j e (inl x) = absurd (false≢true (sym (ap is_split x.1)))
only_disjunctive b conjunctive i j e (inr x) = absurd (false≢true (sym (ap is_split x.2)))
only_disjunctive b existential i j e x = absurd (false≢true (sym (ap is_split x)))
only_disjunctive b disjunctive i j e x = refl
only_disjunctive b universal i j e x = absurd (false≢true (sym (ap is_split x)))

few_splits : (d : ℕ) (b : Branch) (i : ℕ) → ComesNext b d (go_left i) → splits_done b < most_splits
few_splits d b i x = (subst (λ c. Waits b d c i x.served.pending.0) (only_disjunctive b x.class i i x.entry x.serves) x.served.pending.3).2

abbrev IsSmall : ℕ → Segments → Type 0
IsSmall n gs = has_parts (Some gs) ≡ true → n < 2 ^ 120

small_node : (n k : ℕ) → n < 2 ^ suc k → k < 120 → n < 2 ^ 120
small_node n k lt few = let most : 2 ^ suc k ≤ 2 ^ 120 = pow_mono few in omega (arith, lt, most)

small : (d n from : ℕ) (ds : List Done) (b : Branch) (t : Tableau) → IsTableau d b t → n < 2 ^ suc (splits_done b) → Everywhere IsSmall n (segments n from ds b t)
small d n from ds b leaf is lt = λ e. absurd (false≢true e)
small d n from ds b (step s t) is lt =
    small d n from (ds ++ s ∷ []) (after b s) t is.2 (subst (λ k. n < 2 ^ suc k) (sym (as_many b s is.0)) lt)
small d n from ds b (split i l r) is lt = (
  λ e. small_node n (splits_done b) lt (few_splits d b i is.0),
  small d (2 * n) (length (entries b)) [] (after b (go_left i)) l is.1
      (subst (λ k. 2 * n < 2 ^ suc k) (sym (one_more b (go_left i) refl)) (omega (arith, doubled n (suc (splits_done b)) lt))),
  small d (2 * n + 1) (length (entries b)) [] (after b (go_right i)) r is.2
      (subst (λ k. 2 * n + 1 < 2 ^ suc k) (sym (one_more b (go_right i) refl)) (doubled n (suc (splits_done b)) lt)),
)

all_small : (r : RoundValue) → Everywhere IsSmall 1 (segments_of r)
unfolding segments_of
all_small r = small r.depth 1 0 [] (root_of r) (tableau_of r) (tableau_below r.depth (root_of r)).1 (omega arith)

fits : (n : ℕ) → n < 2 ^ 120 → 2 * n + 1 < 2 ^ 128
fits n lt = omega (arith, lt)

parted_is_some : (o : Option Segments) → has_parts o ≡ true → (gs : Segments) × (o ≡ Some gs)
parted_is_some None e = absurd (false≢true e)
parted_is_some (Some gs) e = (gs, refl)

-- A segment that splits has room for the names of its parts.
pub names_fit : (r : RoundValue) (n : ℕ) → has_parts (segments_at (segments_of r) n) ≡ true → 2 * n + 1 < 2 ^ 128
names_fit r n e =
    let found = parted_is_some (segments_at (segments_of r) n) e in
    fits n (of_named IsSmall (segments_of r) (all_small r) n found.0 found.1 (sym (ap has_parts found.1) ∙ e))

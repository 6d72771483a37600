-- A segment that splits has room for the names of its parts.
use Rattle.std.proofs.Common.{◌≡◌, ℕ, suc, ◌*◌, ◌+◌, ◌<◌, ◌≤◌, ◌^◌, Bool, true, false, List, [], ◌∷◌, ◌++◌, count_by, if◌then◌else◌, Option, Some, None, refl, ap, sym, ◌∙◌, subst, arith, inl, inr, length}
use Rattle.std.proofs.lemmas.Bool.{false≢true}
use Rattle.std.specs.List.{fold}
use Rattle.std.proofs.Math.Nat.{pow-suc}
use Rattle.std.proofs.Math.Pow.{pow_mono}
use Rattle.branch_rules.specs.Branch.{Branch, Done, Entry, go_left, go_right, is_split, after, entries, splits_done}
use Rattle.branch_rules.specs.Next.{Class, conjunctive, existential, disjunctive, universal, most_splits, Waits, Serves, ComesNext}
use Rattle.tab_tree.specs.Tableau.{Tableau, leaf, step, split, IsTableau}
use Rattle.tab_tree.specs.Segments.{Segment, Segments, tip, node, segments, all_segments, top, IsAmong, itself, on_left, on_right}
use Rattle.tab_tree.specs.SiteValue.{IsSegment}
use Rattle.tab_tree.proofs.Running.{parts_of, among_is}

fold_last : {A B : Type 0} (f : B → A → B) (z : B) (xs : List A) (x : A) → fold f z (xs ++ x ∷ []) ≡ f (fold f z xs) x
fold_last f z [] x = refl
fold_last f z (y ∷ ys) x = fold_last f (f z y) ys x

abbrev as_number : Bool → ℕ
as_number q = if q then 1 else 0

count_last : (ds : List Done) (d : Done) → count_by is_split (ds ++ d ∷ []) ≡ count_by is_split ds + as_number (is_split d)
count_last ds d = fold_last (λ a x. a + (if is_split x then 1 else 0)) 0 ds d

as_many : (b : Branch) (d : Done) → is_split d ≡ false → splits_done (after b d) ≡ splits_done b
as_many b d e = let nothing : as_number (is_split d) ≡ 0 = ap as_number e in omega (arith, count_last b.steps d, nothing)

one_more : (b : Branch) (d : Done) → is_split d ≡ true → splits_done (after b d) ≡ suc (splits_done b)
one_more b d e = let one : as_number (is_split d) ≡ 1 = ap as_number e in omega (arith, count_last b.steps d, one)

doubled : (n k : ℕ) → n < 2 ^ k → 2 * n + 1 < 2 ^ suc k
doubled n k lt = omega (arith, lt, pow-suc 2 k)

only_disjunctive : (b : Branch) (c : Class) (i j : ℕ) (e : Entry) → Serves b c j e.formula (go_left i) → c ≡ disjunctive
only_disjunctive b conjunctive i j e (inl x) = absurd (false≢true (sym (ap is_split x.1)))
only_disjunctive b conjunctive i j e (inr x) = absurd (false≢true (sym (ap is_split x.2)))
only_disjunctive b existential i j e x = absurd (false≢true (sym (ap is_split x)))
only_disjunctive b disjunctive i j e x = refl
only_disjunctive b universal i j e x = absurd (false≢true (sym (ap is_split x)))

few_splits : (d : ℕ) (b : Branch) (i : ℕ) → ComesNext b d (go_left i) → splits_done b < most_splits
few_splits d b i x = (subst (λ c. Waits b d c i x.served.pending.0) (only_disjunctive b x.class i i x.entry x.serves) x.served.pending.3).2

-- the names of segments that split
abbrev AreSmall : Segments → Type 0
AreSmall (tip g) = Unit {0}
AreSmall (node g l r) = (g.name < 2 ^ 120) × AreSmall l × AreSmall r

small_node : (n k : ℕ) → n < 2 ^ suc k → k < 120 → n < 2 ^ 120
small_node n k lt few = let most : 2 ^ suc k ≤ 2 ^ 120 = pow_mono few in omega (arith, lt, most)

small : (d n from : ℕ) (ds : List Done) (b : Branch) (t : Tableau) → IsTableau d b t → n < 2 ^ suc (splits_done b) → AreSmall (segments n from ds b t)
small d n from ds b leaf is lt = tt
small d n from ds b (step s t) is lt =
    small d n from (ds ++ s ∷ []) (after b s) t is.2 (subst (λ k. n < 2 ^ suc k) (sym (as_many b s is.0)) lt)
small d n from ds b (split i l r) is lt = (
  small_node n (splits_done b) lt (few_splits d b i is.0),
  small d (2 * n) (length (entries b)) [] (after b (go_left i)) l is.1
      (subst (λ k. 2 * n < 2 ^ suc k) (sym (one_more b (go_left i) refl)) (omega (arith, doubled n (suc (splits_done b)) lt))),
  small d (2 * n + 1) (length (entries b)) [] (after b (go_right i)) r is.2
      (subst (λ k. 2 * n + 1 < 2 ^ suc k) (sym (one_more b (go_right i) refl)) (doubled n (suc (splits_done b)) lt)),
)

small_among : (below gs : Segments) → IsAmong below gs → AreSmall gs → AreSmall below
small_among below gs itself are = are
small_among below (node g l r) (on_left a) are = small_among below l a are.1
small_among below (node g l r) (on_right a) are = small_among below r a are.2

-- The name of a segment that splits, in a tableau whose root has no split, leaves room for the names of its parts.
pub names_fit : (d : ℕ) (root : Branch) (g : Segment) (i : ℕ) → splits_done root ≡ 0 → IsSegment d root g → g.splits_at ≡ Some i
    → 2 * g.name + 1 < 2 ^ 128
names_fit d root g i none is at =
    let of = among_is d root is.tableau is.below is.whole is.among in
    let first : top (segments of.name of.from [] of.branch of.tableau) ≡ g = ap top (sym of.same) ∙ is.first in
    let parts = parts_of d of.name of.from [] of.branch of.tableau g i of.whole first at in
    let all : AreSmall (all_segments root is.tableau) = small d 1 0 [] root is.tableau is.whole (subst (λ k. 1 < 2 ^ suc k) (sym none) (omega arith)) in
    let here : AreSmall is.below = small_among is.below (all_segments root is.tableau) is.among all in
    let split : AreSmall (node g _ _) = subst AreSmall (of.same ∙ parts.same) here in
    let lt = split.0 in
    omega (arith, lt)

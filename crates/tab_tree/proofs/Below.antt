-- The segments of a tableau from one of them on are known by the first of them.
use Rattle.std.proofs.Common.{◌≡◌, ℕ, ◌+◌, ◌*◌, List, [], ◌∷◌, ◌++◌, length, Option, Some, None, refl, ap, sym, ◌∙◌, subst}
use Rattle.branch_rules.specs.Branch.{Branch, Done, entries, after, go_left, go_right}
use Rattle.tab_tree.specs.Tableau.{Tableau, leaf, step, split}
use Rattle.tab_tree.specs.Segments.{Segments, tip, node, segments, top}
use Rattle.tab_tree.proofs.Exists.{one_tableau}
use Rattle.tab_tree.proofs.Running.{IsOf, Parts, parts_of}

some_is_none : {A : Type 0} (x : A) → Some x ≡ None → ⊥
some_is_none x e = cc

name_of_top : (name from : ℕ) (ds : List Done) (b : Branch) (t : Tableau) → (top (segments name from ds b t)).name ≡ name
name_of_top name from ds b leaf = refl
name_of_top name from ds b (step s t) = name_of_top name from (ds ++ s ∷ []) (after b s) t
name_of_top name from ds b (split i l r) = refl

tip_at : (name from : ℕ) (ds : List Done) (b : Branch) (t : Tableau) → (top (segments name from ds b t)).splits_at ≡ None
    → segments name from ds b t ≡ tip (top (segments name from ds b t))
tip_at name from ds b leaf e = refl
tip_at name from ds b (step s t) e = tip_at name from (ds ++ s ∷ []) (after b s) t e
tip_at name from ds b (split i l r) e = absurd (some_is_none i e)

pub tip_of : (d : ℕ) (gs : Segments) → IsOf d gs → (top gs).splits_at ≡ None → gs ≡ tip (top gs)
tip_of d gs h e =
    subst (λ z. z ≡ tip (top z)) (sym h.same) (tip_at h.name h.from [] h.branch h.tableau (subst (λ z. (top z).splits_at ≡ None) h.same e))

-- segments of a tableau whose first one is the same are the same
pub same_below : (d : ℕ) (gs hs : Segments) → IsOf d gs → IsOf d hs → top gs ≡ top hs → gs ≡ hs
same_below d gs hs h k e = by_place (top hs).splits_at refl where
  named : (xs : Segments) (x : IsOf d xs) → x.name ≡ (top xs).name
  named xs x = sym (name_of_top x.name x.from [] x.branch x.tableau) ∙ ap (λ z. (top z).name) (sym x.same)

  parts : (xs : Segments) (x : IsOf d xs) (i : ℕ) → top xs ≡ top hs → (top hs).splits_at ≡ Some i → Parts d x.name xs (top hs) i
  parts xs x i at p =
      subst (λ z. Parts d x.name z (top hs) i) (sym x.same) (parts_of d x.name x.from [] x.branch x.tableau (top hs) i x.whole (ap top (sym x.same) ∙ at) p)

  by_place : (o : Option ℕ) → (top hs).splits_at ≡ o → gs ≡ hs
  by_place None p = tip_of d gs h (ap (λ g. g.splits_at) e ∙ p) ∙ ap tip e ∙ sym (tip_of d hs k p)
  by_place (Some i) p =
      let x = parts gs h i e p in
      let y = parts hs k i refl p in
      let one : h.name ≡ k.name = named gs h ∙ ap (λ g. g.name) e ∙ sym (named hs k) in
      let left : x.left ≡ y.left = one_tableau d (after (top hs).branch (go_left i)) x.left y.left x.left_whole y.left_whole in
      let right : x.right ≡ y.right = one_tableau d (after (top hs).branch (go_right i)) x.right y.right x.right_whole y.right_whole in
      x.same
      ∙ ap (λ n. node (top hs) (segments (2 * n) (length (entries (top hs).branch)) [] (after (top hs).branch (go_left i)) x.left)
      (segments (2 * n + 1) (length (entries (top hs).branch)) [] (after (top hs).branch (go_right i)) x.right)) one
      ∙ ap (λ t. node (top hs) (segments (2 * k.name) (length (entries (top hs).branch)) [] (after (top hs).branch (go_left i)) t)
      (segments (2 * k.name + 1) (length (entries (top hs).branch)) [] (after (top hs).branch (go_right i)) x.right)) left
      ∙ ap (λ t. node (top hs) (segments (2 * k.name) (length (entries (top hs).branch)) [] (after (top hs).branch (go_left i)) y.left)
      (segments (2 * k.name + 1) (length (entries (top hs).branch)) [] (after (top hs).branch (go_right i)) t)) right
      ∙ sym y.same

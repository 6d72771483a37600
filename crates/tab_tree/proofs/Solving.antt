-- An offer solves the segments of a tableau exactly where it closes each path.
use Rattle.std.proofs.Common.{◌≡◌, ℕ, ◌+◌, ◌*◌, ◌≤◌, List, [], ◌∷◌, ◌++◌, length, take, Option, Some, None, refl, ap, sym, ◌∙◌, subst, arith, ◌⊎◌, inl, inr, length-append}
use Rattle.std.specs.Prelude.{◌↔◌, slice_get}
use Rattle.std.proofs.lemmas.List.{take-append-le}
use Rattle.std.proofs.Math.Seq.{take-append_seam}
use Rattle.free_terms.specs.Free.{FreeFormula}
use Rattle.rewrite_rules.specs.Rules.{RewriteRule}
use Rattle.unify.specs.Offers.{Offer, IsOffer}
use Rattle.branch_rules.specs.Branch.{Branch, Done, Entry, go_left, go_right, entries, after, root}
use Rattle.branch_rules.proofs.Grown.{appended, entries_grow}
use Rattle.tab_tree.specs.Tableau.{Tableau, leaf, step, split, IsTableau, Contradicts, opposite, absurd_true, absurd_false, AllClosed, Closes}
use Rattle.tab_tree.specs.Items.{items_of, ClosesSome}
use Rattle.tab_tree.specs.Segments.{Segment, Segments, tip, node, items, segments, all_segments, Solves}
use Rattle.tab_tree.proofs.Exists.{one_tableau, tableau_below}
use Rattle.tab_tree.proofs.Contradictions.{contradicts_more, own_contradicts, own_closes}

contradicts_after : (s : Offer) (b : Branch) (d : Done) → Contradicts s (entries b) → Contradicts s (entries (after b d))
contradicts_after s b d h = subst (Contradicts s) (sym (entries_grow b d)) (contradicts_more s (entries b) (appended b d) h)

-- all paths below a contradictory branch are contradictory
pub closed_below : (s : Offer) (b : Branch) (t : Tableau) → Contradicts s (entries b) → AllClosed s b t
closed_below s b leaf h = h
closed_below s b (step d t) h = closed_below s (after b d) t (contradicts_after s b d h)
closed_below s b (split i l r) h =
    (closed_below s (after b (go_left i)) l (contradicts_after s b (go_left i) h), closed_below s (after b (go_right i)) r (contradicts_after s b (go_right i) h))

pub solved_is_closed : (s : Offer) (name from : ℕ) (ds : List Done) (b : Branch) (t : Tableau) → Solves s (segments name from ds b t) → AllClosed s b t
solved_is_closed s name from ds b leaf h = own_contradicts s from (entries b) h
solved_is_closed s name from ds b (step d t) h = solved_is_closed s name from (ds ++ d ∷ []) (after b d) t h
solved_is_closed s name from ds b (split i l r) (inl h) = closed_below s b (split i l r) (own_contradicts s from (entries b) h)
solved_is_closed s name from ds b (split i l r) (inr h) = (
  solved_is_closed s (2 * name) (length (entries b)) [] (after b (go_left i)) l h.0,
  solved_is_closed s (2 * name + 1) (length (entries b)) [] (after b (go_right i)) r h.1,
)

still_front : (b : Branch) (d : Done) (from : ℕ) → from ≤ length (entries b) → take from (entries (after b d)) ≡ take from (entries b)
still_front b d from le = ap (take from) (entries_grow b d) ∙ take-append-le from (entries b) (appended b d) le

front_before : (b : Branch) (d : Done) → take (length (entries b)) (entries (after b d)) ≡ entries b
front_before b d = ap (take (length (entries b))) (entries_grow b d) ∙ take-append_seam (entries b) (appended b d)

longer : (b : Branch) (d : Done) (from : ℕ) → from ≤ length (entries b) → from ≤ length (entries (after b d))
longer b d from le = omega (arith, le, ap length (entries_grow b d) ∙ length-append (entries b) (appended b d))

-- Where each path is contradictory, what stands before the first segment is, or the offer solves it: the newest
-- formula of a path's contradiction was appended in one segment of the path.
pub closed_is_solved : (s : Offer) (name from : ℕ) (ds : List Done) (b : Branch) (t : Tableau) → from ≤ length (entries b) → AllClosed s b t
    → Contradicts s (take from (entries b)) ⊎ Solves s (segments name from ds b t)
closed_is_solved s name from ds b leaf le h = own_closes s from (entries b) h
closed_is_solved s name from ds b (step d t) le h = back (closed_is_solved s name from (ds ++ d ∷ []) (after b d) t (longer b d from le) h) where
  back : Contradicts s (take from (entries (after b d))) ⊎ Solves s (segments name from (ds ++ d ∷ []) (after b d) t)
      → Contradicts s (take from (entries b)) ⊎ Solves s (segments name from ds b (step d t))
  back (inl x) = inl (subst (Contradicts s) (still_front b d from le) x)
  back (inr x) = inr x
closed_is_solved s name from ds b (split i l r) le h =
    by_sides
    (closed_is_solved s (2 * name) (length (entries b)) [] (after b (go_left i)) l (longer b (go_left i) (length (entries b)) (omega arith)) h.0)
    (closed_is_solved s (2 * name + 1) (length (entries b)) [] (after b (go_right i)) r (longer b (go_right i) (length (entries b)) (omega arith)) h.1)
  where
    here : Contradicts s (entries b) → Contradicts s (take from (entries b)) ⊎ Solves s (segments name from ds b (split i l r))
    here x = by_own (own_closes s from (entries b) x) where
      by_own : Contradicts s (take from (entries b)) ⊎ ClosesSome s (entries b) (items_of from (entries b)) → Contradicts s (take from (entries b)) ⊎ Solves s (segments name from ds b (split i l r))
      by_own (inl y) = inl y
      by_own (inr y) = inr (inl y)

    by_sides : Contradicts s (take (length (entries b)) (entries (after b (go_left i)))) ⊎ Solves s (segments (2 * name) (length (entries b)) [] (after b (go_left i)) l)
        → Contradicts s (take (length (entries b)) (entries (after b (go_right i)))) ⊎ Solves s (segments (2 * name + 1) (length (entries b)) [] (after b (go_right i)) r)
        → Contradicts s (take from (entries b)) ⊎ Solves s (segments name from ds b (split i l r))
    by_sides (inl x) y = here (subst (Contradicts s) (front_before b (go_left i)) x)
    by_sides (inr x) (inl y) = here (subst (Contradicts s) (front_before b (go_right i)) y)
    by_sides (inr x) (inr y) = inr (inr (x, y))

none_is_some : {A : Type 0} (a : A) → None ≡ Some a → ⊥
none_is_some a e = cc

nothing_contradicts : (s : Offer) → Contradicts s [] → ⊥
nothing_contradicts s (opposite i j p us vs m n a b e) = none_is_some _ a
nothing_contradicts s (absurd_true i n a) = none_is_some _ a
nothing_contradicts s (absurd_false i n a) = none_is_some _ a

-- An offer solves the first segment exactly where it closes each path from the root to a leaf.
pub solves_where_closed : (s : Offer) (b : Branch) (t : Tableau) → Solves s (all_segments b t) ↔ AllClosed s b t
solves_where_closed s b t = (solved_is_closed s 1 0 [] b t, λ h. at_root (closed_is_solved s 1 0 [] b t (omega arith) h)) where
  at_root : Contradicts s (take 0 (entries b)) ⊎ Solves s (all_segments b t) → Solves s (all_segments b t)
  at_root (inl x) = absurd (nothing_contradicts s x)
  at_root (inr x) = x

-- An offer closes the tableau of depth d exactly where it solves the first segment, whichever tree shows it.
pub closes_where_solved : (start : List FreeFormula) (rules : List RewriteRule) (d : ℕ) (s : Offer) (t : Tableau)
    → IsTableau d (root start rules) t → IsOffer s → Closes start rules d s ↔ Solves s (all_segments (root start rules) t)
closes_where_solved start rules d s t is offer = (
  λ c. (solves_where_closed s (root start rules) t).1 (subst (AllClosed s (root start rules)) (one_tableau d (root start rules) c.0 t c.1 is) c.3),
  λ h. (t, is, offer, (solves_where_closed s (root start rules) t).0 h),
)

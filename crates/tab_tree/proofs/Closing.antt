-- An offer that solves a segment has one closed tree of it, and one that does not has none.
use Rattle.std.proofs.Common.{◌≡◌, ℕ, List, [], ◌∷◌, Option, Some, None, slice_get, refl, ap, sym, ◌∙◌, subst, ◌⊎◌, inl, inr}
use Rattle.std.specs.Prelude.{◌↔◌}
use Rattle.fol_core.specs.Syntax.{FormulaOver, atom, not}
use Rattle.free_terms.specs.Free.{FreeTerms}
use Rattle.unify.specs.Offers.{Offer, EquatesAll, resolved_all}
use Rattle.rewrite_rules.proofs.Equal.{Decided, same_terms}
use Rattle.branch_rules.specs.Branch.{Entry, entries}
use Rattle.tab_tree.specs.Items.{Item, pair, false_at, not_true, ArgumentsEqual, ClosesItem, ClosesSome, ClosesNone, IsFirstClosed, items_of}
use Rattle.tab_tree.specs.Segments.{Segment, Segments, tip, node, items, Solves}
use Rattle.tab_tree.specs.ClosedTree.{ClosedTree, closed, forked, FirstClosed, NoneClosed, IsClosedTree}
use Rattle.tab_tree.proofs.ItemArguments.{pair_closes}
use Rattle.tab_tree.proofs.Contradictions.{AreItemsOf, items_are}
use Rattle.tab_tree.specs.Arguments.{IsItemOf}

pub closes_decided : (s : Offer) (es : List Entry) (item : Item) → IsItemOf es item → Decided (ClosesItem s es item)
closes_decided s es (false_at i) is = inl tt
closes_decided s es (not_true i) is = inl tt
closes_decided s es (pair i j) is = by_terms (same_terms (resolved_all s is.1) (resolved_all s is.2)) where
  closes : EquatesAll s is.1 is.2 ↔ ClosesItem s es (pair i j)
  closes = pair_closes s es i j is.0 is.1 is.2 is.3 is.4

  by_terms : Decided (EquatesAll s is.1 is.2) → Decided (ClosesItem s es (pair i j))
  by_terms (inl e) = inl (closes.0 e)
  by_terms (inr n) = inr (λ h. n (closes.1 h))

first_or_none : (s : Offer) (es : List Entry) (is : List Item) → AreItemsOf es is → ((i : Item) × IsFirstClosed s es is i) ⊎ ClosesNone s es is
first_or_none s es [] are = inr tt
first_or_none s es (i ∷ is) are = by_first (closes_decided s es i are.0) (first_or_none s es is are.1) where
  by_first : Decided (ClosesItem s es i) → ((j : Item) × IsFirstClosed s es is j) ⊎ ClosesNone s es is → ((j : Item) × IsFirstClosed s es (i ∷ is) j) ⊎ ClosesNone s es (i ∷ is)
  by_first (inl h) rest = inl (i, inl (h, refl))
  by_first (inr n) (inl f) = inl (f.0, inr (n, f.1))
  by_first (inr n) (inr none) = inr (n, none)

first_closes : (s : Offer) (es : List Entry) (is : List Item) (i : Item) → IsFirstClosed s es is i → ClosesSome s es is
first_closes s es [] i h = absurd h
first_closes s es (j ∷ is) i (inl h) = inl h.0
first_closes s es (j ∷ is) i (inr h) = inr (first_closes s es is i h.1)

pub none_closes : (s : Offer) (es : List Entry) (is : List Item) → ClosesNone s es is → ClosesSome s es is → ⊥
none_closes s es [] none h = h
none_closes s es (i ∷ is) none (inl h) = none.0 h
none_closes s es (i ∷ is) none (inr h) = none_closes s es is none.1 h

one_first : (s : Offer) (es : List Entry) (is : List Item) (i j : Item) → IsFirstClosed s es is i → IsFirstClosed s es is j → i ≡ j
one_first s es [] i j x y = absurd x
one_first s es (k ∷ is) i j (inl x) (inl y) = x.1 ∙ sym y.1
one_first s es (k ∷ is) i j (inl x) (inr y) = absurd (y.0 x.0)
one_first s es (k ∷ is) i j (inr x) (inl y) = absurd (x.0 y.0)
one_first s es (k ∷ is) i j (inr x) (inr y) = one_first s es is i j x.1 y.1

pub closed_tree_solves : (s : Offer) (gs : Segments) (c : ClosedTree) → IsClosedTree s gs c → Solves s gs
closed_tree_solves s (tip g) (closed h i) x = first_closes s (entries g.branch) (items g) i x.1
closed_tree_solves s (tip g) (forked h c e) x = absurd x
closed_tree_solves s (node g l r) (closed h i) x = inl (first_closes s (entries g.branch) (items g) i x.1)
closed_tree_solves s (node g l r) (forked h c e) x = inr (closed_tree_solves s l c x.2, closed_tree_solves s r e x.3)

abbrev HasTree : Offer → Segments → Type 0
HasTree s gs = (c : ClosedTree) × IsClosedTree s gs c

pub solved_has_tree : (s : Offer) (gs : Segments) → Solves s gs → HasTree s gs
solved_has_tree s (tip g) h = by_first (first_or_none s (entries g.branch) (items g) (items_are g.from (entries g.branch))) where
  by_first : ((i : Item) × FirstClosed s g i) ⊎ NoneClosed s g → HasTree s (tip g)
  by_first (inl f) = (closed g f.0, (refl, f.1))
  by_first (inr none) = absurd (none_closes s (entries g.branch) (items g) none h)
solved_has_tree s (node g l r) (inl h) = by_first (first_or_none s (entries g.branch) (items g) (items_are g.from (entries g.branch))) where
  by_first : ((i : Item) × FirstClosed s g i) ⊎ NoneClosed s g → HasTree s (node g l r)
  by_first (inl f) = (closed g f.0, (refl, f.1))
  by_first (inr none) = absurd (none_closes s (entries g.branch) (items g) none h)
solved_has_tree s (node g l r) (inr h) =
    by_first (first_or_none s (entries g.branch) (items g) (items_are g.from (entries g.branch))) (solved_has_tree s l h.0) (solved_has_tree s r h.1)
  where
    by_first : ((i : Item) × FirstClosed s g i) ⊎ NoneClosed s g → HasTree s l → HasTree s r → HasTree s (node g l r)
    by_first (inl f) c e = (closed g f.0, (refl, f.1))
    by_first (inr none) c e = (forked g c.0 e.0, (refl, none, c.1, e.1))

-- An offer solves a segment exactly where it has a closed tree of it.
pub tree_where_solved : (s : Offer) (gs : Segments) → HasTree s gs ↔ Solves s gs
tree_where_solved s gs = (λ c. closed_tree_solves s gs c.0 c.1, solved_has_tree s gs)

pub one_closed_tree : (s : Offer) (gs : Segments) (c e : ClosedTree) → IsClosedTree s gs c → IsClosedTree s gs e → c ≡ e
one_closed_tree s (tip g) (closed h i) (closed k j) x y =
    let item : i ≡ j = one_first s (entries g.branch) (items g) i j x.1 y.1 in
    let at : h ≡ k = x.0 ∙ sym y.0 in
    λ n. closed (at n) (item n)
one_closed_tree s (tip g) (closed h i) (forked k e f) x y = absurd y
one_closed_tree s (tip g) (forked h c d) e x y = absurd x
one_closed_tree s (node g l r) (closed h i) (closed k j) x y =
    let item : i ≡ j = one_first s (entries g.branch) (items g) i j x.1 y.1 in
    let at : h ≡ k = x.0 ∙ sym y.0 in
    λ n. closed (at n) (item n)
one_closed_tree s (node g l r) (closed h i) (forked k e f) x y = absurd (none_closes s (entries g.branch) (items g) y.1 (first_closes s (entries g.branch) (items g) i x.1))
one_closed_tree s (node g l r) (forked h c d) (closed k j) x y = absurd (none_closes s (entries g.branch) (items g) x.1 (first_closes s (entries g.branch) (items g) j y.1))
one_closed_tree s (node g l r) (forked h c d) (forked k e f) x y =
    let at : h ≡ k = x.0 ∙ sym y.0 in
    let left : c ≡ e = one_closed_tree s l c e x.2 y.2 in
    let right : d ≡ f = one_closed_tree s r d f x.3 y.3 in
    λ n. forked (at n) (left n) (right n)

-- How the closed tree of an offer is found, from the segments' items and parts.
use Rattle.std.proofs.Common.{◌≡◌, ℕ, zero, suc, ◌+◌, ◌<◌, ◌≤◌, List, [], ◌∷◌, length, take, Option, Some, None, slice_get, refl, ap, sym, ◌∙◌, subst, arith, ◌⊎◌, inl, inr}
use Rattle.std.proofs.Math.Seq.{take-length}
use Rattle.unify.specs.Offers.{Offer}
use Rattle.branch_rules.specs.Branch.{Entry, entries}
use Rattle.tab_tree.specs.Tableau.{IsTableau}
use Rattle.tab_tree.specs.Items.{Item, ClosesItem, ClosesSome, ClosesNone, IsFirstClosed}
use Rattle.tab_tree.specs.Segments.{Segment, Segments, tip, node, items, all_segments, top, Solves, IsAmong, itself, on_left, on_right}
use Rattle.tab_tree.specs.ClosedTree.{IsClosedTree, FirstClosed, NoneClosed}
use Rattle.tab_tree.specs.RoundValue.{RoundValue, root_of}
use Rattle.tab_tree.specs.SiteValue.{SiteValue, segment_of, IsOfRound, IsRoot, AreParts}
use Rattle.tab_tree.specs.ClosingView.{ClosesAt, closed_tree_of, item_or_first}
use Rattle.closing_tree.specs.Answer.{AreFrom, IsAnswer, IsAnswerFrom, is_tree, unsolved, FirstAt, NoneBefore}
use Rattle.closing_tree.specs.Answer.{AreBoth, are_trees, left_unsolved, right_unsolved, AreBelow, no_parts, of_parts}
use Rattle.tab_tree.specs.ClosedTree as spec
use Rattle.std.specs.Prelude.{option_map}
use Rattle.tab_tree.specs.declared.closed.ClosedTree.{ClosedTree}
use Rattle.tab_tree.proofs.Exists.{one_tableau}
use Rattle.tab_tree.proofs.Running.{among_is, among_through}
use Rattle.tab_tree.proofs.Closing.{none_closes}
use Rattle.tab_tree.proofs.Below.{tip_of, same_below}

some_once : {A : Type 0} (a b : A) → Some a ≡ Some b → a ≡ b
some_once a b e = cc

-- the first items with one more
none_more : (s : Offer) (es : List Entry) (is : List Item) (n : ℕ) → ClosesNone s es (take n is)
    → ((item : Item) → slice_get is n ≡ Some item → ClosesItem s es item → ⊥) → ClosesNone s es (take (suc n) is)
none_more s es [] n before not = tt
none_more s es (i ∷ is) zero before not = (not i refl, tt)
none_more s es (i ∷ is) (suc n) before not = (before.0, none_more s es is n before.1 not)

first_here : (s : Offer) (es : List Entry) (is : List Item) (n : ℕ) (item : Item) → ClosesNone s es (take n is) → slice_get is n ≡ Some item
    → ClosesItem s es item → IsFirstClosed s es is item
first_here s es [] n item before at closes = let no : ⊥ = cc at in absurd no
first_here s es (i ∷ is) zero item before at closes =
    let same : i ≡ item = some_once i item at in
    inl (subst (ClosesItem s es) (sym same) closes, sym same)
first_here s es (i ∷ is) (suc n) item before at closes = inr (before.0, first_here s es is n item before.1 at closes)

pub next_none : (s : Offer) (g : Segment) (n : ℕ) → NoneBefore s g n → (ClosesAt s g n → ⊥) → NoneBefore s g (n + 1)
next_none s g n before not =
    subst (NoneBefore s g) (let e : suc n ≡ n + 1 = omega arith in e)
    (none_more s (entries g.branch) (items g) n before (λ item at h. not (item, at, h)))

pub first_found : (s : Offer) (g : Segment) (n : ℕ) → NoneBefore s g n → ClosesAt s g n → FirstAt s g n
first_found s g n before at =
    (at.0, at.1, first_here s (entries g.branch) (items g) n at.0 before at.1 at.2)

pub none_at_all : (s : Offer) (g : Segment) (n : ℕ) → n ≡ length (items g) → NoneBefore s g n → NoneClosed s g
none_at_all s g n all before =
    subst (ClosesNone s (entries g.branch)) (take-length (items g)) (subst (NoneBefore s g) all before)

-- a segment that closes by an item is the whole tree
pub leaf_is : (r : RoundValue) (g : Segment) (s : Offer) (n : ℕ) (c : spec.ClosedTree) → FirstAt s g n
    → c ≡ spec.closed g (item_or_first (slice_get (items g) n)) → IsAnswerFrom r g s (Some c)
leaf_is r g s n c found is = is_tree c (λ gs from. subst (IsClosedTree s gs) (sym is) (by_shape gs from.first)) where
  item : item_or_first (slice_get (items g) n) ≡ found.0
  item = ap item_or_first found.1

  first : (h : Segment) → h ≡ g → FirstClosed s h (item_or_first (slice_get (items g) n))
  first h same =
      subst (λ z. FirstClosed s z (item_or_first (slice_get (items g) n))) (sym same) (subst (FirstClosed s g) (sym item) found.2)

  by_shape : (hs : Segments) → top hs ≡ g → IsClosedTree s hs (spec.closed g (item_or_first (slice_get (items g) n)))
  by_shape (tip h) same = (sym same, first h same)
  by_shape (node h l r) same = (sym same, first h same)

-- a leaf without an equated item is not solved
leaf_unsolved : (r : RoundValue) (g : Segment) (s : Offer) → NoneClosed s g → g.splits_at ≡ None → IsAnswerFrom r g s None
leaf_unsolved r g s none leaf = unsolved (λ gs from solves.
    none_closes s (entries g.branch) (items g) none (subst (λ h. ClosesSome s (entries h.branch) (items h)) from.first
    (subst (Solves s) (tip_of r.depth gs (among_is r.depth (root_of r) from.tableau gs from.whole from.among)
    (ap (λ h. h.splits_at) from.first ∙ leaf)) solves)))

-- what the segments from a site on are, where its parts are known
record Split (r : RoundValue) (g : Segment) (left right : SiteValue) (gs : Segments) : Type 0 where
  on_left_side : Segments
  on_right_side : Segments
  same : gs ≡ node g on_left_side on_right_side
  from_left : AreFrom r (segment_of left) on_left_side
  from_right : AreFrom r (segment_of right) on_right_side

split_as : (r : RoundValue) (g : Segment) (left right : SiteValue) (gs : Segments) → AreParts r g left right → AreFrom r g gs
    → Split r g left right gs
split_as r g left right gs p from =
    let one : p.tableau ≡ from.tableau = one_tableau r.depth (root_of r) p.tableau from.tableau p.whole from.whole in
    let both : Segments = node g p.below_left p.below_right in
    let among : IsAmong both (all_segments (root_of r) from.tableau) = subst (λ t. IsAmong both (all_segments (root_of r) t)) one p.among in
    record {
      on_left_side = p.below_left;
      on_right_side = p.below_right;
      same = same_below r.depth gs both (among_is r.depth (root_of r) from.tableau gs from.whole from.among)
          (among_is r.depth (root_of r) from.tableau both from.whole among) from.first;
      from_left = record { tableau = from.tableau; whole = from.whole; among = among_through p.below_left both _ (on_left itself) among; first = p.first_left };
      from_right = record { tableau = from.tableau; whole = from.whole; among = among_through p.below_right both _ (on_right itself) among; first = p.first_right };
    }

tree_from : (r : RoundValue) (g : Segment) (s : Offer) (c : spec.ClosedTree) → IsAnswerFrom r g s (Some c)
    → (gs : Segments) → AreFrom r g gs → IsClosedTree s gs c
tree_from r g s _ (is_tree c h) = h

none_from : (r : RoundValue) (g : Segment) (s : Offer) → IsAnswerFrom r g s None
    → (gs : Segments) → AreFrom r g gs → Solves s gs → ⊥
none_from r g s (unsolved h) = h

-- a segment without an equated item is closed by the trees of its parts
pub fork_is : (r : RoundValue) (g : Segment) (s : Offer) (c e f : spec.ClosedTree) → NoneClosed s g → AreBelow r g s (Some (c, e))
    → f ≡ spec.forked g c e → IsAnswerFrom r g s (Some f)
fork_is r g s c e f none (of_parts left right _ parts (are_trees _ _ on_l on_r)) is = is_tree f (λ gs from.
    let h = split_as r g left right gs parts from in
    subst (λ z. IsClosedTree s z f) (sym h.same)
    (subst (IsClosedTree s (node g h.on_left_side h.on_right_side)) (sym is) (
      refl,
      none,
      tree_from r (segment_of left) s c on_l h.on_left_side h.from_left,
      tree_from r (segment_of right) s e on_r h.on_right_side h.from_right,
    )))

-- it is not solved without both
pub unsolved_is : (r : RoundValue) (g : Segment) (s : Offer) → NoneClosed s g → AreBelow r g s None → IsAnswerFrom r g s None
unsolved_is r g s none (no_parts leaf) = leaf_unsolved r g s none leaf
unsolved_is r g s none (of_parts left right _ parts both) = unsolved by_parts where
  by_parts : (gs : Segments) → AreFrom r g gs → Solves s gs → ⊥
  by_parts gs from solves = by_solving (subst (Solves s) h.same solves) where
    h : Split r g left right gs
    h = split_as r g left right gs parts from

    by_both : AreBoth r left right s None → Solves s h.on_left_side → Solves s h.on_right_side → ⊥
    by_both (left_unsolved on_l) l k = none_from r (segment_of left) s on_l h.on_left_side h.from_left l
    by_both (right_unsolved on_r) l k = none_from r (segment_of right) s on_r h.on_right_side h.from_right k

    by_solving : Solves s (node g h.on_left_side h.on_right_side) → ⊥
    by_solving (inl some) = none_closes s (entries g.branch) (items g) none some
    by_solving (inr two) = by_both both two.0 two.1

-- what was found from the root on is the answer of the round
pub root_answer : (r : RoundValue) (site : SiteValue) (s : Offer) (found : Option ClosedTree) → IsRoot r site
    → IsAnswerFrom r (segment_of site) s (option_map closed_tree_of found) → IsAnswer r s found
root_answer r site s found is answer = by_answer found answer where
  from : AreFrom r (segment_of site) (all_segments (root_of r) is.tableau)
  from = record { tableau = is.tableau; whole = is.whole; among = itself; first = is.first }

  by_answer : (o : Option ClosedTree) → IsAnswerFrom r (segment_of site) s (option_map closed_tree_of o) → IsAnswer r s o
  by_answer (Some c) a =
      (is.tableau, is.whole, tree_from r (segment_of site) s (closed_tree_of c) a (all_segments (root_of r) is.tableau) from)
  by_answer None a = (is.tableau, is.whole, none_from r (segment_of site) s a (all_segments (root_of r) is.tableau) from)

pub ruleset answers = (leaf_is, fork_is, unsolved_is)

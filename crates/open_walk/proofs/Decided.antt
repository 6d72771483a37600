-- Whether some offer equates an item of a segment can be decided, and so each tableau has a walk.
use Rattle.std.proofs.Common.{◌↔◌, List, [], ◌∷◌, ◌⊎◌, inl, inr}
use Rattle.unify.specs.Offers.{Offer, IsOffer, EquatesAll}
use Rattle.unify.proofs.Extend.{no_bindings}
use Rattle.rewrite_rules.proofs.Equal.{Decided}
use Rattle.branch_rules.specs.Branch.{Entry, entries}
use Rattle.tab_tree.specs.Arguments.{IsItemOf}
use Rattle.tab_tree.specs.Items.{Item, pair, false_at, not_true, ClosesItem, ClosesSome}
use Rattle.tab_tree.specs.Segments.{Segment, Segments, tip, node, items}
use Rattle.tab_tree.proofs.Contradictions.{AreItemsOf, items_are}
use Rattle.tab_tree.proofs.ItemArguments.{pair_closes}
use Rattle.open_walk.specs.Unifiability.{AreUnifiable}
use Rattle.open_walk.specs.Walk.{HasUnifiable, Visit, IsWalk, stops, is_open, goes_on}
use Rattle.open_walk.proofs.Agreeing.{unifiable_decided}

-- some offer equates the item
abbrev CanClose : List Entry → Item → Type 0
CanClose es item = (s : Offer) × IsOffer s × ClosesItem s es item

item_decided : (es : List Entry) (item : Item) → IsItemOf es item → Decided (CanClose es item)
item_decided es (false_at i) is = inl ([], no_bindings, tt)
item_decided es (not_true i) is = inl ([], no_bindings, tt)
item_decided es (pair i j) is = by_terms (unifiable_decided is.1 is.2) where
  closes : (s : Offer) → EquatesAll s is.1 is.2 ↔ ClosesItem s es (pair i j)
  closes s = pair_closes s es i j is.0 is.1 is.2 is.3 is.4

  by_terms : Decided (AreUnifiable is.1 is.2) → Decided (CanClose es (pair i j))
  by_terms (inl u) = inl (u.0, u.1, (closes u.0).0 u.2)
  by_terms (inr n) = inr (λ u. n (u.0, u.1, (closes u.0).1 u.2))

abbrev CanCloseSome : List Entry → List Item → Type 0
CanCloseSome es is = (s : Offer) × IsOffer s × ClosesSome s es is

some_decided : (es : List Entry) (is : List Item) → AreItemsOf es is → Decided (CanCloseSome es is)
some_decided es [] are = inr (λ u. u.2)
some_decided es (i ∷ is) are = either (item_decided es i are.0) (some_decided es is are.1) where
  either : Decided (CanClose es i) → Decided (CanCloseSome es is) → Decided (CanCloseSome es (i ∷ is))
  either (inl u) d = inl (u.0, u.1, inl u.2)
  either (inr n) (inl u) = inl (u.0, u.1, inr u.2)
  either (inr n) (inr m) = inr (λ u. neither u.0 u.1 u.2) where
    neither : (s : Offer) → IsOffer s → ClosesItem s es i ⊎ ClosesSome s es is → ⊥
    neither s o (inl c) = n (s, o, c)
    neither s o (inr c) = m (s, o, c)

segment_decided : (g : Segment) → Decided (HasUnifiable g)
segment_decided g = some_decided (entries g.branch) (items g) (items_are g.from (entries g.branch))

abbrev HasWalk : Segments → Type 0
HasWalk gs = (walk : List Visit) × IsWalk gs walk

-- each tableau has a walk
pub walk_exists : (gs : Segments) → HasWalk gs
walk_exists (tip g) = by_items (segment_decided g) where
  by_items : Decided (HasUnifiable g) → HasWalk (tip g)
  by_items (inl u) = (_, stops (tip g) u)
  by_items (inr n) = (_, is_open g n)
walk_exists (node g l r) = by_items (walk_exists l) (walk_exists r) (segment_decided g) where
  by_items : HasWalk l → HasWalk r → Decided (HasUnifiable g) → HasWalk (node g l r)
  by_items v w (inl u) = (_, stops (node g l r) u)
  by_items v w (inr n) = (_, goes_on g l r v.0 w.0 n v.1 w.1)

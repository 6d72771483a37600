-- An offer that entails another one closes what the other closes.
use Rattle.std.proofs.Common.{◌≡◌, ℕ, List, [], ◌∷◌, Option, Some, None, refl, ap, sym, ◌∙◌, ◌⊎◌, inl, inr}
use Rattle.free_terms.specs.Free.{FreeTerms, app}
use Rattle.unify.specs.Offers.{Offer, Entails, EquatesAll, resolved_all}
use Rattle.unify.proofs.Absorb.{carries}
use Rattle.branch_rules.specs.Branch.{Branch, Entry, go_left, go_right, entries, after}
use Rattle.tab_tree.specs.Tableau.{Tableau, leaf, step, split, Contradicts, opposite, absurd_true, absurd_false, AllClosed}
use Rattle.tab_tree.specs.Items.{Item, pair, false_at, not_true, ArgumentsEqual, ClosesItem, ClosesSome}
use Rattle.tab_tree.specs.Segments.{Segment, Segments, tip, node, items, Solves}

pub equates_more : (r s : Offer) (us vs : FreeTerms) → Entails r s → EquatesAll s us vs → EquatesAll r us vs
equates_more r s us vs e h = arguments (resolved_all r us) (resolved_all r vs) (carries r s e (app 0 us) (app 0 vs) (ap (app 0) h)) where
  arguments : (xs ys : FreeTerms) → app 0 xs ≡ app 0 ys → xs ≡ ys
  arguments xs ys e = cc

arguments_more : (r s : Offer) (o q : Option Entry) → Entails r s → ArgumentsEqual s o q → ArgumentsEqual r o q
arguments_more r s None q e h = absurd h
arguments_more r s (Some a) None e h = absurd h
arguments_more r s (Some a) (Some b) e h = (h.0, h.1, h.2, h.3, h.4, equates_more r s h.1 h.2 e h.5)

pub item_more : (r s : Offer) (es : List Entry) (item : Item) → Entails r s → ClosesItem s es item → ClosesItem r es item
item_more r s es (pair i j) e h = arguments_more r s _ _ e h
item_more r s es (false_at i) e h = h
item_more r s es (not_true i) e h = h

some_more : (r s : Offer) (es : List Entry) (is : List Item) → Entails r s → ClosesSome s es is → ClosesSome r es is
some_more r s es [] e h = absurd h
some_more r s es (i ∷ is) e (inl h) = inl (item_more r s es i e h)
some_more r s es (i ∷ is) e (inr h) = inr (some_more r s es is e h)

pub solves_more : (r s : Offer) (gs : Segments) → Entails r s → Solves s gs → Solves r gs
solves_more r s (tip g) e h = some_more r s (entries g.branch) (items g) e h
solves_more r s (node g l m) e (inl h) = inl (some_more r s (entries g.branch) (items g) e h)
solves_more r s (node g l m) e (inr h) = inr (solves_more r s l e h.0, solves_more r s m e h.1)

contradicts_more : (r s : Offer) (es : List Entry) → Entails r s → Contradicts s es → Contradicts r es
contradicts_more r s es e (opposite i j p us vs m n a b h) = opposite i j p us vs m n a b (equates_more r s us vs e h)
contradicts_more r s es e (absurd_true i n a) = absurd_true i n a
contradicts_more r s es e (absurd_false i n a) = absurd_false i n a

pub closed_more : (r s : Offer) (b : Branch) (t : Tableau) → Entails r s → AllClosed s b t → AllClosed r b t
closed_more r s b leaf e h = contradicts_more r s (entries b) e h
closed_more r s b (step d t) e h = closed_more r s (after b d) t e h
closed_more r s b (split i l m) e h = (closed_more r s (after b (go_left i)) l e h.0, closed_more r s (after b (go_right i)) m e h.1)

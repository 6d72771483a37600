-- What an item of a segment says of the literals at its places.
use Rattle.std.proofs.Common.{◌≡◌, ℕ, zero, suc, ◌<◌, Bool, true, false, List, [], ◌∷◌, length, Option, None, Some, slice_get, ap, sym, ◌∙◌, subst, refl}
use Rattle.std.specs.Prelude.{◌↔◌, option_map}
use Rattle.std.proofs.lemmas.Option.{slice_get_within, slice_get-map}
use Rattle.fol_core.specs.Syntax.{atom, not}
use Rattle.free_terms.specs.Free.{FreeTerms, FreeFormula}
use Rattle.rewrite_rules.specs.Firing.{IsLiteral, literal_of}
use Rattle.branch_rules.specs.Branch.{Entry}
use Rattle.unify.specs.Offers.{Offer, EquatesAll}
use Rattle.branch_rules.specs.Branch.{entries}
use Rattle.tab_tree.specs.Items.{Item, pair, false_at, not_true, items_of, ArgumentsEqual, ClosesItem}
use Rattle.tab_tree.specs.Literals.{Holds, HoldsLiteral}
use Rattle.tab_tree.specs.Arguments.{HasArguments, IsItemOf, ItemHas}
use Rattle.tab_tree.specs.Segments.{Segment, items}
use Rattle.tab_tree.specs.SiteValue.{item_of, items_in}
use Rattle.tab_tree.specs.declared.item.Item as program
use Rattle.tab_tree.specs.ClosingView.{ClosesAt}
use Rattle.tab_tree.proofs.Contradictions.{AreItemsOf, items_are}

pub within : (es : List Entry) (i : ℕ) → HoldsLiteral es i → i < length es
within es i there = slice_get_within es i _ there.1.1

some_once : {A : Type 0} (a b : A) → Some a ≡ Some b → a ≡ b
some_once a b e = cc

-- one formula stands at a place
pub one_formula : (es : List Entry) (i : ℕ) (f g : FreeFormula) → Holds es i f → Holds es i g → f ≡ g
one_formula es i f g a b = ap (λ e. e.formula) (some_once {A = Entry} _ _ (sym a.1 ∙ b.1))

pub no_other : (es : List Entry) (i : ℕ) (f : FreeFormula) → HoldsLiteral es i → Holds es i f → (IsLiteral f → ⊥) → ⊥
no_other es i f there here is = is (subst IsLiteral (one_formula es i there.0 f there.1 here) there.2)

-- both literals of an item of two, as they were read
pub two_have : (es : List Entry) (i j : ℕ) (m n : Bool) (p q : ℕ) (us vs : FreeTerms) → IsItemOf es (pair i j)
    → Holds es i (literal_of m p us) → Holds es j (literal_of n q vs) → HasArguments es (pair i j) (Some (us, vs))
two_have es i j m n p q us vs is a b =
    by_signs m n (one_formula es i _ _ is.3 a) (one_formula es j _ _ is.4 b) where
      by_signs : (x y : Bool) → atom is.0 is.1 ≡ literal_of x p us → not (atom is.0 is.2) ≡ literal_of y q vs
          → (r : ℕ) × Holds es i (atom r us) × Holds es j (not (atom r vs))
      by_signs false true e f =
          let first : is.1 ≡ us = cc e in
          let second : is.2 ≡ vs = cc f in
          (is.0, subst (λ z. Holds es i (atom is.0 z)) first is.3, subst (λ z. Holds es j (not (atom is.0 z))) second is.4)
      by_signs true y e f = let no : ⊥ = cc e in absurd no
      by_signs false false e f = let no : ⊥ = cc f in absurd no

item_among : (es : List Entry) (is : List Item) (n : ℕ) (item : Item) → AreItemsOf es is → slice_get is n ≡ Some item → IsItemOf es item
item_among es [] n item are e = let no : ⊥ = cc e in absurd no
item_among es (x ∷ is) zero item are e = let same : x ≡ item = cc e in subst (IsItemOf es) same are.0
item_among es (x ∷ is) (suc n) item are e = item_among es is n item are.1 e

-- what stands in a segment's list of items is an item of its entries
pub segment_item : (g : Segment) (n : ℕ) (item : Item) → slice_get (items g) n ≡ Some item → IsItemOf (entries g.branch) item
segment_item g n item e = item_among (entries g.branch) (items g) n item (items_are g.from (entries g.branch)) e

-- a pair is closed where its arguments are equated
pub pair_closes : (s : Offer) (es : List Entry) (i j p : ℕ) (us vs : FreeTerms) → Holds es i (atom p us) → Holds es j (not (atom p vs))
    → EquatesAll s us vs ↔ ClosesItem s es (pair i j)
pair_closes s es i j p us vs a b = (λ e. there (p, us, vs, refl, refl, e), λ h. equal (here h)) where
  left : Entry
  left = record { formula = atom p us; level = a.0 }

  right : Entry
  right = record { formula = not (atom p vs); level = b.0 }

  there : ArgumentsEqual s (Some left) (Some right) → ClosesItem s es (pair i j)
  there h = subst (λ o. ArgumentsEqual s o (slice_get es j)) (sym a.1) (subst (λ o. ArgumentsEqual s (Some left) o) (sym b.1) h)

  here : ClosesItem s es (pair i j) → ArgumentsEqual s (Some left) (Some right)
  here h = subst (λ o. ArgumentsEqual s (Some left) o) b.1 (subst (λ o. ArgumentsEqual s o (slice_get es j)) a.1 h)

  equal : ArgumentsEqual s (Some left) (Some right) → EquatesAll s us vs
  equal x =
      let same : us ≡ x.1 = cc (x.3) in
      let other : vs ≡ x.2 = cc (x.4) in
      subst (λ z. EquatesAll s z vs) (sym same) (subst (λ z. EquatesAll s x.1 z) (sym other) x.5)

-- an item of two is closed where its arguments are equated, and one formula that is false by itself by every offer
closes_by : (s : Offer) (es : List Entry) (item : Item) (us vs : FreeTerms) → HasArguments es item (Some (us, vs))
    → EquatesAll s us vs ↔ ClosesItem s es item
closes_by s es (false_at i) us vs has = let no : ⊥ = cc has in absurd no
closes_by s es (not_true i) us vs has = let no : ⊥ = cc has in absurd no
closes_by s es (pair i j) us vs has = pair_closes s es i j has.0 us vs has.1 has.2

closes_alone : (s : Offer) (es : List Entry) (item : Item) → HasArguments es item None → ClosesItem s es item
closes_alone s es (false_at i) has = tt
closes_alone s es (not_true i) has = tt
closes_alone s es (pair i j) has = absurd has

pub alone_at : (s : Offer) (g : Segment) (n : ℕ) → ItemHas g n None → ClosesAt s g n
alone_at s g n has = (has.0, has.1, closes_alone s (entries g.branch) has.0 has.2)

pub two_at : (s : Offer) (g : Segment) (n : ℕ) (us vs : FreeTerms) → ItemHas g n (Some (us, vs)) → EquatesAll s us vs ↔ ClosesAt s g n
two_at s g n us vs has = (λ e. (has.0, has.1, (closes_by s (entries g.branch) has.0 us vs has.2).0 e), λ h. back h) where
  back : ClosesAt s g n → EquatesAll s us vs
  back h =
      let same : h.0 ≡ has.0 = some_once h.0 has.0 (sym h.1 ∙ has.1) in
      (closes_by s (entries g.branch) has.0 us vs has.2).1 (subst (ClosesItem s (entries g.branch)) same h.2)

pub item_there : (is : List program.Item) (all : List Item) (n : ℕ) (item : program.Item) → items_in is ≡ all
    → slice_get is n ≡ Some item → slice_get all n ≡ Some (item_of item)
item_there is all n item same at =
    ap (λ z. slice_get z n) (sym same) ∙ slice_get-map item_of is n ∙ ap (λ o. option_map item_of o) at

pub none_has : (g : Segment) (n : ℕ) (item : Item) → slice_get (items g) n ≡ Some item → HasArguments (entries g.branch) item None → ItemHas g n None
none_has g n item at has = (item, at, has)

pub some_has : (g : Segment) (n : ℕ) (item : Item) (two : FreeTerms × FreeTerms) → slice_get (items g) n ≡ Some item
    → HasArguments (entries g.branch) item (Some two) → ItemHas g n (Some two)
some_has g n item two at has = (item, at, has)

pub ruleset arguments_known = (segment_item, none_has, some_has)

-- A list of entries is contradictory exactly where one of its items is equated.
use Rattle.std.proofs.Common.{◌≡◌, ℕ, zero, suc, ◌+◌, ◌<◌, ◌≤◌, Bool, true, false, eqb, List, [], ◌∷◌, ◌++◌, length, take, drop, Option, Some, None, slice_get, refl, ap, sym, ◌∙◌, subst, arith, ◌⊎◌, inl, inr, append_assoc, length-append, if◌then◌else◌}
use Rattle.std.proofs.lemmas.Bool.{false≢true, eqb-true, eq-eqb}
use Rattle.std.proofs.lemmas.List.{take-append-drop}
use Rattle.fol_core.specs.Syntax.{FormulaOver, atom, verum, falsum, not, and, or, imp, iff, all, ex}
use Rattle.free_terms.specs.Free.{FreeTerms, FreeFormula}
use Rattle.unify.specs.Offers.{Offer, EquatesAll}
use Rattle.branch_rules.specs.Branch.{Entry}
use Rattle.tab_tree.specs.Tableau.{Contradicts, opposite, absurd_true, absurd_false}
use Rattle.tab_tree.specs.Literals.{Holds}
use Rattle.tab_tree.specs.Arguments.{IsItemOf}
use Rattle.tab_tree.specs.Items.{Item, pair, false_at, not_true, paired, single, paired_all, items_after, items_of, ArgumentsEqual, ClosesItem, ClosesSome}

pub get_in_front : {A : Type 0} (xs ys : List A) (i : ℕ) (a : A) → slice_get xs i ≡ Some a → slice_get (xs ++ ys) i ≡ Some a
get_in_front [] ys i a e = let no : ⊥ = none_is_some a e in absurd no where
  none_is_some : {B : Type 0} (b : B) → None ≡ Some b → ⊥
  none_is_some b e = cc
get_in_front (x ∷ xs) ys zero a e = e
get_in_front (x ∷ xs) ys (suc i) a e = get_in_front xs ys i a e

get_here : {A : Type 0} (xs : List A) (a : A) (ys : List A) → slice_get (xs ++ a ∷ ys) (length xs) ≡ Some a
get_here [] a ys = refl
get_here (x ∷ xs) a ys = get_here xs a ys

none_is_some : {A : Type 0} (a : A) → None ≡ Some a → ⊥
none_is_some a e = cc

some_once : {A : Type 0} (a b : A) → Some a ≡ Some b → a ≡ b
some_once a b e = cc

-- what stands in a list with one more at its end
get_last : {A : Type 0} (xs : List A) (x : A) (i : ℕ) (a : A) → slice_get (xs ++ x ∷ []) i ≡ Some a → (slice_get xs i ≡ Some a) ⊎ ((i ≡ length xs) × (x ≡ a))
get_last [] x zero a e = inr (refl, some_once x a e)
get_last [] x (suc i) a e = absurd (none_is_some a e)
get_last (y ∷ xs) x zero a e = inl e
get_last (y ∷ xs) x (suc i) a e = further (get_last xs x i a e) where
  further : (slice_get xs i ≡ Some a) ⊎ ((i ≡ length xs) × (x ≡ a)) → (slice_get xs i ≡ Some a) ⊎ ((suc i ≡ suc (length xs)) × (x ≡ a))
  further (inl h) = inl h
  further (inr h) = inr (ap suc h.0, h.1)

pub contradicts_more : (s : Offer) (xs ys : List Entry) → Contradicts s xs → Contradicts s (xs ++ ys)
contradicts_more s xs ys (opposite i j p us vs m n a b e) = opposite i j p us vs m n (get_in_front xs ys i _ a) (get_in_front xs ys j _ b) e
contradicts_more s xs ys (absurd_true i n a) = absurd_true i n (get_in_front xs ys i _ a)
contradicts_more s xs ys (absurd_false i n a) = absurd_false i n (get_in_front xs ys i _ a)

some_in_front : (s : Offer) (es : List Entry) (is js : List Item) → ClosesSome s es is → ClosesSome s es (is ++ js)
some_in_front s es [] js h = absurd h
some_in_front s es (i ∷ is) js (inl h) = inl h
some_in_front s es (i ∷ is) js (inr h) = inr (some_in_front s es is js h)

some_behind : (s : Offer) (es : List Entry) (is js : List Item) → ClosesSome s es js → ClosesSome s es (is ++ js)
some_behind s es [] js h = h
some_behind s es (i ∷ is) js h = inr (some_behind s es is js h)

paired_opposite : (i j p : ℕ) (us vs : FreeTerms) → paired i (atom p us) j (not (atom p vs)) ≡ pair i j ∷ []
paired_opposite i j p us vs = ap (λ q. if q then pair i j ∷ [] else []) (eq-eqb p p refl)

paired_opposite_back : (i j p : ℕ) (us vs : FreeTerms) → paired i (not (atom p vs)) j (atom p us) ≡ pair j i ∷ []
paired_opposite_back i j p us vs = ap (λ q. if q then pair j i ∷ [] else []) (eq-eqb p p refl)

-- the pair of an earlier formula and the one at j is among the items
in_paired : (s : Offer) (all_of : List Entry) (k : ℕ) (es : List Entry) (i : ℕ) (e : Entry) (j : ℕ) (b : FreeFormula) (item : Item)
    → slice_get es i ≡ Some e → paired (k + i) e.formula j b ≡ item ∷ [] → ClosesItem s all_of item → ClosesSome s all_of (paired_all k es j b)
in_paired s all_of k [] i e j b item at is h = absurd (none_is_some e at)
in_paired s all_of k (x ∷ es) zero e j b item at is h =
    let same : x ≡ e = some_once x e at in
    let place : k + 0 ≡ k = omega arith in
    let here : paired k x.formula j b ≡ item ∷ [] = ap (λ z. paired k z.formula j b) same ∙ ap (λ n. paired n e.formula j b) (sym place) ∙ is in
    some_in_front s all_of (paired k x.formula j b) (paired_all (suc k) es j b) (subst (ClosesSome s all_of) (sym here) (inl h))
in_paired s all_of k (x ∷ es) (suc i) e j b item at is h =
    let place : k + suc i ≡ suc k + i = omega arith in
    some_behind s all_of (paired k x.formula j b) (paired_all (suc k) es j b)
    (in_paired s all_of (suc k) es i e j b item at (ap (λ n. paired n e.formula j b) (sym place) ∙ is) h)

abbrev own_items : List Entry → Entry → List Item
own_items es e = paired_all 0 es (length es) e.formula ++ single (length es) e.formula

-- the one that the last entry makes contradictory
last_contradicts : (s : Offer) (es : List Entry) (e : Entry) (more : List Entry) → Contradicts s (es ++ e ∷ [])
    → Contradicts s es ⊎ ClosesSome s ((es ++ e ∷ []) ++ more) (own_items es e)
last_contradicts s es e more (opposite i j p us vs m n a b eq) = by_places (get_last es e i _ a) (get_last es e j _ b) where
  one_of : FreeFormula → ℕ → Entry
  one_of f k = record { formula = f; level = k }

  whole : List Entry
  whole = (es ++ e ∷ []) ++ more

  closes : (x y : ℕ) → slice_get (es ++ e ∷ []) x ≡ Some (one_of (atom p us) m) → slice_get (es ++ e ∷ []) y ≡ Some (one_of (not (atom p vs)) n) → ClosesItem s whole (pair x y)
  closes x y c d =
      subst (λ o. ArgumentsEqual s o (slice_get whole y)) (sym (get_in_front (es ++ e ∷ []) more x _ c))
      (subst (λ o. ArgumentsEqual s (Some (one_of (atom p us) m)) o) (sym (get_in_front (es ++ e ∷ []) more y _ d))
      (p, us, vs, refl, refl, eq))

  by_places : (slice_get es i ≡ Some (one_of (atom p us) m)) ⊎ ((i ≡ length es) × (e ≡ one_of (atom p us) m))
      → (slice_get es j ≡ Some (one_of (not (atom p vs)) n)) ⊎ ((j ≡ length es) × (e ≡ one_of (not (atom p vs)) n))
      → Contradicts s es ⊎ ClosesSome s whole (own_items es e)
  by_places (inl c) (inl d) = inl (opposite i j p us vs m n c d eq)
  by_places (inl c) (inr d) =
      inr (some_in_front s whole (paired_all 0 es (length es) e.formula) (single (length es) e.formula)
      (in_paired s whole 0 es i (one_of (atom p us) m) (length es) e.formula (pair i (length es)) c
      (ap (λ z. paired (0 + i) (atom p us) (length es) z.formula) d.1 ∙ paired_opposite (0 + i) (length es) p us vs ∙ ap (λ z. pair z (length es) ∷ []) (let z : 0 + i ≡ i = omega arith in z))
      (subst (λ z. ClosesItem s whole (pair i z)) d.0 (closes i j a b))))
  by_places (inr c) (inl d) =
      inr (some_in_front s whole (paired_all 0 es (length es) e.formula) (single (length es) e.formula)
      (in_paired s whole 0 es j (one_of (not (atom p vs)) n) (length es) e.formula (pair (length es) j) d
      (ap (λ z. paired (0 + j) (not (atom p vs)) (length es) z.formula) c.1 ∙ paired_opposite_back (0 + j) (length es) p us vs ∙ ap (λ z. pair (length es) z ∷ []) (let z : 0 + j ≡ j = omega arith in z))
      (subst (λ z. ClosesItem s whole (pair z j)) c.0 (closes i j a b))))
  by_places (inr c) (inr d) = absurd (apart (ap (λ z. z.formula) (sym c.1 ∙ d.1))) where
    apart : atom p us ≡ not (atom p vs) → ⊥
    apart z = cc
last_contradicts s es e more (absurd_true i n a) = by_place (get_last es e i _ a) where
  by_place : (slice_get es i ≡ Some (record { formula = not verum; level = n })) ⊎ ((i ≡ length es) × (e ≡ record { formula = not verum; level = n }))
      → Contradicts s es ⊎ ClosesSome s ((es ++ e ∷ []) ++ more) (own_items es e)
  by_place (inl c) = inl (absurd_true i n c)
  by_place (inr c) =
      inr (some_behind s ((es ++ e ∷ []) ++ more) (paired_all 0 es (length es) e.formula) (single (length es) e.formula)
      (subst (λ z. ClosesSome s ((es ++ e ∷ []) ++ more) (single (length es) z.formula)) (sym c.1) (inl tt)))
last_contradicts s es e more (absurd_false i n a) = by_place (get_last es e i _ a) where
  by_place : (slice_get es i ≡ Some (record { formula = falsum; level = n })) ⊎ ((i ≡ length es) × (e ≡ record { formula = falsum; level = n }))
      → Contradicts s es ⊎ ClosesSome s ((es ++ e ∷ []) ++ more) (own_items es e)
  by_place (inl c) = inl (absurd_false i n c)
  by_place (inr c) =
      inr (some_behind s ((es ++ e ∷ []) ++ more) (paired_all 0 es (length es) e.formula) (single (length es) e.formula)
      (subst (λ z. ClosesSome s ((es ++ e ∷ []) ++ more) (single (length es) z.formula)) (sym c.1) (inl tt)))

-- Of contradictory entries the earlier ones are contradictory, or an item with its newest formula among the later ones
-- is equated.
pub newest_closes : (s : Offer) (earlier later whole : List Entry) → whole ≡ earlier ++ later → Contradicts s whole
    → Contradicts s earlier ⊎ ClosesSome s whole (items_after earlier later)
newest_closes s earlier [] whole is h = inl (subst (Contradicts s) (is ∙ append_none earlier) h) where
  append_none : {A : Type 0} (xs : List A) → xs ++ [] ≡ xs
  append_none [] = refl
  append_none (x ∷ xs) = ap (λ z. x ∷ z) (append_none xs)
newest_closes s earlier (e ∷ later) whole is h =
    let split : whole ≡ (earlier ++ e ∷ []) ++ later = is ∙ sym (append_assoc earlier (e ∷ []) later) in
    by_last split (newest_closes s (earlier ++ e ∷ []) later whole split h)
  where
    by_last : whole ≡ (earlier ++ e ∷ []) ++ later → Contradicts s (earlier ++ e ∷ []) ⊎ ClosesSome s whole (items_after (earlier ++ e ∷ []) later)
        → Contradicts s earlier ⊎ ClosesSome s whole (items_after earlier (e ∷ later))
    by_last split (inr c) = inr (some_behind s whole (own_items earlier e) (items_after (earlier ++ e ∷ []) later) c)
    by_last split (inl c) = by_own (last_contradicts s earlier e later c) where
      by_own : Contradicts s earlier ⊎ ClosesSome s ((earlier ++ e ∷ []) ++ later) (own_items earlier e) → Contradicts s earlier ⊎ ClosesSome s whole (items_after earlier (e ∷ later))
      by_own (inl x) = inl x
      by_own (inr x) =
          inr (some_in_front s whole (own_items earlier e) (items_after (earlier ++ e ∷ []) later)
          (subst (λ z. ClosesSome s z (own_items earlier e)) (sym split) x))

abbrev pub AreItemsOf : List Entry → List Item → Type 0
AreItemsOf es [] = Unit {0}
AreItemsOf es (item ∷ items) = IsItemOf es item × AreItemsOf es items

items_both : (es : List Entry) (is js : List Item) → AreItemsOf es is → AreItemsOf es js → AreItemsOf es (is ++ js)
items_both es [] js a b = b
items_both es (i ∷ is) js a b = (a.0, items_both es is js a.1 b)

paired_is : (whole : List Entry) (i j : ℕ) (e f : Entry) → slice_get whole i ≡ Some e → slice_get whole j ≡ Some f → AreItemsOf whole (paired i e.formula j f.formula)
paired_is whole i j e f a b = by_forms e.formula f.formula refl refl where
  at : (k : ℕ) (g : Entry) (x : FreeFormula) → slice_get whole k ≡ Some g → g.formula ≡ x → Holds whole k x
  at k g x c d = (g.level, c ∙ ap (λ y. Some (record { formula = y; level = g.level })) d)

  by_eq : (p q : ℕ) (us vs : FreeTerms) (t : Bool) → eqb p q ≡ t → e.formula ≡ atom p us → f.formula ≡ not (atom q vs) → AreItemsOf whole (if t then pair i j ∷ [] else [])
  by_eq p q us vs false t c d = tt
  by_eq p q us vs true t c d = ((p, us, vs, at i e (atom p us) a c, at j f (not (atom p vs)) b (d ∙ ap (λ k. not (atom k vs)) (sym (eqb-true p q t)))), tt)

  by_eq_back : (p q : ℕ) (us vs : FreeTerms) (t : Bool) → eqb p q ≡ t → f.formula ≡ atom p us → e.formula ≡ not (atom q vs) → AreItemsOf whole (if t then pair j i ∷ [] else [])
  by_eq_back p q us vs false t c d = tt
  by_eq_back p q us vs true t c d = ((p, us, vs, at j f (atom p us) b c, at i e (not (atom p vs)) a (d ∙ ap (λ k. not (atom k vs)) (sym (eqb-true p q t)))), tt)

  by_forms : (x y : FreeFormula) → e.formula ≡ x → f.formula ≡ y → AreItemsOf whole (paired i x j y)
  by_forms (atom p us) (not (atom q vs)) c d = by_eq p q us vs (eqb p q) refl c d
  by_forms (not (atom q vs)) (atom p us) c d = by_eq_back p q us vs (eqb p q) refl d c
  by_forms x y c d = tt

single_is : (whole : List Entry) (j : ℕ) (f : Entry) → slice_get whole j ≡ Some f → AreItemsOf whole (single j f.formula)
single_is whole j f b = by_form f.formula refl where
  at : (x : FreeFormula) → f.formula ≡ x → Holds whole j x
  at x d = (f.level, b ∙ ap (λ y. Some (record { formula = y; level = f.level })) d)

  by_form : (x : FreeFormula) → f.formula ≡ x → AreItemsOf whole (single j x)
  by_form falsum d = (at falsum d, tt)
  by_form (not verum) d = (at (not verum) d, tt)
  by_form x d = tt

paired_all_is : (whole : List Entry) (k : ℕ) (es : List Entry) (j : ℕ) (f : Entry) → ((i : ℕ) (e : Entry) → slice_get es i ≡ Some e → slice_get whole (k + i) ≡ Some e)
    → slice_get whole j ≡ Some f → AreItemsOf whole (paired_all k es j f.formula)
paired_all_is whole k [] j f each at = tt
paired_all_is whole k (e ∷ es) j f each at =
    items_both whole (paired k e.formula j f.formula) (paired_all (suc k) es j f.formula)
    (paired_is whole k j e f (ap (λ n. slice_get whole n) (let z : k ≡ k + 0 = omega arith in z) ∙ each 0 e refl) at)
    (paired_all_is whole (suc k) es j f (λ i x h. ap (λ n. slice_get whole n) (let z : suc k + i ≡ k + suc i = omega arith in z) ∙ each (suc i) x h) at)

pub items_after_are : (earlier later whole : List Entry) → whole ≡ earlier ++ later → AreItemsOf whole (items_after earlier later)
items_after_are earlier [] whole is = tt
items_after_are earlier (e ∷ later) whole is =
    let split : whole ≡ (earlier ++ e ∷ []) ++ later = is ∙ sym (append_assoc earlier (e ∷ []) later) in
    let here : slice_get whole (length earlier) ≡ Some e = ap (λ z. slice_get z (length earlier)) is ∙ get_here earlier e later in
    items_both whole (own_items earlier e) (items_after (earlier ++ e ∷ []) later)
    (items_both whole (paired_all 0 earlier (length earlier) e.formula) (single (length earlier) e.formula)
    (paired_all_is whole 0 earlier (length earlier) e (λ i x h. ap (λ n. slice_get whole n) (let z : 0 + i ≡ i = omega arith in z) ∙ ap (λ z. slice_get z i) is ∙ get_in_front earlier (e ∷ later) i x h) here)
    (single_is whole (length earlier) e here))
    (items_after_are (earlier ++ e ∷ []) later whole split)

-- the items of a segment are pairs and formulas of their kinds
pub items_are : (from : ℕ) (es : List Entry) → AreItemsOf es (items_of from es)
items_are from es = items_after_are (take from es) (drop from es) es (sym (take-append-drop from es))

item_contradicts : (s : Offer) (es : List Entry) (item : Item) → IsItemOf es item → ClosesItem s es item → Contradicts s es
item_contradicts s es (false_at i) is h = absurd_false i is.0 is.1
item_contradicts s es (not_true i) is h = absurd_true i is.0 is.1
item_contradicts s es (pair i j) is h =
    by_entries (subst (λ o. ArgumentsEqual s o (slice_get es j)) is.3.1 h)
  where
    by_both : ArgumentsEqual s (Some (record { formula = atom is.0 is.1; level = is.3.0 })) (Some (record { formula = not (atom is.0 is.2); level = is.4.0 })) → Contradicts s es
    by_both x =
        let same : is.1 ≡ x.1 = cc (x.3) in
        let other : is.2 ≡ x.2 = cc (x.4) in
        opposite i j is.0 is.1 is.2 is.3.0 is.4.0 is.3.1 is.4.1 (subst (λ us. EquatesAll s us is.2) (sym same) (subst (λ vs. EquatesAll s x.1 vs) (sym other) x.5))

    by_entries : ArgumentsEqual s (Some (record { formula = atom is.0 is.1; level = is.3.0 })) (slice_get es j) → Contradicts s es
    by_entries x = by_both (subst (λ o. ArgumentsEqual s (Some (record { formula = atom is.0 is.1; level = is.3.0 })) o) is.4.1 x)

pub some_contradicts : (s : Offer) (es : List Entry) (items : List Item) → AreItemsOf es items → ClosesSome s es items → Contradicts s es
some_contradicts s es [] are h = absurd h
some_contradicts s es (item ∷ items) are (inl h) = item_contradicts s es item are.0 h
some_contradicts s es (item ∷ items) are (inr h) = some_contradicts s es items are.1 h

-- the entries are contradictory where a segment's item is equated
pub own_contradicts : (s : Offer) (from : ℕ) (es : List Entry) → ClosesSome s es (items_of from es) → Contradicts s es
own_contradicts s from es h = some_contradicts s es (items_of from es) (items_are from es) h

-- and a contradiction stands before the segment, or an item of the segment is equated
pub own_closes : (s : Offer) (from : ℕ) (es : List Entry) → Contradicts s es → Contradicts s (take from es) ⊎ ClosesSome s es (items_of from es)
own_closes s from es h = newest_closes s (take from es) (drop from es) es (sym (take-append-drop from es)) h

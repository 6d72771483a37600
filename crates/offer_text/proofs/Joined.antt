-- Writing a list item by item.
use Rattle.std.proofs.Common.{◌≡◌, ℕ, zero, suc, ◌+◌, List, [], ◌∷◌, ◌++◌, map, drop, slice_get, Some, None, refl, ap, sym, ◌∙◌, append_assoc, append-nil, arith, drop-cons}
use Rattle.std.specs.Prelude.{codes}
use Rattle.std.specs.List.{join_by, flat_map}
use Rattle.std.proofs.lemmas.List.Folds.{flat_map-map}
use Rattle.std.proofs.lemmas.Option.{slice_get_within, get_or_from_slice_get}
use Rattle.offer_text.specs.Separated.{separator, rest_from}

drop_at : {X : Type 0} (items : List X) (place : ℕ) (x : X) → slice_get items place ≡ Some x → drop place items ≡ x ∷ drop (suc place) items
drop_at items place x e =
    drop-cons items place x (slice_get_within items place x e)
    ∙ ap (λ y. y ∷ drop (suc place) items) (get_or_from_slice_get items place x x e)

drop_none : {X : Type 0} (items : List X) (place : ℕ) → slice_get items place ≡ None → drop place items ≡ []
drop_none [] zero e = refl
drop_none [] (suc place) e = refl
drop_none (y ∷ ys) zero e = absurd cc
drop_none (y ∷ ys) (suc place) e = drop_none ys place e

rest_at_suc : {X : Type 0} (text : X → List ℕ) (items : List X) (place : ℕ) (x : X) → slice_get items place ≡ Some x
    → rest_from text place items ≡ (separator place ++ text x) ++ rest_from text (suc place) items
rest_at_suc text [] place x e = absurd cc
rest_at_suc text (y ∷ ys) zero x e = let is : y ≡ x = cc in ap (λ z. text z ++ flat_map (λ u. codes "," ++ text u) ys) is
rest_at_suc text (y ∷ ys) (suc place) x e = ap (flat_map (λ u. codes "," ++ text u)) (drop_at (y ∷ ys) (suc place) x e)

-- the item at a place, behind its separator, and what comes after it
pub rest_at : {X : Type 0} (text : X → List ℕ) (items : List X) (place next : ℕ) (x : X) → next ≡ place + 1 → slice_get items place ≡ Some x
    → rest_from text place items ≡ (separator place ++ text x) ++ rest_from text next items
rest_at text items place next x is e =
    rest_at_suc text items place x e
    ∙ ap (λ n. (separator place ++ text x) ++ rest_from text n items) (let f : suc place ≡ next = omega arith in f)

-- nothing is left behind the last item
pub rest_none : {X : Type 0} (text : X → List ℕ) (items : List X) (place : ℕ) → slice_get items place ≡ None → rest_from text place items ≡ []
rest_none text [] zero e = refl
rest_none text (y ∷ ys) zero e = absurd cc
rest_none text items (suc place) e = ap (flat_map (λ u. codes "," ++ text u)) (drop_none items (suc place) e)

-- the items seen in another way
pub rest_from-map : {X Y : Type 0} (text : Y → List ℕ) (view : X → Y) (items : List X) → rest_from (λ x. text (view x)) 0 items ≡ join_by text (codes ",") (map view items)
rest_from-map text view [] = refl
rest_from-map text view (x ∷ xs) = ap (λ t. text (view x) ++ t) (sym (flat_map-map (λ u. codes "," ++ text u) view xs))

-- one item more is written
pub more_written : {X : Type 0} (text : X → List ℕ) (items : List X) (place : ℕ) (x : X) (old out new : List ℕ) → slice_get items place ≡ Some x
    → new ≡ out ++ (separator place ++ text x) → out ++ rest_from text place items ≡ old ++ rest_from text 0 items
    → new ++ rest_from text (place + 1) items ≡ old ++ rest_from text 0 items
more_written text items place x old out new at is written =
    ap (λ w. w ++ rest_from text (place + 1) items) is ∙ append_assoc out (separator place ++ text x) (rest_from text (place + 1) items)
    ∙ ap (λ w. out ++ w) (sym (rest_at text items place (place + 1) x refl at)) ∙ written

-- all of them are
pub all_written : {X Y : Type 0} (text : Y → List ℕ) (view : X → Y) (items : List X) (place : ℕ) (old out : List ℕ) → slice_get items place ≡ None
    → out ++ rest_from (λ x. text (view x)) place items ≡ old ++ rest_from (λ x. text (view x)) 0 items → out ≡ old ++ join_by text (codes ",") (map view items)
all_written text view items place old out none written =
    sym (append-nil out) ∙ ap (λ w. out ++ w) (sym (rest_none (λ x. text (view x)) items place none)) ∙ written
    ∙ ap (λ w. old ++ w) (rest_from-map text view items)

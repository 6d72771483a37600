-- The items of a literal are its pairs with the opposite literals before it.
use Rattle.std.proofs.Common.{◌≡◌, ℕ, zero, suc, ◌+◌, ◌<◌, ◌≤◌, Bool, true, false, eqb, List, [], ◌∷◌, ◌++◌, length, take, drop, map, Option, Some, None, slice_get, get_or, refl, ap, sym, ◌∙◌, subst, arith, append_assoc, if◌then◌else◌}
use Rattle.std.specs.Prelude.{All, cond, filter, not as opposite}
use Rattle.std.proofs.lemmas.List.Elements.{All-nil, All-cons, All-append}
use Rattle.std.proofs.lemmas.Bool.{eqb-true, eqb-false, false≢true}
use Rattle.lit_index.specs.Occurrences.{Occurrence, occurrence, is_literal, places_of}
use Rattle.std.proofs.lemmas.Option.{slice_get_within, get_or_from_slice_get}
use Rattle.std.proofs.Math.Seq.{take-suc, drop-cons, drop-nil}
use Rattle.std.proofs.lemmas.List.{length-take-le, append-nil, take_all}
use Rattle.fol_core.specs.Syntax.{FormulaOver, atom, verum, falsum, not, and, or, imp, iff, all, ex}
use Rattle.free_terms.specs.Free.{FreeTerms, FreeFormula}
use Rattle.rewrite_rules.specs.Firing.{IsLiteral, literal_of}
use Rattle.branch_rules.specs.Branch.{Entry}
use Rattle.tab_tree.specs.Items.{Item, pair, paired, single, paired_all, items_after, items_of}
use Rattle.tab_tree.specs.Literals.{occurrences_at, occurrences_from, occurrences, Holds}
use Rattle.tab_tree.specs.ItemsAt.{items_at, pair_of, pairs_of}

past_end : {A : Type 0} (n : ℕ) (xs : List A) → length xs ≤ n → drop n xs ≡ []
past_end n [] le = drop-nil n
past_end zero (x ∷ xs) le = absurd (none_left_of le) where
  none_left_of : suc (length xs) ≤ 0 → ⊥
  none_left_of h = omega (arith, h)
past_end (suc n) (x ∷ xs) le = past_end n xs (omega (arith, le))

-- what stands at the places
at_places : (n i : ℕ) (f : FreeFormula) → i < n → All (λ o. o.place < n) (occurrences_at i f)
at_places n i (atom p us) lt = All-cons (λ o. o.place < n) (occurrence i false p) [] lt (All-nil (λ o. o.place < n))
at_places n i (not (atom p us)) lt = All-cons (λ o. o.place < n) (occurrence i true p) [] lt (All-nil (λ o. o.place < n))
at_places n i f lt = All-nil (λ o. o.place < n)

all_below : (n i : ℕ) (es : List Entry) → i + length es ≤ n → All (λ o. o.place < n) (occurrences_from i es)
all_below n i [] le = All-nil (λ o. o.place < n)
all_below n i (e ∷ es) le = All-append (λ o. o.place < n) (occurrences_at i e.formula) (occurrences_from (suc i) es) (at_places n i e.formula here) (all_below n (suc i) es rest) where
  here : i < n
  here = omega (arith, le)

  rest : suc i + length es ≤ n
  rest = omega (arith, le)

-- the literals before the place stand before it
pub places_below : (es : List Entry) (j : ℕ) → j < length es → All (λ o. o.place < j) (occurrences (take j es))
places_below es j lt =
    let le : j ≤ length es = omega (arith, lt) in
    let many : length (take j es) ≡ j = length-take-le j es le in
    all_below j 0 (take j es) (omega (arith, many))

-- one more entry at the end
occurrences_grow : (i : ℕ) (es : List Entry) (e : Entry)
    → occurrences_from i (es ++ e ∷ []) ≡ occurrences_from i es ++ occurrences_at (i + length es) e.formula
occurrences_grow i [] e = append-nil (occurrences_at i e.formula) ∙ ap (λ n. occurrences_at n e.formula) here where
  here : i ≡ i + 0
  here = omega arith
occurrences_grow i (x ∷ es) e =
    ap (λ z. occurrences_at i x.formula ++ z)
    (occurrences_grow (suc i) es e ∙ ap (λ n. occurrences_from (suc i) es ++ occurrences_at n e.formula) place)
    ∙ sym (append_assoc (occurrences_at i x.formula) (occurrences_from (suc i) es) (occurrences_at (i + suc (length es)) e.formula)) where
      place : suc i + length es ≡ i + suc (length es)
      place = omega arith

-- the literals before the next place
occurrences_next : (es : List Entry) (j : ℕ) (f : FreeFormula) → Holds es j f
    → occurrences (take (j + 1) es) ≡ occurrences (take j es) ++ occurrences_at j f
occurrences_next es j f there =
    let e : Entry = record { formula = f; level = there.0 } in
    let within : j < length es = slice_get_within es j e there.1 in
    let is : get_or es j e ≡ e = get_or_from_slice_get es j e e there.1 in
    let le : j ≤ length es = omega (arith, within) in
    let next : j + 1 ≡ suc j = omega arith in
    let at : 0 + length (take j es) ≡ j = (let z : 0 + length (take j es) ≡ length (take j es) = omega arith in z) ∙ length-take-le j es le in
    ap (λ n. occurrences (take n es)) next
    ∙ ap (λ z. occurrences z) (take-suc es j e within ∙ ap (λ z. take j es ++ z ∷ []) is)
    ∙ occurrences_grow 0 (take j es) e
    ∙ ap (λ n. occurrences (take j es) ++ occurrences_at n f) at

is_occurrence : (j : ℕ) (negated : Bool) (p : ℕ) (us : FreeTerms) → occurrences_at j (literal_of negated p us) ≡ occurrence j negated p ∷ []
is_occurrence j false p us = refl
is_occurrence j true p us = refl

pub next_literal : (es : List Entry) (j : ℕ) (negated : Bool) (p : ℕ) (us : FreeTerms) (f : FreeFormula) → Holds es j f → f ≡ literal_of negated p us
    → occurrences (take (j + 1) es) ≡ occurrences (take j es) ++ occurrence j negated p ∷ []
next_literal es j negated p us f there is =
    occurrences_next es j f there ∙ ap (λ z. occurrences (take j es) ++ z) (ap (λ g. occurrences_at j g) is ∙ is_occurrence j negated p us)

no_occurrence : (j : ℕ) (f : FreeFormula) → (IsLiteral f → ⊥) → occurrences_at j f ≡ []
no_occurrence j (atom p us) is = absurd (is tt)
no_occurrence j (not (atom p us)) is = absurd (is tt)
no_occurrence j f is = refl

pub next_other : (es : List Entry) (j : ℕ) (f : FreeFormula) → Holds es j f → (IsLiteral f → ⊥) → occurrences (take (j + 1) es) ≡ occurrences (take j es)
next_other es j f there is =
    occurrences_next es j f there ∙ ap (λ z. occurrences (take j es) ++ z) (no_occurrence j f is) ∙ append-nil (occurrences (take j es))

eqb_flips : (p q : ℕ) → eqb p q ≡ eqb q p
eqb_flips p q = by_both (eqb p q) (eqb q p) refl refl where
  by_both : (b c : Bool) → eqb p q ≡ b → eqb q p ≡ c → eqb p q ≡ eqb q p
  by_both true true e f = e ∙ sym f
  by_both false false e f = e ∙ sym f
  by_both true false e f = absurd (eqb-false q p f (sym (eqb-true p q e)))
  by_both false true e f = absurd (eqb-false p q e (sym (eqb-true q p f)))

-- one more literal, which is found exactly where it makes an item
one_found : (h : ℕ → Item) (o : Occurrence) (os : List Occurrence) (rest : List Item) (b c : Bool) → b ≡ c → rest ≡ map h (map (λ q. q.place) os)
    → (if b then h o.place ∷ [] else []) ++ rest ≡ map h (map (λ q. q.place) (cond c (o ∷ os) os))
one_found h o os rest true true is e = ap (λ z. h o.place ∷ z) e
one_found h o os rest false false is e = e
one_found h o os rest true false is e = absurd (false≢true (sym is))
one_found h o os rest false true is e = absurd (false≢true is)

one_with_atom : (i : ℕ) (f : FreeFormula) (j p : ℕ) (us : FreeTerms) (os : List Occurrence) (rest : List Item) → rest ≡ pairs_of false j (places_of true p os)
    → paired i f j (atom p us) ++ rest ≡ pairs_of false j (places_of true p (occurrences_at i f ++ os))
one_with_atom i (not (atom q vs)) j p us os rest e =
    one_found (pair_of false j) (occurrence i true q) (filter (is_literal true p) os) rest (eqb p q) (eqb q p) (eqb_flips p q) e
one_with_atom i (atom q vs) j p us os rest e = e
one_with_atom i f j p us os rest e = e

two_negated : (i : ℕ) (g : FreeFormula) (j p : ℕ) (us : FreeTerms) → paired i (not g) j (not (atom p us)) ≡ []
two_negated i (atom q vs) j p us = refl
two_negated i g j p us = refl

one_with_negated : (i : ℕ) (f : FreeFormula) (j p : ℕ) (us : FreeTerms) (os : List Occurrence) (rest : List Item) → rest ≡ pairs_of true j (places_of false p os)
    → paired i f j (not (atom p us)) ++ rest ≡ pairs_of true j (places_of false p (occurrences_at i f ++ os))
one_with_negated i (atom q vs) j p us os rest e =
    one_found (pair_of true j) (occurrence i false q) (filter (is_literal false p) os) rest (eqb q p) (eqb q p) refl e
one_with_negated i (not (atom q vs)) j p us os rest e = e
one_with_negated i (not g) j p us os rest e = ap (λ z. z ++ rest) (two_negated i g j p us) ∙ e
one_with_negated i f j p us os rest e = e

with_atom : (i : ℕ) (es : List Entry) (j p : ℕ) (us : FreeTerms)
    → paired_all i es j (atom p us) ≡ pairs_of false j (places_of true p (occurrences_from i es))
with_atom i [] j p us = refl
with_atom i (e ∷ es) j p us =
    one_with_atom i e.formula j p us (occurrences_from (suc i) es) (paired_all (suc i) es j (atom p us)) (with_atom (suc i) es j p us)

with_negated : (i : ℕ) (es : List Entry) (j p : ℕ) (us : FreeTerms)
    → paired_all i es j (not (atom p us)) ≡ pairs_of true j (places_of false p (occurrences_from i es))
with_negated i [] j p us = refl
with_negated i (e ∷ es) j p us =
    one_with_negated i e.formula j p us (occurrences_from (suc i) es) (paired_all (suc i) es j (not (atom p us))) (with_negated (suc i) es j p us)

-- the items of a literal
items_of_literal : (es : List Entry) (j : ℕ) (negated : Bool) (p : ℕ) (us : FreeTerms)
    → items_at es j (literal_of negated p us) ≡ pairs_of negated j (places_of (opposite negated) p (occurrences (take j es)))
items_of_literal es j false p us = append-nil (paired_all 0 (take j es) j (atom p us)) ∙ with_atom 0 (take j es) j p us
items_of_literal es j true p us = append-nil (paired_all 0 (take j es) j (not (atom p us))) ∙ with_negated 0 (take j es) j p us

no_pair : (i : ℕ) (g : FreeFormula) (j : ℕ) (f : FreeFormula) → (IsLiteral f → ⊥) → paired i g j f ≡ []
no_pair i (atom q vs) j (atom p us) is = absurd (is tt)
no_pair i (not (atom q vs)) j (atom p us) is = absurd (is tt)
no_pair i (atom q vs) j (not (atom p us)) is = absurd (is tt)
no_pair i g j f is = refl

no_pairs : (i : ℕ) (es : List Entry) (j : ℕ) (f : FreeFormula) → (IsLiteral f → ⊥) → paired_all i es j f ≡ []
no_pairs i [] j f is = refl
no_pairs i (e ∷ es) j f is = ap (λ z. z ++ paired_all (suc i) es j f) (no_pair i e.formula j f is) ∙ no_pairs (suc i) es j f is

-- the items of a formula that is no literal
pub items_of_other : (es : List Entry) (j : ℕ) (f : FreeFormula) → (IsLiteral f → ⊥) → items_at es j f ≡ single j f
items_of_other es j f is = ap (λ z. z ++ single j f) (no_pairs 0 (take j es) j f is)

-- the items of a list from the place on begin with those of the formula there
pub items_step : (es : List Entry) (j : ℕ) (f : FreeFormula) → Holds es j f → items_of j es ≡ items_at es j f ++ items_of (suc j) es
items_step es j f there =
    let e : Entry = record { formula = f; level = there.0 } in
    let within : j < length es = slice_get_within es j e there.1 in
    let is : get_or es j e ≡ e = get_or_from_slice_get es j e e there.1 in
    let first : drop j es ≡ e ∷ drop (suc j) es = drop-cons es j e within ∙ ap (λ z. z ∷ drop (suc j) es) is in
    let before : take (suc j) es ≡ take j es ++ e ∷ [] = take-suc es j e within ∙ ap (λ z. take j es ++ z ∷ []) is in
    let many : length (take j es) ≡ j = length-take-le j es (let le : j ≤ length es = omega (arith, within) in le) in
    ap (λ z. items_after (take j es) z) first
    ∙ ap (λ n. (paired_all 0 (take j es) n f ++ single n f) ++ items_after (take j es ++ e ∷ []) (drop (suc j) es)) many
    ∙ ap (λ z. items_at es j f ++ items_after z (drop (suc j) es)) (sym before)

-- what was found before the place, with the items of the formula there
pub items_next : (es : List Entry) (j : ℕ) (f : FreeFormula) (old new : List Item) → Holds es j f → new ≡ old ++ items_at es j f
    → new ++ items_of (j + 1) es ≡ old ++ items_of j es
items_next es j f old new there is =
    let next : j + 1 ≡ suc j = omega arith in
    ap (λ z. z ++ items_of (j + 1) es) is ∙ ap (λ n. (old ++ items_at es j f) ++ items_of n es) next
    ∙ append_assoc old (items_at es j f) (items_of (suc j) es) ∙ ap (λ z. old ++ z) (sym (items_step es j f there))

none_left : (n : ℕ) (es : List Entry) → length es ≤ n → items_of n es ≡ []
none_left n es le = ap (λ z. items_after (take n es) z) (past_end n es le)

-- all was found
pub items_end : (from n : ℕ) (es : List Entry) (out : List Item) → length es ≤ n → out ++ items_of n es ≡ items_of from es → out ≡ items_of from es
items_end from n es out le is = sym (append-nil out) ∙ ap (λ z. out ++ z) (sym (none_left n es le)) ∙ is

-- what was found before the place, with the items of a literal there
pub items_with_literal : (es : List Entry) (j : ℕ) (negated : Bool) (p : ℕ) (us : FreeTerms) (f : FreeFormula) (os : List Occurrence)
    (old new : List Item) → Holds es j f → f ≡ literal_of negated p us → os ≡ occurrences (take j es)
    → new ≡ old ++ pairs_of negated j (places_of (opposite negated) p os) → new ++ items_of (j + 1) es ≡ old ++ items_of j es
items_with_literal es j negated p us f os old new there is held found =
    items_next es j f old new there
    (found ∙ ap (λ z. old ++ z)
    (ap (λ z. pairs_of negated j (places_of (opposite negated) p z)) held ∙ sym (items_of_literal es j negated p us) ∙ ap (λ g. items_at es j g) (sym is)))

-- the literals before a place at or past the end are all
pub all_held : (es : List Entry) (n : ℕ) (os : List Occurrence) → length es ≤ n → os ≡ occurrences (take n es) → os ≡ occurrences es
all_held es n os le is = is ∙ ap (λ z. occurrences z) (take_all n es le)

-- before the first place there is none
pub none_held : (es : List Entry) (os : List Occurrence) → os ≡ [] → os ≡ occurrences (take 0 es)
none_held es os none = none

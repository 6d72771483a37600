-- The tests of items say what the definitions do.
use Rattle.std.proofs.Common.{◌≡◌, ℕ, Bool, true, false, ◌&&◌, ◌↔◌, eqb, List, [], ◌∷◌, ◌<◌, suc, zero, length, slice_get, Option, Some, None, refl, ap, sym, ◌∙◌, subst, arith, inl, inr}
use Rattle.std.proofs.lemmas.Bool.{false≢true, eqb-true, eq-eqb}
use Rattle.fol_core.specs.Syntax.{atom, not}
use Rattle.free_terms.specs.Free.{FreeTerms, FreeFormula}
use Rattle.unify.specs.Offers.{Offer, Entails, EquatesAll}
use Rattle.unify.specs.Tests.{equates_all}
use Rattle.unify.proofs.Decides.{equates_all-true}
use Rattle.branch_rules.specs.Branch.{Entry, entries}
use Rattle.tab_tree.specs.Items.{Item, pair, false_at, not_true, ArgumentsEqual, ClosesItem, ClosesSome}
use Rattle.tab_tree.specs.ClosingView.{ClosesAt}
use Rattle.tab_tree.specs.Segments.{Segments, top, items}
use Rattle.tab_tree.proofs.Entailing.{item_more}
use Rattle.round_offers.specs.ClosingTests.{makes_opposite, opposite_at, closes_item, closes_found, closes_at}

halves : (p q : Bool) → (p && q) ≡ true → (p ≡ true) × (q ≡ true)
halves true q e = (refl, e)
halves false q e = absurd (false≢true e)

both_true : (p q : Bool) → p ≡ true → q ≡ true → (p && q) ≡ true
both_true p q a b = ap (λ z. z && q) a ∙ b

-- an atom and the negation of another with the same predicate, which the offer makes opposite
abbrev Opposite : Offer → FreeFormula → FreeFormula → Type 0
Opposite s a b = (p : ℕ) × (us vs : FreeTerms) × (a ≡ atom p us) × (b ≡ not (atom p vs)) × EquatesAll s us vs

opposite : (s : Offer) (a b : FreeFormula) → makes_opposite s a b ≡ true → Opposite s a b
opposite s (atom p us) (not (atom q vs)) e =
    let h = halves (eqb p q) (equates_all s us vs) e in
    (p, us, vs, refl, ap (λ k. not (atom k vs)) (sym (eqb-true p q h.0)), (equates_all-true s us vs).0 h.1)
opposite s a b e = absurd (false≢true e)

made_opposite : (s : Offer) (a b : FreeFormula) → Opposite s a b → makes_opposite s a b ≡ true
made_opposite s a b h =
    ap (λ c. makes_opposite s c b) h.3 ∙ ap (λ c. makes_opposite s (atom h.0 h.1) c) h.4
    ∙ both_true (eqb h.0 h.0) (equates_all s h.1 h.2) (eq-eqb h.0 h.0 refl) ((equates_all-true s h.1 h.2).1 h.5)

equal_at : (s : Offer) (e f : Option Entry) → opposite_at s e f ≡ true ↔ ArgumentsEqual s e f
equal_at s None f = (λ h. absurd (false≢true h), λ h. absurd h)
equal_at s (Some e) None = (λ h. absurd (false≢true h), λ h. absurd h)
equal_at s (Some e) (Some f) = (opposite s e.formula f.formula, made_opposite s e.formula f.formula)

pub closes_item-true : (s : Offer) (es : List Entry) (item : Item) → closes_item s es item ≡ true ↔ ClosesItem s es item
closes_item-true s es (pair i j) = equal_at s (slice_get es i) (slice_get es j)
closes_item-true s es (false_at i) = (λ h. tt, λ h. refl)
closes_item-true s es (not_true i) = (λ h. tt, λ h. refl)

found_closes_more : (r s : Offer) (es : List Entry) (o : Option Item) → Entails r s → closes_found s es o ≡ true → closes_found r es o ≡ true
found_closes_more r s es None h c = c
found_closes_more r s es (Some item) h c = (closes_item-true r es item).1 (item_more r s es item h ((closes_item-true s es item).0 c))

pub closes_at-more : (r s : Offer) (o : Option Segments) (i : ℕ) → Entails r s → closes_at o i s ≡ true → closes_at o i r ≡ true
closes_at-more r s None i h c = c
closes_at-more r s (Some gs) i h c = found_closes_more r s (entries (top gs).branch) (slice_get (items (top gs)) i) h c

found_test : (s : Offer) (es : List Entry) (o : Option Item) → closes_found s es o ≡ true ↔ ((item : Item) × (o ≡ Some item) × ClosesItem s es item)
found_test s es None = (λ c. absurd (false≢true c), λ h. let no : ⊥ = cc (h.1) in absurd no)
found_test s es (Some item) = (
  λ c. (item, refl, (closes_item-true s es item).0 c),
  λ h. let same : h.0 ≡ item = cc (h.1) in (closes_item-true s es item).1 (subst (ClosesItem s es) same h.2),
)

pub closes_at-true : (s : Offer) (gs : Segments) (i : ℕ) → closes_at (Some gs) i s ≡ true ↔ ClosesAt s (top gs) i
closes_at-true s gs i = found_test s (entries (top gs).branch) (slice_get (items (top gs)) i)

-- an item of a list that is closed is one at some number, and the other way round
pub closed_by_number : (s : Offer) (es : List Entry) (xs : List Item) → ClosesSome s es xs → (i : ℕ) × (i < length xs) × (closes_found s es (slice_get xs i) ≡ true)
closed_by_number s es [] c = absurd c
closed_by_number s es (x ∷ xs) (inl c) = (0, omega arith, (closes_item-true s es x).1 c)
closed_by_number s es (x ∷ xs) (inr c) = let rest = closed_by_number s es xs c in (suc rest.0, omega (arith, rest.1), rest.2)

pub closed_of_number : (s : Offer) (es : List Entry) (xs : List Item) (i : ℕ) → closes_found s es (slice_get xs i) ≡ true → ClosesSome s es xs
closed_of_number s es [] i c = absurd (false≢true c)
closed_of_number s es (x ∷ xs) zero c = inl ((closes_item-true s es x).0 c)
closed_of_number s es (x ∷ xs) (suc i) c = inr (closed_of_number s es xs i c)

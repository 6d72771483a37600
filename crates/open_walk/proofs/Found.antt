-- What the tries of a segment's items come to.
use Rattle.std.proofs.Common.{◌≡◌, ◌<◌, ◌+◌, ℕ, zero, suc, refl, arith, below_more, List, [], ◌∷◌, length, Some, None, slice_get, sym, ◌∙◌, subst, inl, inr}
use Rattle.std.specs.Prelude.{◌↔◌}
use Rattle.free_terms.specs.Free.{FreeTerms}
use Rattle.free_terms.specs.View.{terms_of}
use Rattle.free_terms.specs.declared.term.FTerm.{FTerm}
use Rattle.unify.specs.Offers.{Offer, Entails, Unifies}
use Rattle.unify.proofs.Extend.{no_bindings}
use Rattle.unify.proofs.Parts.{same_count}
use Rattle.unify.proofs.Resolved.{count_terms}
use Rattle.branch_rules.specs.Branch.{Entry, entries}
use Rattle.tab_tree.specs.Arguments.{ItemHas}
use Rattle.tab_tree.specs.Items.{Item, ClosesItem, ClosesSome}
use Rattle.tab_tree.specs.Segments.{Segment, items}
use Rattle.tab_tree.proofs.ItemArguments.{alone_at, two_at}
use Rattle.open_walk.specs.Unifiability.{AreUnifiable, IsUnifiable}
use Rattle.open_walk.specs.Walk.{HasUnifiable}

-- ---- two lists
pub lengths_differ : (us vs : List FTerm) → (length us ≡ length vs → ⊥) → AreUnifiable (terms_of us) (terms_of vs) → ⊥
lengths_differ us vs n u = n (sym (count_terms us) ∙ same_count u.0 (terms_of us) (terms_of vs) u.2 ∙ count_terms vs)

pub unified : (given : Offer) (us vs : FreeTerms) (found : Offer) → Unifies given us vs (Some found) → AreUnifiable us vs
unified given us vs found m = (found, m.offer, m.equates)

pub not_unified : (given : Offer) (us vs : FreeTerms) → given ≡ [] → Unifies given us vs None → AreUnifiable us vs → ⊥
not_unified given us vs e none u = none u.0 u.1 (subst (Entails u.0) (sym e) tt) u.2

-- ---- one item
pub alone_unifiable : (g : Segment) (n : ℕ) → ItemHas g n None → IsUnifiable g n
alone_unifiable g n has = ([], no_bindings, alone_at [] g n has)

pub two_unifiable : (g : Segment) (n : ℕ) (us vs : FreeTerms) → ItemHas g n (Some (us, vs)) → AreUnifiable us vs ↔ IsUnifiable g n
two_unifiable g n us vs has =
    (λ u. (u.0, u.1, (two_at u.0 g n us vs has).0 u.2), λ u. (u.0, u.1, (two_at u.0 g n us vs has).1 u.2))

-- ---- all items
some_at : (s : Offer) (es : List Entry) (is : List Item) (n : ℕ) (item : Item) → slice_get is n ≡ Some item → ClosesItem s es item → ClosesSome s es is
some_at s es [] n item at c = let no : ⊥ = cc at in absurd no
some_at s es (i ∷ is) zero item at c = let same : i ≡ item = cc at in inl (subst (ClosesItem s es) (sym same) c)
some_at s es (i ∷ is) (suc n) item at c = inr (some_at s es is n item at c)

pub found_at : (g : Segment) (n : ℕ) → IsUnifiable g n → HasUnifiable g
found_at g n u = (u.0, u.1, some_at u.0 (entries g.branch) (items g) n u.2.0 u.2.1 u.2.2)

some_place : (s : Offer) (es : List Entry) (is : List Item) → ClosesSome s es is
    → (n : ℕ) × (n < length is) × ((item : Item) × (slice_get is n ≡ Some item) × ClosesItem s es item)
some_place s es [] c = absurd c
some_place s es (i ∷ is) (inl c) = (0, omega arith, (i, refl, c))
some_place s es (i ∷ is) (inr c) = let h = some_place s es is c in (suc h.0, omega (arith, h.1), h.2)

-- no offer equates one of the first items
abbrev pub NoneUnifiable : Segment → ℕ → Type 0
NoneUnifiable g n = (k : ℕ) → k < n → IsUnifiable g k → ⊥

pub none_further : (g : Segment) (n : ℕ) → NoneUnifiable g n → (IsUnifiable g n → ⊥) → NoneUnifiable g (n + 1)
none_further g n before not = below_more (λ k. IsUnifiable g k → ⊥) n before not

pub none_found : (g : Segment) (n : ℕ) → n ≡ length (items g) → NoneUnifiable g n → HasUnifiable g → ⊥
none_found g n all before u =
    let h = some_place u.0 (entries g.branch) (items g) u.2 in
    before h.0 (omega (arith, h.1, all)) (u.0, u.1, h.2)

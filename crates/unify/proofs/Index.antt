-- The index of a list of bindings finds what the first binding of a name gives.
use Rattle.std.proofs.Common.{◌≡◌, ◌≤◌, ℕ, zero, suc, Bool, true, false, List, [], ◌∷◌, ◌++◌, length, Option, Some, None, option_map, slice_get, refl, ap, sym, ◌∙◌, subst, arith, if◌then◌else◌, ◌⊎◌, inl, inr}
use Rattle.std.proofs.lemmas.Bool.{false≢true}
use Rattle.std.specs.HashMap.{get, Updates}
use Rattle.std.specs.Map.{lookup}
use Rattle.free_terms.specs.View.{name_of, term_of}
use Rattle.free_terms.specs.declared.term.Name.{Name}
use Rattle.free_terms.specs.declared.term.FTerm.{size-FTerm}
use Rattle.unify.specs.declared.bindings.Binding.{Binding}
use Rattle.unify.specs.Index.{Places, IsIndex, is_same, place_of}
use Rattle.unify.specs.Offers.{value_of}
use Rattle.unify.specs.View.{offer_of}
use Rattle.unify.specs.Weight.{weight}
use Rattle.unify.proofs.Acyclic.{tells}

some_is_none : {A : Type 0} (a : A) → Some a ≡ None → ⊥
some_is_none a e = cc

some_once : {A : Type 0} (a b : A) → Some a ≡ Some b → a ≡ b
some_once a b e = cc

shifted_none : (o : Option ℕ) → option_map suc o ≡ None → o ≡ None
shifted_none None e = refl
shifted_none (Some i) e = absurd (some_is_none _ e)

shifted_some : (o : Option ℕ) (i : ℕ) → option_map suc o ≡ Some i → (j : ℕ) × (o ≡ Some j) × (suc j ≡ i)
shifted_some None i e = absurd (some_is_none i (sym e))
shifted_some (Some j) i e = (j, refl, some_once _ _ e)

pub absent : (s : List Binding) (x : Name) → place_of s x ≡ None → value_of (offer_of s) (name_of x) ≡ None
absent [] x e = refl
absent (b ∷ s) x e = by_case (is_same b.name x) e (absent s x) where
  by_case : (q : Bool) → (if q then Some zero else option_map suc (place_of s x)) ≡ None
      → (place_of s x ≡ None → value_of (offer_of s) (name_of x) ≡ None)
      → (if q then Some (term_of b.term) else value_of (offer_of s) (name_of x)) ≡ None
  by_case true z later = absurd (some_is_none zero z)
  by_case false z later = later (shifted_none (place_of s x) z)

unbound : (s : List Binding) (x : Name) → value_of (offer_of s) (name_of x) ≡ None → place_of s x ≡ None
unbound [] x e = refl
unbound (b ∷ s) x e = by_case (is_same b.name x) e (unbound s x) where
  by_case : (q : Bool) → (if q then Some (term_of b.term) else value_of (offer_of s) (name_of x)) ≡ None
      → (value_of (offer_of s) (name_of x) ≡ None → place_of s x ≡ None)
      → (if q then Some zero else option_map suc (place_of s x)) ≡ None
  by_case true z later = absurd (some_is_none _ z)
  by_case false z later = ap (option_map suc) (later z)

-- the binding at a place of the list is the first one of the name
abbrev pub IsThere : List Binding → Name → ℕ → Type 0
IsThere s x i = (b : Binding) × (slice_get s i ≡ Some b) × (value_of (offer_of s) (name_of x) ≡ Some (term_of b.term)) × (size-FTerm b.term ≤ weight s)

pub present : (s : List Binding) (x : Name) (i : ℕ) → place_of s x ≡ Some i → IsThere s x i
present [] x i e = absurd (some_is_none i (sym e))
present (b ∷ s) x i e = by_case (is_same b.name x) refl e (present s x) where
  further : (j : ℕ) → is_same b.name x ≡ false → IsThere s x j → IsThere (b ∷ s) x (suc j)
  further j q p = (p.0, p.1, ap (λ z. if z then Some (term_of b.term) else value_of (offer_of s) (name_of x)) q ∙ p.2, omega (arith, p.3))

  by_case : (q : Bool) → is_same b.name x ≡ q → (if q then Some zero else option_map suc (place_of s x)) ≡ Some i
      → ((j : ℕ) → place_of s x ≡ Some j → IsThere s x j) → IsThere (b ∷ s) x i
  by_case true q z later =
      subst (IsThere (b ∷ s) x) (some_once zero i z)
      (b, refl, ap (λ w. if w then Some (term_of b.term) else value_of (offer_of s) (name_of x)) q, omega arith)
  by_case false q z later =
      let p = shifted_some (place_of s x) i z in
      subst (IsThere (b ∷ s) x) p.2 (further p.0 q (later p.0 p.1))

place_with : (s : List Binding) (b : Binding) (x : Name) (q : Bool) → is_same b.name x ≡ q → (q ≡ true → place_of s x ≡ None)
    → place_of (s ++ b ∷ []) x ≡ (if q then Some (length s) else place_of s x)
place_with [] b x q same none = ap (λ z. if z then Some zero else None) same
place_with (c ∷ s) b x q same none = by_case (is_same c.name x) q none (place_with s b x q same) where
  by_case : (p q : Bool) → (q ≡ true → (if p then Some zero else option_map suc (place_of s x)) ≡ None)
      → ((q ≡ true → place_of s x ≡ None) → place_of (s ++ b ∷ []) x ≡ (if q then Some (length s) else place_of s x))
      → (if p then Some zero else option_map suc (place_of (s ++ b ∷ []) x)) ≡ (if q then Some (suc (length s)) else (if p then Some zero else option_map suc (place_of s x)))
  by_case true true none later = absurd (some_is_none zero (none refl))
  by_case true false none later = refl
  by_case false true none later = ap (option_map suc) (later (λ e. shifted_none (place_of s x) (none refl)))
  by_case false false none later = ap (option_map suc) (later (λ e. shifted_none (place_of s x) (none e)))

pub index_with : (s : List Binding) (b : Binding) (places more : Places) → IsIndex s places → value_of (offer_of s) (name_of b.name) ≡ None
    → Updates is_same places more b.name (Some (length s)) → IsIndex (s ++ b ∷ []) more
index_with s b places more index none updates x =
    updates.0 x
    ∙ ap (λ z. if is_same b.name x then Some (length s) else z) (index x)
    ∙ sym (place_with s b x (is_same b.name x) refl (λ same. unbound s x (of_name same (tells (name_of b.name) (name_of x))))) where
      of_name : is_same b.name x ≡ true
          → ((is_same b.name x ≡ true) × (name_of b.name ≡ name_of x)) ⊎ ((is_same b.name x ≡ false) × (name_of b.name ≡ name_of x → ⊥))
          → value_of (offer_of s) (name_of x) ≡ None
      of_name same (inl p) = subst (λ y. value_of (offer_of s) y ≡ None) p.1 none
      of_name same (inr p) = absurd (false≢true (sym p.0 ∙ same))

-- what the map's place of a name has
pub found : (s : List Binding) (places : Places) (x : Name) (i : ℕ) (b : Binding) → IsIndex s places → get is_same places x ≡ Some i → slice_get s i ≡ Some b
    → (Some (term_of b.term) ≡ value_of (offer_of s) (name_of x)) × (size-FTerm b.term ≤ weight s)
found s places x i b index e at = by_place (present s x i (sym (index x) ∙ e)) where
  by_place : IsThere s x i → (Some (term_of b.term) ≡ value_of (offer_of s) (name_of x)) × (size-FTerm b.term ≤ weight s)
  by_place p =
      let same : p.0 ≡ b = some_once p.0 b (sym p.1 ∙ at) in
      (ap (λ c. Some (term_of c.term)) (sym same) ∙ sym p.2, subst (λ c. size-FTerm c.term ≤ weight s) same p.3)

pub not_found : (s : List Binding) (places : Places) (x : Name) → IsIndex s places → get is_same places x ≡ None → None ≡ value_of (offer_of s) (name_of x)
not_found s places x index e = sym (absent s x (sym (index x) ∙ e))

pub no_gap : (s : List Binding) (places : Places) (x : Name) (i : ℕ) → IsIndex s places → get is_same places x ≡ Some i → slice_get s i ≡ None → ⊥
no_gap s places x i index e at = some_is_none _ (sym (present s x i (sym (index x) ∙ e)).1 ∙ at)

pub index_of_copy : (s t : List Binding) (places more : Places) → IsIndex s places → t ≡ s → more.entries ≡ places.entries → IsIndex t more
index_of_copy s t places more index same entries =
    subst (λ z. IsIndex z more) (sym same) (λ x. ap (λ es. lookup (is_same x) es) entries ∙ index x)

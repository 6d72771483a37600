-- In an acyclic offer no chain of bindings is longer than the list, so that resolved terms stand still.
use Rattle.std.proofs.Common.{◌≡◌, ◌≢◌, ℕ, zero, suc, ◌≤◌, Bool, true, false, List, [], ◌∷◌, length, Option, Some, None, refl, ap, sym, ◌∙◌, subst, arith, ◌⊎◌, inl, inr, if◌then◌else◌, eqb, ◌&&◌}
use Rattle.std.proofs.lemmas.Bool.Decides.{eqb_tells}
use Rattle.free_terms.specs.Free.{Name, FreeTerm, FreeTerms, bound, metavar, skolem, app, no_terms, terms}
use Rattle.unify.specs.Offers.{Offer, IsOffer, Chain, link, links, OccursIn, OccursInSome, value_of, value_within, substituted_in, substitute, substitute_all, resolved, same_name}
pub use Rattle.unify.specs.Occurs.{Settled}

-- the names of a chain that begins at x, the last of which is bound
abbrev IsPath : Offer → Name → List Name → Type 0
IsPath s x [] = (t : FreeTerm) × (value_of s x ≡ Some t)
IsPath s x (y ∷ ys) = ((t : FreeTerm) × (value_of s x ≡ Some t) × OccursIn y t) × IsPath s y ys

abbrev Member : Name → List Name → Type 0
Member x [] = ⊥
Member x (y ∷ ys) = (x ≡ y) ⊎ Member x ys

-- all of the term's metavariables are settled, or a path begins at one of them
abbrev TermCase : ℕ → Offer → FreeTerm → Type 0
TermCase k s t = ((y : Name) → OccursIn y t → Settled k s y) ⊎ ((y : Name) × OccursIn y t × (ys : List Name) × (length ys ≡ k) × IsPath s y ys)

abbrev TermsCase : ℕ → Offer → FreeTerms → Type 0
TermsCase k s us = ((y : Name) → OccursInSome y us → Settled k s y) ⊎ ((y : Name) × OccursInSome y us × (ys : List Name) × (length ys ≡ k) × IsPath s y ys)

abbrev NameCase : ℕ → Offer → Name → Type 0
NameCase k s x = Settled k s x ⊎ ((ys : List Name) × (length ys ≡ k) × IsPath s x ys)

at_name : (k : ℕ) (s : Offer) (x : Name) → NameCase k s x → TermCase k s (metavar x)
at_name k s x (inl settled) = inl (λ y e. subst (λ z. Settled k s z) (sym e) settled)
at_name k s x (inr p) = inr (x, refl, p.0, p.1, p.2)

at_both : (k : ℕ) (s : Offer) (u : FreeTerm) (us : FreeTerms) → TermCase k s u → TermsCase k s us → TermsCase k s (terms u us)
at_both k s u us (inr p) rest = inr (p.0, inl p.1, p.2, p.3, p.4)
at_both k s u us (inl settled) (inr p) = inr (p.0, inr p.1, p.2, p.3, p.4)
at_both k s u us (inl settled) (inl all) = inl either where
  either : (y : Name) → OccursInSome y (terms u us) → Settled k s y
  either y (inl o) = settled y o
  either y (inr o) = all y o

mutual
  in_term : (k : ℕ) (s : Offer) → ((x : Name) → NameCase k s x) → (t : FreeTerm) → TermCase k s t
  in_term k s names (bound n) = inl (λ y o. absurd o)
  in_term k s names (metavar x) = at_name k s x (names x)
  in_term k s names (skolem x us) = in_terms k s names us
  in_term k s names (app f us) = in_terms k s names us

  in_terms : (k : ℕ) (s : Offer) → ((x : Name) → NameCase k s x) → (us : FreeTerms) → TermsCase k s us
  in_terms k s names no_terms = inl (λ y o. absurd o)
  in_terms k s names (terms u us) = at_both k s u us (in_term k s names u) (in_terms k s names us)

from_term : (k : ℕ) (s : Offer) (x : Name) (t : FreeTerm) → value_of s x ≡ Some t → TermCase k s t → NameCase (suc k) s x
from_term k s x t e (inl settled) = inl (inr (t, e, settled))
from_term k s x t e (inr p) = inr (p.0 ∷ p.2, omega (arith, p.3), ((t, e, p.1), p.4))

first_name : (s : Offer) (x : Name) (o : Option FreeTerm) → value_of s x ≡ o → NameCase 0 s x
first_name s x None e = inl e
first_name s x (Some t) e = inr ([], refl, (t, e))

next_name : (k : ℕ) (s : Offer) → ((x : Name) → NameCase k s x) → (x : Name) (o : Option FreeTerm) → value_of s x ≡ o → NameCase (suc k) s x
next_name k s names x None e = inl (inl e)
next_name k s names x (Some t) e = from_term k s x t e (in_term k s names t)

each_name : (k : ℕ) (s : Offer) (x : Name) → NameCase k s x
each_name zero s x = first_name s x (value_of s x) refl
each_name (suc k) s x = next_name k s (each_name k s) x (value_of s x) refl

-- a settled name's value stands still from k on
mutual
  still_term : (k m : ℕ) (s : Offer) → ((y : Name) → Settled k s y → value_within (suc m) s y ≡ value_within m s y)
      → (t : FreeTerm) → ((y : Name) → OccursIn y t → Settled k s y) → substitute (value_within (suc m) s) t ≡ substitute (value_within m s) t
  still_term k m s still (bound n) all = refl
  still_term k m s still (metavar x) all = still x (all x refl)
  still_term k m s still (skolem x us) all = ap (λ vs. skolem x vs) (still_terms k m s still us all)
  still_term k m s still (app f us) all = ap (λ vs. app f vs) (still_terms k m s still us all)

  still_terms : (k m : ℕ) (s : Offer) → ((y : Name) → Settled k s y → value_within (suc m) s y ≡ value_within m s y)
      → (us : FreeTerms) → ((y : Name) → OccursInSome y us → Settled k s y) → substitute_all (value_within (suc m) s) us ≡ substitute_all (value_within m s) us
  still_terms k m s still no_terms all = refl
  still_terms k m s still (terms u us) all =
      ap (λ v. terms v (substitute_all (value_within (suc m) s) us)) (still_term k m s still u (λ y o. all y (inl o)))
      ∙ ap (λ vs. terms (substitute (value_within m s) u) vs) (still_terms k m s still us (λ y o. all y (inr o)))

pub unbound_still : (m : ℕ) (s : Offer) (x : Name) → value_of s x ≡ None → value_within m s x ≡ metavar x
unbound_still zero s x e = refl
unbound_still (suc m) s x e = ap (λ o. substituted_in (value_within m s) x o) e

still : (k m : ℕ) (s : Offer) (x : Name) → k ≤ m → Settled k s x → value_within (suc m) s x ≡ value_within m s x
still zero m s x le settled = unbound_still (suc m) s x settled ∙ sym (unbound_still m s x settled)
still (suc k) m s x le (inl e) = unbound_still (suc m) s x e ∙ sym (unbound_still m s x e)
still (suc k) zero s x le (inr p) = let too_few : ⊥ = omega arith in absurd too_few
still (suc k) (suc m) s x le (inr p) =
    ap (λ o. substituted_in (value_within (suc m) s) x o) p.1
    ∙ still_term k m s (λ y. still k m s y (omega arith)) p.0 p.2
    ∙ sym (ap (λ o. substituted_in (value_within m s) x o) p.1)

-- distinct bound names are at most as many as the bindings
name_is : (x y : Name) → x.segment ≡ y.segment → x.count ≡ y.count → x ≡ y
name_is x y e f = λ i. record { segment = e i; count = f i }

pub tells : (x y : Name) → ((same_name x y ≡ true) × (x ≡ y)) ⊎ ((same_name x y ≡ false) × (x ≢ y))
tells x y = by_parts (eqb_tells x.segment y.segment) (eqb_tells x.count y.count) where
  by_parts : ((eqb x.segment y.segment ≡ true) × (x.segment ≡ y.segment)) ⊎ ((eqb x.segment y.segment ≡ false) × (x.segment ≢ y.segment))
      → ((eqb x.count y.count ≡ true) × (x.count ≡ y.count)) ⊎ ((eqb x.count y.count ≡ false) × (x.count ≢ y.count))
      → ((same_name x y ≡ true) × (x ≡ y)) ⊎ ((same_name x y ≡ false) × (x ≢ y))
  by_parts (inl a) (inl b) = inl (ap (λ p. p && eqb x.count y.count) a.0 ∙ b.0, name_is x y a.1 b.1)
  by_parts (inl a) (inr b) = inr (ap (λ p. p && eqb x.count y.count) a.0 ∙ b.0, λ e. b.1 (ap (λ z. z.count) e))
  by_parts (inr a) b = inr (ap (λ p. p && eqb x.count y.count) a.0, λ e. a.1 (ap (λ z. z.segment) e))

abbrev pub without : Name → Offer → Offer
without x [] = []
without x (b ∷ s) = if same_name b.name x then without x s else b ∷ without x s

shorter : (x : Name) (s : Offer) → length (without x s) ≤ length s
shorter x [] = omega arith
shorter x (b ∷ s) = either_way (same_name b.name x) (shorter x s) where
  either_way : (q : Bool) → length (without x s) ≤ length s → length (if q then without x s else b ∷ without x s) ≤ suc (length s)
  either_way true le = omega (arith, le)
  either_way false le = omega (arith, le)

none_is_some : {A : Type 0} (t : A) → None ≡ Some t → ⊥
none_is_some t e = cc

removed : (x : Name) (s : Offer) (t : FreeTerm) → value_of s x ≡ Some t → suc (length (without x s)) ≤ length s
removed x [] t e = absurd (none_is_some t e)
removed x (b ∷ s) t e = either_way (same_name b.name x) e (shorter x s) (removed x s t) where
  either_way : (q : Bool) → (if q then Some b.term else value_of s x) ≡ Some t → length (without x s) ≤ length s
      → (value_of s x ≡ Some t → suc (length (without x s)) ≤ length s)
      → suc (length (if q then without x s else b ∷ without x s)) ≤ suc (length s)
  either_way true e le later = omega (arith, le)
  either_way false e le later = omega (arith, later e)

pub kept : (x y : Name) (s : Offer) → y ≢ x → value_of (without x s) y ≡ value_of s y
kept x y [] apart = refl
kept x y (b ∷ s) apart = either_way (tells b.name x) (tells b.name y) (kept x y s apart) where
  either_way : ((same_name b.name x ≡ true) × (b.name ≡ x)) ⊎ ((same_name b.name x ≡ false) × (b.name ≢ x))
      → ((same_name b.name y ≡ true) × (b.name ≡ y)) ⊎ ((same_name b.name y ≡ false) × (b.name ≢ y))
      → value_of (without x s) y ≡ value_of s y → value_of (without x (b ∷ s)) y ≡ value_of (b ∷ s) y
  either_way (inl p) (inl q) later = absurd (apart (sym q.1 ∙ p.1))
  either_way (inl p) (inr q) later =
      ap (λ c. value_of (if c then without x s else b ∷ without x s) y) p.0 ∙ later
      ∙ sym (ap (λ c. if c then Some b.term else value_of s y) q.0)
  either_way (inr p) q later =
      ap (λ c. value_of (if c then without x s else b ∷ without x s) y) p.0
      ∙ ap (λ o. if same_name b.name y then Some b.term else o) later

abbrev AreApart : List Name → Type 0
AreApart [] = Unit {0}
AreApart (x ∷ xs) = (Member x xs → ⊥) × AreApart xs

fit : (xs : List Name) (s : Offer) → AreApart xs → ((y : Name) → Member y xs → (t : FreeTerm) × (value_of s y ≡ Some t)) → length xs ≤ length s
fit [] s apart bound_ = omega arith
fit (x ∷ xs) s apart bound_ =
    let rest : length xs ≤ length (without x s) = fit xs (without x s) apart.1
    (λ y m. ((bound_ y (inr m)).0, kept x y s (λ e. apart.0 (subst (λ z. Member z xs) e m)) ∙ (bound_ y (inr m)).1)) in
    omega (arith, rest, removed x s (bound_ x (inl refl)).0 (bound_ x (inl refl)).1)

chain_to : (s : Offer) (x z : Name) (ys : List Name) → IsPath s x ys → Member z ys → Chain s x z
chain_to s x z [] path m = absurd m
chain_to s x z (y ∷ ys) path (inl e) =
    subst (λ w. Chain s x w) (sym e) (link x y path.0.0 path.0.1 path.0.2)
chain_to s x z (y ∷ ys) path (inr m) = links x y z (link x y path.0.0 path.0.1 path.0.2) (chain_to s y z ys path.1 m)

bound_on : (s : Offer) (x z : Name) (ys : List Name) → IsPath s x ys → Member z (x ∷ ys) → (t : FreeTerm) × (value_of s z ≡ Some t)
bound_on s x z [] path (inl e) = (path.0, ap (λ w. value_of s w) e ∙ path.1)
bound_on s x z [] path (inr m) = absurd m
bound_on s x z (y ∷ ys) path (inl e) = (path.0.0, ap (λ w. value_of s w) e ∙ path.0.1)
bound_on s x z (y ∷ ys) path (inr m) = bound_on s y z ys path.1 m

apart_on : (s : Offer) → IsOffer s → (x : Name) (ys : List Name) → IsPath s x ys → AreApart (x ∷ ys)
apart_on s o x [] path = (λ m. m, tt)
apart_on s o x (y ∷ ys) path = (λ m. o.acyclic x (chain_to s x x (y ∷ ys) path m), apart_on s o y ys path.1)

pub all_settled : (s : Offer) → IsOffer s → (x : Name) → Settled (length s) s x
all_settled s o x = unless_long (each_name (length s) s x) where
  unless_long : NameCase (length s) s x → Settled (length s) s x
  unless_long (inl settled) = settled
  unless_long (inr p) =
      let too_many : ⊥ = omega (arith, fit (x ∷ p.0) s (apart_on s o x p.0 p.2) (λ y m. bound_on s x y p.0 p.2 m), p.1) in
      absurd too_many

-- A bound metavariable resolves to what its binding's term resolves to.
pub resolved_binding : (s : Offer) → IsOffer s → (x : Name) (t : FreeTerm) → value_of s x ≡ Some t → resolved s (metavar x) ≡ resolved s t
resolved_binding s o x t e =
    sym (still (length s) (length s) s x (omega arith) (all_settled s o x))
    ∙ ap (λ v. substituted_in (value_within (length s) s) x v) e

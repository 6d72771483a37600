-- What two terms come to, neither of which is a metavariable.
use Rattle.std.proofs.Common.{◌≡◌, ℕ, suc, ◌≤◌, Bool, true, false, Some, None, refl, ap, sym, ◌∙◌, subst, arith, inl, inr, ◌&&◌, eqb, ◌⊎◌}
use Rattle.std.proofs.lemmas.Bool.{false≢true}
use Rattle.std.proofs.lemmas.Bool.Decides.{eqb_tells}
use Rattle.free_terms.specs.Free.{Name, FreeTerm, FreeTerms, bound, metavar, skolem, app, no_terms, terms}
use Rattle.unify.specs.Offers.{Offer, Equates, EquatesAll, IsSubterm, IsSubtermOfSome, substitute_all, resolved, resolved_all, same_name}
use Rattle.unify.specs.Work.{Pairs, Agrees, size, size_all, load, count, zipped, zipped_if, parts, IsMetavar, Stands, AllStand}
use Rattle.unify.proofs.Acyclic.{tells}
use Rattle.unify.proofs.Subterms.{itself}

some_once : {A : Type 0} (a b : A) → Some a ≡ Some b → a ≡ b
some_once a b e = cc

none_is_some : {A : Type 0} (a : A) → None ≡ Some a → ⊥
none_is_some a e = cc

some_is_none : {A : Type 0} (a : A) → Some a ≡ None → ⊥
some_is_none a e = cc

-- two numbers or names that the test tells alike
both_true : (p q : Bool) → p ≡ true → q ≡ true → (p && q) ≡ true
both_true p q a b = ap (λ z. z && q) a ∙ b

eqb_self : (n : ℕ) → eqb n n ≡ true
eqb_self n = by_case (eqb_tells n n) where
  by_case : ((eqb n n ≡ true) × (n ≡ n)) ⊎ ((eqb n n ≡ false) × (n ≡ n → ⊥)) → eqb n n ≡ true
  by_case (inl p) = p.0
  by_case (inr p) = absurd (p.1 refl)

eqb_of : (m n : ℕ) → m ≡ n → eqb m n ≡ true
eqb_of m n e = subst (λ k. eqb m k ≡ true) e (eqb_self m)

name_of_true : (x y : Name) → same_name x y ≡ true → x ≡ y
name_of_true x y e = by_case (tells x y) where
  by_case : ((same_name x y ≡ true) × (x ≡ y)) ⊎ ((same_name x y ≡ false) × (x ≡ y → ⊥)) → x ≡ y
  by_case (inl p) = p.1
  by_case (inr p) = absurd (false≢true (sym p.0 ∙ e))

pub true_of_name : (x y : Name) → x ≡ y → same_name x y ≡ true
true_of_name x y e = by_case (tells x y) where
  by_case : ((same_name x y ≡ true) × (x ≡ y)) ⊎ ((same_name x y ≡ false) × (x ≡ y → ⊥)) → same_name x y ≡ true
  by_case (inl p) = p.0
  by_case (inr p) = absurd (p.1 e)

eqb_is : (m n : ℕ) → eqb m n ≡ true → m ≡ n
eqb_is m n e = by_case (eqb_tells m n) where
  by_case : ((eqb m n ≡ true) × (m ≡ n)) ⊎ ((eqb m n ≡ false) × (m ≡ n → ⊥)) → m ≡ n
  by_case (inl p) = p.1
  by_case (inr p) = absurd (false≢true (sym p.0 ∙ e))

-- zipped_if gives the pairs exactly where the test holds
gave : (q : Bool) (us vs : FreeTerms) (ps : Pairs) → zipped_if q us vs ≡ Some ps → (q ≡ true) × (zipped us vs ≡ ps)
gave true us vs ps e = (refl, some_once _ _ e)
gave false us vs ps e = absurd (none_is_some ps e)

refused : (q : Bool) (us vs : FreeTerms) → zipped_if q us vs ≡ None → q ≡ true → ⊥
refused true us vs e t = some_is_none _ e
refused false us vs e t = false≢true t

halves : (p q : Bool) → (p && q) ≡ true → (p ≡ true) × (q ≡ true)
halves true q e = (refl, e)
halves false q e = absurd (false≢true e)

pub count_of : (f : Name → FreeTerm) (us : FreeTerms) → count (substitute_all f us) ≡ count us
count_of f no_terms = refl
count_of f (terms u us) = omega (arith, count_of f us)

pub same_count : (r : Offer) (us vs : FreeTerms) → EquatesAll r us vs → count us ≡ count vs
same_count r us vs e = sym (count_of _ us) ∙ ap count e ∙ count_of _ vs

first_term : (u v : FreeTerm) (us vs : FreeTerms) → terms u us ≡ terms v vs → u ≡ v
first_term u v us vs e = cc

other_terms : (u v : FreeTerm) (us vs : FreeTerms) → terms u us ≡ terms v vs → us ≡ vs
other_terms u v us vs e = cc

-- two lists of one length are made one exactly where their terms are, place by place
pub zipped_agree : (r : Offer) (us vs : FreeTerms) → EquatesAll r us vs → Agrees r (zipped us vs)
zipped_agree r no_terms vs e = tt
zipped_agree r (terms u us) no_terms e = tt
zipped_agree r (terms u us) (terms v vs) e = (first_term _ _ _ _ e, zipped_agree r us vs (other_terms _ _ _ _ e))

pub zipped_equate : (r : Offer) (us vs : FreeTerms) → count us ≡ count vs → Agrees r (zipped us vs) → EquatesAll r us vs
zipped_equate r no_terms no_terms len a = refl
zipped_equate r no_terms (terms v vs) len a = let too_long : ⊥ = omega (arith, len) in absurd too_long
zipped_equate r (terms u us) no_terms len a = let too_long : ⊥ = omega (arith, len) in absurd too_long
zipped_equate r (terms u us) (terms v vs) len a =
    let rest : EquatesAll r us vs = zipped_equate r us vs (omega (arith, len)) a.1 in
    λ i. terms (a.0 i) (rest i)

pub zipped_load : (s : Offer) (us vs : FreeTerms) → load s (zipped us vs) ≤ size_all (resolved_all s us)
zipped_load s no_terms vs = omega arith
zipped_load s (terms u us) no_terms = omega arith
zipped_load s (terms u us) (terms v vs) = omega (arith, zipped_load s us vs)

zipped_stand : (s : Offer) (old : Pairs) (us vs : FreeTerms) → ((t : FreeTerm) → IsSubtermOfSome t us → Stands s old t)
    → ((t : FreeTerm) → IsSubtermOfSome t vs → Stands s old t) → AllStand s old (zipped us vs)
zipped_stand s old no_terms vs left right = tt
zipped_stand s old (terms u us) no_terms left right = tt
zipped_stand s old (terms u us) (terms v vs) left right =
    (left u (inl (itself u)), right v (inl (itself v)), zipped_stand s old us vs (λ t q. left t (inr q)) (λ t q. right t (inr q)))

-- what parts gives of two terms
pub parts_agree : (r : Offer) (t u : FreeTerm) (ps : Pairs) → parts t u ≡ Some ps → Equates r t u → Agrees r ps
parts_agree r (bound m) (bound n) ps e q = subst (Agrees r) (gave (eqb m n) no_terms no_terms ps e).1 tt
parts_agree r (skolem x us) (skolem y vs) ps e q =
    subst (Agrees r) (gave (same_name x y && eqb (count us) (count vs)) us vs ps e).1 (zipped_agree r us vs (under q)) where
      under : {us vs : FreeTerms} → skolem x us ≡ skolem y vs → us ≡ vs
      under z = cc
parts_agree r (app f us) (app g vs) ps e q =
    subst (Agrees r) (gave (eqb f g && eqb (count us) (count vs)) us vs ps e).1 (zipped_agree r us vs (under q)) where
      under : {us vs : FreeTerms} → app f us ≡ app g vs → us ≡ vs
      under z = cc
parts_agree r t u ps e q = absurd (none_is_some ps e)

pub parts_equate : (r : Offer) (t u : FreeTerm) (ps : Pairs) → parts t u ≡ Some ps → Agrees r ps → Equates r t u
parts_equate r (bound m) (bound n) ps e a = ap bound (eqb_is m n (gave (eqb m n) no_terms no_terms ps e).0)
parts_equate r (skolem x us) (skolem y vs) ps e a =
    let g = gave (same_name x y && eqb (count us) (count vs)) us vs ps e in
    let h = halves (same_name x y) (eqb (count us) (count vs)) g.0 in
    let name : x ≡ y = name_of_true x y h.0 in
    let args : EquatesAll r us vs = zipped_equate r us vs (eqb_is _ _ h.1) (subst (Agrees r) (sym g.1) a) in
    λ i. skolem (name i) (args i)
parts_equate r (app f us) (app g vs) ps e a =
    let w = gave (eqb f g && eqb (count us) (count vs)) us vs ps e in
    let h = halves (eqb f g) (eqb (count us) (count vs)) w.0 in
    let symbol : f ≡ g = eqb_is f g h.0 in
    let args : EquatesAll r us vs = zipped_equate r us vs (eqb_is _ _ h.1) (subst (Agrees r) (sym w.1) a) in
    λ i. app (symbol i) (args i)
parts_equate r t u ps e a = absurd (none_is_some ps e)

pub parts_load : (s : Offer) (t u : FreeTerm) (ps : Pairs) → parts t u ≡ Some ps → suc (load s ps) ≤ size (resolved s t)
parts_load s (bound m) (bound n) ps e = omega (arith, ap (load s) (gave (eqb m n) no_terms no_terms ps e).1)
parts_load s (skolem x us) (skolem y vs) ps e =
    omega (arith, zipped_load s us vs, ap (load s) (gave (same_name x y && eqb (count us) (count vs)) us vs ps e).1)
parts_load s (app f us) (app g vs) ps e =
    omega (arith, zipped_load s us vs, ap (load s) (gave (eqb f g && eqb (count us) (count vs)) us vs ps e).1)
parts_load s t u ps e = absurd (none_is_some ps e)

pub parts_stand : (s : Offer) (old : Pairs) (t u : FreeTerm) (ps : Pairs) → parts t u ≡ Some ps
    → ((v : FreeTerm) → IsSubterm v t → Stands s old v) → ((v : FreeTerm) → IsSubterm v u → Stands s old v) → AllStand s old ps
parts_stand s old (bound m) (bound n) ps e left right = subst (AllStand s old) (gave (eqb m n) no_terms no_terms ps e).1 tt
parts_stand s old (skolem x us) (skolem y vs) ps e left right =
    subst (AllStand s old) (gave (same_name x y && eqb (count us) (count vs)) us vs ps e).1
    (zipped_stand s old us vs (λ v q. left v (inr q)) (λ v q. right v (inr q)))
parts_stand s old (app f us) (app g vs) ps e left right =
    subst (AllStand s old) (gave (eqb f g && eqb (count us) (count vs)) us vs ps e).1
    (zipped_stand s old us vs (λ v q. left v (inr q)) (λ v q. right v (inr q)))
parts_stand s old t u ps e left right = absurd (none_is_some ps e)

-- Two terms without parts, neither of which is a metavariable, are never made one.
pub parts_clash : (r : Offer) (t u : FreeTerm) → (IsMetavar t → ⊥) → (IsMetavar u → ⊥) → parts t u ≡ None → Equates r t u → ⊥
parts_clash r (metavar x) u a b e q = a tt
parts_clash r t (metavar y) a b e q = b tt
parts_clash r (bound m) (bound n) a b e q = refused (eqb m n) no_terms no_terms e (eqb_of m n (number q)) where
  number : bound m ≡ bound n → m ≡ n
  number z = cc
parts_clash r (skolem x us) (skolem y vs) a b e q =
    refused (same_name x y && eqb (count us) (count vs)) us vs e
    (both_true _ _ (true_of_name x y (name q)) (eqb_of _ _ (same_count r us vs (under q)))) where
      name : {us vs : FreeTerms} → skolem x us ≡ skolem y vs → x ≡ y
      name z = cc

      under : {us vs : FreeTerms} → skolem x us ≡ skolem y vs → us ≡ vs
      under z = cc
parts_clash r (app f us) (app g vs) a b e q =
    refused (eqb f g && eqb (count us) (count vs)) us vs e
    (both_true _ _ (eqb_of f g (symbol q)) (eqb_of _ _ (same_count r us vs (under q)))) where
      symbol : {us vs : FreeTerms} → app f us ≡ app g vs → f ≡ g
      symbol z = cc

      under : {us vs : FreeTerms} → app f us ≡ app g vs → us ≡ vs
      under z = cc
parts_clash r (bound m) (skolem y vs) a b e q = apart q where
  apart : {ws : FreeTerms} → bound m ≡ skolem y ws → ⊥
  apart z = cc
parts_clash r (bound m) (app g vs) a b e q = apart q where
  apart : {ws : FreeTerms} → bound m ≡ app g ws → ⊥
  apart z = cc
parts_clash r (skolem x us) (bound n) a b e q = apart q where
  apart : {ws : FreeTerms} → skolem x ws ≡ bound n → ⊥
  apart z = cc
parts_clash r (skolem x us) (app g vs) a b e q = apart q where
  apart : {ws zs : FreeTerms} → skolem x ws ≡ app g zs → ⊥
  apart z = cc
parts_clash r (app f us) (bound n) a b e q = apart q where
  apart : {ws : FreeTerms} → app f ws ≡ bound n → ⊥
  apart z = cc
parts_clash r (app f us) (skolem y vs) a b e q = apart q where
  apart : {ws zs : FreeTerms} → app f ws ≡ skolem y zs → ⊥
  apart z = cc

-- The values of metavariables under an offer of the round: what they are built of, and which parameters stand in them.
use Rattle.std.proofs.Common.{◌≡◌, ℕ, zero, suc, ◌+◌, ◌≤◌, Bool, true, false, ◌||◌, eqb, if◌then◌else◌, List, [], ◌∷◌, map, length, Some, None, slice_get, refl, ap, sym, ◌∙◌, subst, arith, ◌⊎◌, inl, inr, ◌≢◌}
use Rattle.std.proofs.lemmas.Bool.{false≢true}
use Rattle.std.proofs.lemmas.Bool.Decides.{eqb_tells}
use Rattle.fol_core.specs.Syntax.{param_in_term, param_in_terms}
use Rattle.fol_core.specs.Symbol.{Symbol}
use Rattle.fol_core.specs.Spelling.{HasArity}
use Rattle.fol_core.specs.Spelling as spelling
use Rattle.free_terms.specs.Free.{Name, FreeTerm, FreeTerms, bound, metavar, skolem, app, no_terms, terms, terms_of_list}
use Rattle.unify.specs.Offers.{Offer, IsOffer, OccursIn, OccursInSome, value_of, same_name, resolved, resolved_all}
use Rattle.unify.specs.Work.{size, size_all, count}
use Rattle.unify.proofs.Acyclic.{Settled, all_settled, resolved_binding, unbound_still, tells}
use Rattle.branch_rules.specs.Branch.{Branch}
use Rattle.tab_tree.specs.Tableau.{Tableau}
use Rattle.tab_tree.specs.Round.{Introduces, IsTermOf, AreTermsOf, IsOfRound}
use Rattle.translation.specs.Translation.{parameter_of, closed_of, closed_all, term_under}
use Rattle.translation.proofs.Built.{IsBuiltTerm, AreBuiltTerms}

abbrev pub IsName : Name → List Name → Type 0
IsName x [] = ⊥
IsName x (y ∷ ys) = (x ≡ y) ⊎ IsName x ys

-- Parameters of Skolem symbols

none_or_later : (n : ℕ) (ys : List Name) (x : Name) → (parameter_of n ys x ≡ 0) ⊎ (suc n ≤ parameter_of n ys x)
none_or_later n [] x = inl refl
none_or_later n (y ∷ ys) x = by_test (same_name y x) (none_or_later (suc n) ys x) where
  by_test : (q : Bool) → (parameter_of (suc n) ys x ≡ 0) ⊎ (suc (suc n) ≤ parameter_of (suc n) ys x)
      → ((if q then suc n else parameter_of (suc n) ys x) ≡ 0) ⊎ (suc n ≤ (if q then suc n else parameter_of (suc n) ys x))
  by_test true later = inr (omega arith)
  by_test false (inl e) = inl e
  by_test false (inr le) = inr (omega (arith, le))

pub few_parameters : (n : ℕ) (ys : List Name) (x : Name) → parameter_of n ys x ≤ n + length ys
few_parameters n [] x = omega arith
few_parameters n (y ∷ ys) x = by_test (same_name y x) (few_parameters (suc n) ys x) where
  by_test : (q : Bool) → parameter_of (suc n) ys x ≤ suc n + length ys → (if q then suc n else parameter_of (suc n) ys x) ≤ n + suc (length ys)
  by_test true le = omega arith
  by_test false le = omega (arith, le)

pub has_parameter : (n : ℕ) (ys : List Name) (x : Name) → IsName x ys → suc n ≤ parameter_of n ys x
has_parameter n [] x m = absurd m
has_parameter n (y ∷ ys) x m = by_test (tells y x) m (has_parameter (suc n) ys x) where
  by_test : ((same_name y x ≡ true) × (y ≡ x)) ⊎ ((same_name y x ≡ false) × (y ≢ x)) → (x ≡ y) ⊎ IsName x ys
      → (IsName x ys → suc (suc n) ≤ parameter_of (suc n) ys x)
      → suc n ≤ (if same_name y x then suc n else parameter_of (suc n) ys x)
  by_test (inl e) m later = subst (λ q. suc n ≤ (if q then suc n else parameter_of (suc n) ys x)) (sym e.0) (omega arith)
  by_test (inr e) (inl same) later = absurd (e.1 (sym same))
  by_test (inr e) (inr m) later =
      subst (λ q. suc n ≤ (if q then suc n else parameter_of (suc n) ys x)) (sym e.0) (omega (arith, later m))

-- a parameter other than 0 stands for one symbol
pub one_symbol : (n : ℕ) (ys : List Name) (x y : Name) → parameter_of n ys x ≡ parameter_of n ys y → suc zero ≤ parameter_of n ys x → x ≡ y
one_symbol n [] x y e pos = let no_place : ⊥ = omega (arith, pos) in absurd no_place
one_symbol n (z ∷ ys) x y e pos = by_test (tells z x) (tells z y) e pos (one_symbol (suc n) ys x y) where
  at : Bool → Name → ℕ
  at q w = if q then suc n else parameter_of (suc n) ys w

  by_test : ((same_name z x ≡ true) × (z ≡ x)) ⊎ ((same_name z x ≡ false) × (z ≢ x)) → ((same_name z y ≡ true) × (z ≡ y)) ⊎ ((same_name z y ≡ false) × (z ≢ y))
      → (if same_name z x then suc n else parameter_of (suc n) ys x) ≡ (if same_name z y then suc n else parameter_of (suc n) ys y)
      → suc zero ≤ (if same_name z x then suc n else parameter_of (suc n) ys x)
      → (parameter_of (suc n) ys x ≡ parameter_of (suc n) ys y → suc zero ≤ parameter_of (suc n) ys x → x ≡ y) → x ≡ y
  by_test (inl p) (inl q) e pos later = sym p.1 ∙ q.1
  by_test (inl p) (inr q) e pos later = absurd (too_soon (none_or_later (suc n) ys y)) where
    first : suc n ≡ parameter_of (suc n) ys y
    first = sym (ap (λ c. at c x) p.0) ∙ e ∙ ap (λ c. at c y) q.0

    too_soon : (parameter_of (suc n) ys y ≡ 0) ⊎ (suc (suc n) ≤ parameter_of (suc n) ys y) → ⊥
    too_soon (inl none) = omega (arith, first, none)
    too_soon (inr le) = omega (arith, first, le)
  by_test (inr p) (inl q) e pos later = absurd (too_soon (none_or_later (suc n) ys x)) where
    first : parameter_of (suc n) ys x ≡ suc n
    first = sym (ap (λ c. at c x) p.0) ∙ e ∙ ap (λ c. at c y) q.0

    too_soon : (parameter_of (suc n) ys x ≡ 0) ⊎ (suc (suc n) ≤ parameter_of (suc n) ys x) → ⊥
    too_soon (inl none) = omega (arith, first, none)
    too_soon (inr le) = omega (arith, first, le)
  by_test (inr p) (inr q) e pos later =
      later (sym (ap (λ c. at c x) p.0) ∙ e ∙ ap (λ c. at c y) q.0) (subst (λ m. suc zero ≤ m) (ap (λ c. at c x) p.0) pos)

none_is_some : {A : Type 0} (a : A) → None ≡ Some a → ⊥
none_is_some a e = cc

some_once : {A : Type 0} (a b : A) → Some a ≡ Some b → a ≡ b
some_once a b e = cc

-- the terms of an offer of the round are terms of the round
pub round_term : (fs : List Symbol) (b0 : Branch) (t : Tableau) (s : Offer) (x : Name) (u : FreeTerm) → IsOfRound fs b0 t s → value_of s x ≡ Some u → IsTermOf fs b0 t u
round_term fs b0 t [] x u r e = absurd (none_is_some u e)
round_term fs b0 t (b ∷ s) x u r e = by_test (same_name b.name x) e (round_term fs b0 t s x u r.1) where
  by_test : (q : Bool) → (if q then Some b.term else value_of s x) ≡ Some u → (value_of s x ≡ Some u → IsTermOf fs b0 t u) → IsTermOf fs b0 t u
  by_test true e later = subst (IsTermOf fs b0 t) (some_once b.term u e) r.0
  by_test false e later = later e

-- One offer of the round, and the parameters of the symbols ys.
module _ (fs : List Symbol) (b0 : Branch) (t : Tableau) (s : Offer) (ys : List Name) (offer : IsOffer s) (round : IsOfRound fs b0 t s) where
  abbrev IsFew : ℕ → Type 0
  IsFew q = q ≤ length ys

  grounded_count : (us : FreeTerms) → count us ≡ spelling.count (closed_all ys (resolved_all s us))
  grounded_count no_terms = refl
  grounded_count (terms u us) = ap suc (grounded_count us)

  mutual
    built_term : (u : FreeTerm) → IsTermOf fs b0 t u → ((y : Name) → OccursIn y u → IsBuiltTerm fs IsFew 0 (term_under s ys (metavar y)))
        → IsBuiltTerm fs IsFew 0 (term_under s ys u)
    built_term (bound n) r values = absurd r
    built_term (metavar x) r values = values x refl
    built_term (skolem x us) r values = omega (arith, few_parameters 0 ys x)
    built_term (app f us) r values = (subst (λ m. HasArity (slice_get fs f) m) (grounded_count us) r.0, built_terms us r.1 values)

    built_terms : (us : FreeTerms) → AreTermsOf fs b0 t us → ((y : Name) → OccursInSome y us → IsBuiltTerm fs IsFew 0 (term_under s ys (metavar y)))
        → AreBuiltTerms fs IsFew 0 (closed_all ys (resolved_all s us))
    built_terms no_terms r values = tt
    built_terms (terms u us) r values = (built_term u r.0 (λ y o. values y (inl o)), built_terms us r.1 (λ y o. values y (inr o)))

  unbound_built : (x : Name) → value_of s x ≡ None → IsBuiltTerm fs IsFew 0 (term_under s ys (metavar x))
  unbound_built x e = subst (λ u. IsBuiltTerm fs IsFew 0 (closed_of ys u)) (sym (unbound_still (length s) s x e)) (omega arith)

  built_settled : (k : ℕ) (x : Name) → Settled k s x → IsBuiltTerm fs IsFew 0 (term_under s ys (metavar x))
  built_settled zero x e = unbound_built x e
  built_settled (suc k) x (inl e) = unbound_built x e
  built_settled (suc k) x (inr p) =
      subst (λ u. IsBuiltTerm fs IsFew 0 (closed_of ys u)) (sym (resolved_binding s offer x p.0 p.1))
      (built_term p.0 (round_term fs b0 t s x p.0 round p.1) (λ y o. built_settled k y (p.2 y o)))

  -- a metavariable's value is a closed term over the problem's function symbols
  pub built_value : (x : Name) → IsBuiltTerm fs IsFew 0 (term_under s ys (metavar x))
  built_value x = built_settled (length s) x (all_settled s offer x)

-- the Skolem symbol stands at the head of a part of the term, and not only among a Skolem term's arguments
abbrev mutual
  pub Holds : Name → FreeTerm → Type 0
  Holds x (bound n) = ⊥
  Holds x (metavar y) = ⊥
  Holds x (skolem y us) = x ≡ y
  Holds x (app f us) = SomeHolds x us

  pub SomeHolds : Name → FreeTerms → Type 0
  SomeHolds x no_terms = ⊥
  SomeHolds x (terms u us) = Holds x u ⊎ SomeHolds x us

-- the parameter of a symbol stands only where the symbol does
module _ (ys : List Name) (x : Name) (pos : suc zero ≤ parameter_of 0 ys x) where
  mutual
    pub held : (u : FreeTerm) → param_in_term (parameter_of 0 ys x) (closed_of ys u) ≡ true → Holds x u
    held (bound n) e = absurd (false≢true e)
    held (metavar y) e = by_test (eqb_tells 0 (parameter_of 0 ys x)) where
      by_test : ((eqb 0 (parameter_of 0 ys x) ≡ true) × (0 ≡ parameter_of 0 ys x)) ⊎ ((eqb 0 (parameter_of 0 ys x) ≡ false) × (0 ≢ parameter_of 0 ys x)) → ⊥
      by_test (inl p) = omega (arith, pos, p.1)
      by_test (inr p) = false≢true (sym p.0 ∙ e)
    held (skolem y us) e = by_test (eqb_tells (parameter_of 0 ys y) (parameter_of 0 ys x)) where
      by_test : ((eqb (parameter_of 0 ys y) (parameter_of 0 ys x) ≡ true) × (parameter_of 0 ys y ≡ parameter_of 0 ys x))
          ⊎ ((eqb (parameter_of 0 ys y) (parameter_of 0 ys x) ≡ false) × (parameter_of 0 ys y ≢ parameter_of 0 ys x)) → x ≡ y
      by_test (inl p) = one_symbol 0 ys x y (sym p.1) pos
      by_test (inr p) = absurd (false≢true (sym p.0 ∙ e))
    held (app f us) e = some_held us e

    pub some_held : (us : FreeTerms) → param_in_terms (parameter_of 0 ys x) (closed_all ys us) ≡ true → SomeHolds x us
    some_held no_terms e = absurd (false≢true e)
    some_held (terms u us) e = by_test (param_in_term (parameter_of 0 ys x) (closed_of ys u)) refl e (held u) (some_held us) where
      by_test : (q : Bool) → param_in_term (parameter_of 0 ys x) (closed_of ys u) ≡ q → (q || param_in_terms (parameter_of 0 ys x) (closed_all ys us)) ≡ true
          → (param_in_term (parameter_of 0 ys x) (closed_of ys u) ≡ true → Holds x u)
          → (param_in_terms (parameter_of 0 ys x) (closed_all ys us) ≡ true → SomeHolds x us) → Holds x u ⊎ SomeHolds x us
      by_test true at e in_first in_rest = inl (in_first at)
      by_test false at e in_first in_rest = inr (in_rest e)

-- Where the symbol has one list of arguments in the round, a value in which it stands is no smaller than its term.
module _ (fs : List Symbol) (b0 : Branch) (t : Tableau) (s : Offer) (offer : IsOffer s) (round : IsOfRound fs b0 t s) (x : Name) (args : FreeTerms)
    (only : (us : FreeTerms) → Introduces b0 t (skolem x us) → us ≡ args) where
  abbrev IsLarge : FreeTerm → Type 0
  IsLarge u = Holds x (resolved s u) → size (resolved s (skolem x args)) ≤ size (resolved s u)

  mutual
    large_term : (u : FreeTerm) → IsTermOf fs b0 t u → ((y : Name) → OccursIn y u → IsLarge (metavar y)) → IsLarge u
    large_term (bound n) r values h = absurd h
    large_term (metavar y) r values h = values y refl h
    large_term (skolem y us) r values h =
        let same : us ≡ args = only us (subst (λ z. Introduces b0 t (skolem z us)) (sym h) r) in
        omega (arith, ap (λ vs. size_all (resolved_all s vs)) same)
    large_term (app f us) r values h = omega (arith, large_terms us r.1 values h)

    large_terms : (us : FreeTerms) → AreTermsOf fs b0 t us → ((y : Name) → OccursInSome y us → IsLarge (metavar y))
        → SomeHolds x (resolved_all s us) → size (resolved s (skolem x args)) ≤ size_all (resolved_all s us)
    large_terms no_terms r values h = absurd h
    large_terms (terms u us) r values (inl h) = omega (arith, large_term u r.0 (λ y o. values y (inl o)) h)
    large_terms (terms u us) r values (inr h) = omega (arith, large_terms us r.1 (λ y o. values y (inr o)) h)

  unbound_large : (y : Name) → value_of s y ≡ None → IsLarge (metavar y)
  unbound_large y e h = absurd (subst (Holds x) (unbound_still (length s) s y e) h)

  large_settled : (k : ℕ) (y : Name) → Settled k s y → IsLarge (metavar y)
  large_settled zero y e = unbound_large y e
  large_settled (suc k) y (inl e) = unbound_large y e
  large_settled (suc k) y (inr p) =
      subst (λ u. Holds x u → size (resolved s (skolem x args)) ≤ size u) (sym (resolved_binding s offer y p.0 p.1))
      (large_term p.0 (round_term fs b0 t s y p.0 round p.1) (λ z o. large_settled k z (p.2 z o)))

  large_value : (y : Name) → IsLarge (metavar y)
  large_value y = large_settled (length s) y (all_settled s offer y)

  -- so it stands in the value of none of its arguments
  pub in_no_argument : (xs : List Name) → args ≡ terms_of_list (map metavar xs) → (y : Name) → IsName y xs → Holds x (resolved s (metavar y)) → ⊥
  in_no_argument xs e y m h = omega (arith, large_value y h, argument xs m, ap (λ us. size_all (resolved_all s us)) e) where
    argument : (xs : List Name) → IsName y xs → size (resolved s (metavar y)) ≤ size_all (resolved_all s (terms_of_list (map metavar xs)))
    argument [] m = absurd m
    argument (z ∷ zs) (inl same) = omega (arith, ap (λ w. size (resolved s (metavar w))) same)
    argument (z ∷ zs) (inr m) = omega (arith, argument zs m)

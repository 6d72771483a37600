-- Formulas of the tableau made closed formulas of the calculus: the tables of both, and instances, agree.
use Rattle.std.proofs.Common.{◌≡◌, ℕ, suc, ◌-◌, ◌<◌, ◌≤◌, Bool, true, false, eqb, leb, if◌then◌else◌, List, [], ◌∷◌, map, length, Some, option_map, slice_get, refl, ap, ap₂, sym, ◌∙◌, arith, ◌⊎◌, inl, inr, ◌≢◌}
use Rattle.std.proofs.lemmas.Bool.Decides.{leb_tells, eqb_tells}
use Rattle.fol_core.specs.Syntax as plain
use Rattle.fol_core.specs.Syntax.{PlainTerm, PlainTerms, PlainFormula, FormulaOver, atom, verum, falsum, not, and, or, imp, iff, all, ex, map_atoms, open_term, open_terms, free_in_term, free_in_terms}
use Rattle.gs3_rules.specs.Rules.{alpha_parts, beta_parts, delta_part, gamma_part}
use Rattle.free_terms.specs.Free.{Name, FreeTerm, FreeTerms, FreeFormula, bound, metavar, skolem, app, no_terms, terms, fill_term, fill_terms, filled_with, or_variable, instance}
use Rattle.unify.specs.Offers.{Offer, value_within, substitute, substitute_all, resolved_all}
use Rattle.translation.specs.Translation.{closed_of, closed_all, term_under}

-- g on the arguments of each atom, whatever stands around it
abbrev pub on_atoms : {A B : Type 0} → (A → B) → FormulaOver A → FormulaOver B
on_atoms g a = map_atoms (λ _ us. g us) 0 a

-- the closed formula that the tableau's formula stands for
abbrev pub under : Offer → List Name → FreeFormula → PlainFormula
under s ys a = on_atoms (λ us. closed_all ys (resolved_all s us)) a

module _ {A B : Type 0} (g : A → B) where
  pub anywhere : (j k : ℕ) (a : FormulaOver A) → map_atoms (λ _ us. g us) j a ≡ map_atoms (λ _ us. g us) k a
  anywhere j k (atom p us) = refl
  anywhere j k verum = refl
  anywhere j k falsum = refl
  anywhere j k (not a) = ap not (anywhere j k a)
  anywhere j k (and a b) = ap₂ and (anywhere j k a) (anywhere j k b)
  anywhere j k (or a b) = ap₂ or (anywhere j k a) (anywhere j k b)
  anywhere j k (imp a b) = ap₂ imp (anywhere j k a) (anywhere j k b)
  anywhere j k (iff a b) = ap₂ iff (anywhere j k a) (anywhere j k b)
  anywhere j k (all a) = ap all (anywhere (suc j) (suc k) a)
  anywhere j k (ex a) = ap ex (anywhere (suc j) (suc k) a)

  pub alpha_on_atoms : (a : FormulaOver A) → alpha_parts (on_atoms g a) ≡ option_map (map (on_atoms g)) (alpha_parts a)
  alpha_on_atoms (not (not a)) = refl
  alpha_on_atoms (and a b) = refl
  alpha_on_atoms (not (or a b)) = refl
  alpha_on_atoms (not (imp a b)) = refl
  alpha_on_atoms a = refl

  pub beta_on_atoms : (a : FormulaOver A)
      → beta_parts (on_atoms g a) ≡ option_map (λ s. (map (on_atoms g) s.0, map (on_atoms g) s.1)) (beta_parts a)
  beta_on_atoms (or a b) = refl
  beta_on_atoms (not (and a b)) = refl
  beta_on_atoms (imp a b) = refl
  beta_on_atoms (iff a b) = refl
  beta_on_atoms (not (iff a b)) = refl
  beta_on_atoms a = refl

-- where instances of bodies agree, so do those of quantified formulas
module _ {A B : Type 0} (g : A → B) (i : FormulaOver A → FormulaOver A) (j : FormulaOver B → FormulaOver B)
    (agree : (a : FormulaOver A) → j (map_atoms (λ _ us. g us) 1 a) ≡ on_atoms g (i a)) where
  pub delta_on_atoms : (a : FormulaOver A) → delta_part j (on_atoms g a) ≡ option_map (on_atoms g) (delta_part i a)
  delta_on_atoms (ex a) = ap Some (agree a)
  delta_on_atoms (not (all a)) = ap (λ b. Some (not b)) (agree a)
  delta_on_atoms a = refl

  pub gamma_on_atoms : (a : FormulaOver A) → gamma_part j (on_atoms g a) ≡ option_map (on_atoms g) (gamma_part i a)
  gamma_on_atoms (all a) = ap Some (agree a)
  gamma_on_atoms (not (ex a)) = ap (λ b. Some (not b)) (agree a)
  gamma_on_atoms a = refl

-- a term whose variables are all bound inside keeps its form
mutual
  pub open_closed : (k : ℕ) (t u : PlainTerm) → free_in_term u ≤ k → open_term k t u ≡ u
  open_closed k t (plain.bound n) le = by_test (eqb_tells n k) where
    by_test : ((eqb n k ≡ true) × (n ≡ k)) ⊎ ((eqb n k ≡ false) × (n ≢ k)) → (if eqb n k then t else plain.bound n) ≡ plain.bound n
    by_test (inl e) = let no_room : ⊥ = omega (arith, le, e.1) in absurd no_room
    by_test (inr e) = ap (λ c. if c then t else plain.bound n) e.0
  open_closed k t (plain.param n) le = refl
  open_closed k t (plain.app f us) le = ap (plain.app f) (open_all_closed k t us le)

  pub open_all_closed : (k : ℕ) (t : PlainTerm) (us : PlainTerms) → free_in_terms us ≤ k → open_terms k t us ≡ us
  open_all_closed k t plain.no_terms le = refl
  open_all_closed k t (plain.terms u us) le =
      ap₂ plain.terms (open_closed k t u (omega (arith, le))) (open_all_closed k t us (omega (arith, le)))

-- The values of the metavariables, each closed when it is made a term of the calculus.
module _ (ys : List Name) (v : Name → FreeTerm) (closed : (x : Name) → free_in_term (closed_of ys (v x)) ≡ 0) (t : FreeTerm) where
  filled_bound : (k n : ℕ) → closed_of ys (substitute v (filled_with (Some t ∷ []) k n)) ≡ (if eqb n k then closed_of ys (substitute v t) else plain.bound n)
  filled_bound k n = by_order (leb_tells (suc n) k) (eqb_tells n k) where
    inside : Bool → FreeTerm
    inside c = if c then bound n else or_variable n (slice_get (Some t ∷ []) (n - k))

    chosen : Bool → PlainTerm
    chosen c = if c then closed_of ys (substitute v t) else plain.bound n

    past : (m : ℕ) → or_variable n (slice_get (Some t ∷ []) (suc m)) ≡ bound n
    past m = refl

    value : FreeTerm → PlainTerm
    value u = closed_of ys (substitute v u)

    by_order : ((leb (suc n) k ≡ true) × (suc n ≤ k)) ⊎ ((leb (suc n) k ≡ false) × (k < suc n))
        → ((eqb n k ≡ true) × (n ≡ k)) ⊎ ((eqb n k ≡ false) × (n ≢ k))
        → closed_of ys (substitute v (filled_with (Some t ∷ []) k n)) ≡ (if eqb n k then closed_of ys (substitute v t) else plain.bound n)
    by_order (inl l) (inl e) = let no_order : ⊥ = omega (arith, l.1, e.1) in absurd no_order
    by_order (inl l) (inr e) = ap (λ c. value (inside c)) l.0 ∙ sym (ap chosen e.0)
    by_order (inr l) (inl e) =
        let at_first : n - k ≡ 0 = omega (arith, e.1) in
        ap (λ c. value (inside c)) l.0 ∙ ap (λ m. value (or_variable n (slice_get (Some t ∷ []) m))) at_first ∙ sym (ap chosen e.0)
    by_order (inr l) (inr e) =
        let later : n - k ≡ suc (n - k - 1) = omega (arith, l.1, e.1) in
        ap (λ c. value (inside c)) l.0 ∙ ap (λ m. value (or_variable n (slice_get (Some t ∷ []) m))) later ∙ sym (ap chosen e.0)

  mutual
    fill_grounded : (k : ℕ) (u : FreeTerm)
        → closed_of ys (substitute v (fill_term (Some t ∷ []) k u)) ≡ open_term k (closed_of ys (substitute v t)) (closed_of ys (substitute v u))
    fill_grounded k (bound n) = filled_bound k n
    fill_grounded k (metavar x) = sym (open_closed k (closed_of ys (substitute v t)) (closed_of ys (v x)) (omega (arith, closed x)))
    fill_grounded k (skolem x us) = refl
    fill_grounded k (app f us) = ap (plain.app f) (fill_all_grounded k us)

    fill_all_grounded : (k : ℕ) (us : FreeTerms)
        → closed_all ys (substitute_all v (fill_terms (Some t ∷ []) k us))
        ≡ open_terms k (closed_of ys (substitute v t)) (closed_all ys (substitute_all v us))
    fill_all_grounded k no_terms = refl
    fill_all_grounded k (terms u us) = ap₂ plain.terms (fill_grounded k u) (fill_all_grounded k us)

  -- the instance of the closed formula is the closed formula of the instance
  instance_grounded : (k : ℕ) (a : FreeFormula)
      → map_atoms (λ n us. open_terms n (closed_of ys (substitute v t)) us) k (map_atoms (λ _ us. closed_all ys (substitute_all v us)) (suc k) a)
      ≡ map_atoms (λ _ us. closed_all ys (substitute_all v us)) k (map_atoms (λ n us. fill_terms (Some t ∷ []) n us) k a)
  instance_grounded k (atom p us) = ap (atom p) (sym (fill_all_grounded k us))
  instance_grounded k verum = refl
  instance_grounded k falsum = refl
  instance_grounded k (not a) = ap not (instance_grounded k a)
  instance_grounded k (and a b) = ap₂ and (instance_grounded k a) (instance_grounded k b)
  instance_grounded k (or a b) = ap₂ or (instance_grounded k a) (instance_grounded k b)
  instance_grounded k (imp a b) = ap₂ imp (instance_grounded k a) (instance_grounded k b)
  instance_grounded k (iff a b) = ap₂ iff (instance_grounded k a) (instance_grounded k b)
  instance_grounded k (all a) = ap all (instance_grounded (suc k) a)
  instance_grounded k (ex a) = ap ex (instance_grounded (suc k) a)

-- the same under an offer
abbrev pub AreClosed : Offer → List Name → Type 0
AreClosed s ys = (x : Name) → free_in_term (term_under s ys (metavar x)) ≡ 0

pub instance_under : (s : Offer) (ys : List Name) → AreClosed s ys → (t : FreeTerm) (a : FreeFormula)
    → plain.instance (map_atoms (λ _ us. closed_all ys (resolved_all s us)) 1 a) (term_under s ys t) ≡ under s ys (instance a t)
instance_under s ys closed t a = instance_grounded ys (value_within (length s) s) closed t 0 a

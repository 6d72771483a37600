-- Terms and formulas over function symbols, metavariables and given Skolem terms.
use Rattle.std.proofs.Common.{◌≡◌, ℕ, suc, ◌-◌, ◌<◌, ◌≤◌, Bool, true, false, List, [], ◌∷◌, Option, Some, slice_get, refl, ap, sym, ◌∙◌, subst, arith, ◌⊎◌, inl, inr, leb, if◌then◌else◌}
use Rattle.std.proofs.lemmas.Bool.Decides.{leb_tells}
use Rattle.fol_core.specs.Symbol.{Symbol}
use Rattle.fol_core.specs.Symbol.{SymbolTable}
use Rattle.fol_core.specs.Spelling.{HasArity}
use Rattle.fol_core.specs.Spelling as spelling
use Rattle.fol_core.specs.Syntax as plain
use Rattle.fol_core.specs.Syntax.{FormulaOver, PlainFormula, map_atoms, atom, verum, falsum, not, and, or, imp, iff, all, ex}
use Rattle.fof_parse.specs.WellFormed.{IsWellFormedTerm, AreWellFormedTerms, IsWellFormed}
use Rattle.free_terms.specs.Free.{Name, FreeTerm, FreeTerms, FreeFormula, bound, metavar, skolem, app, no_terms, terms, lift_term, lift_terms, lift, fill_term, fill_terms, filled_with, or_variable, fill_at, instance}
use Rattle.unify.specs.Work.{count}
use Rattle.gs3_rules.specs.Rules.{alpha_parts, beta_parts, delta_part, gamma_part}
use Rattle.branch_rules.specs.Branch.{or_none, one_of, left_part, right_part}

-- where n quantifiers stand around
abbrev mutual
  pub Over : List Symbol → (FreeTerm → Type 0) → ℕ → FreeTerm → Type 0
  Over fs S n (bound k) = k < n
  Over fs S n (metavar x) = Unit {0}
  Over fs S n (skolem x us) = S (skolem x us)
  Over fs S n (app f us) = HasArity (slice_get fs f) (count us) × AllOver fs S n us

  pub AllOver : List Symbol → (FreeTerm → Type 0) → ℕ → FreeTerms → Type 0
  AllOver fs S n no_terms = Unit {0}
  AllOver fs S n (terms u us) = Over fs S n u × AllOver fs S n us

abbrev pub OverFormula : List Symbol → (FreeTerm → Type 0) → ℕ → FreeFormula → Type 0
OverFormula fs S n (atom p us) = AllOver fs S n us
OverFormula fs S n verum = Unit {0}
OverFormula fs S n falsum = Unit {0}
OverFormula fs S n (not a) = OverFormula fs S n a
OverFormula fs S n (and a b) = OverFormula fs S n a × OverFormula fs S n b
OverFormula fs S n (or a b) = OverFormula fs S n a × OverFormula fs S n b
OverFormula fs S n (imp a b) = OverFormula fs S n a × OverFormula fs S n b
OverFormula fs S n (iff a b) = OverFormula fs S n a × OverFormula fs S n b
OverFormula fs S n (all a) = OverFormula fs S (suc n) a
OverFormula fs S n (ex a) = OverFormula fs S (suc n) a

abbrev pub AllOverFormula : List Symbol → (FreeTerm → Type 0) → List FreeFormula → Type 0
AllOverFormula fs S [] = Unit {0}
AllOverFormula fs S (a ∷ as_) = OverFormula fs S 0 a × AllOverFormula fs S as_

abbrev pub AreMetavars : FreeTerms → Type 0
AreMetavars no_terms = Unit {0}
AreMetavars (terms (metavar x) us) = AreMetavars us
AreMetavars (terms u us) = ⊥

-- the arguments of the Skolem terms are metavariables
abbrev pub OnMetavars : (FreeTerm → Type 0) → Type 0
OnMetavars S = (x : Name) (us : FreeTerms) → S (skolem x us) → AreMetavars us

module _ (fs : List Symbol) (S : FreeTerm → Type 0) where
  pub lift_count : (us : plain.PlainTerms) → count (lift_terms us) ≡ spelling.count us
  lift_count plain.no_terms = refl
  lift_count (plain.terms u us) = ap suc (lift_count us)

  mutual
    lift_over : (n : ℕ) (t : plain.PlainTerm) → IsWellFormedTerm fs n t → Over fs S n (lift_term t)
    lift_over n (plain.bound k) h = h
    lift_over n (plain.param k) h = absurd h
    lift_over n (plain.app f us) h = (subst (HasArity (slice_get fs f)) (sym (lift_count us)) h.0, lift_all_over n us h.1)

    lift_all_over : (n : ℕ) (us : plain.PlainTerms) → AreWellFormedTerms fs n us → AllOver fs S n (lift_terms us)
    lift_all_over n plain.no_terms h = tt
    lift_all_over n (plain.terms u us) h = (lift_over n u h.0, lift_all_over n us h.1)

  lifted_over : (ps : List Symbol) (n k : ℕ) (a : PlainFormula) → IsWellFormed (record { functions = fs; predicates = ps }) n a
      → OverFormula fs S n (map_atoms (λ _ us. lift_terms us) k a)
  lifted_over ps n k (atom p us) h = lift_all_over n us h.1
  lifted_over ps n k verum h = tt
  lifted_over ps n k falsum h = tt
  lifted_over ps n k (not a) h = lifted_over ps n k a h
  lifted_over ps n k (and a b) h = (lifted_over ps n k a h.0, lifted_over ps n k b h.1)
  lifted_over ps n k (or a b) h = (lifted_over ps n k a h.0, lifted_over ps n k b h.1)
  lifted_over ps n k (imp a b) h = (lifted_over ps n k a h.0, lifted_over ps n k b h.1)
  lifted_over ps n k (iff a b) h = (lifted_over ps n k a h.0, lifted_over ps n k b h.1)
  lifted_over ps n k (all a) h = lifted_over ps (suc n) (suc k) a h
  lifted_over ps n k (ex a) h = lifted_over ps (suc n) (suc k) a h

  -- a closed formula over the symbols of a table is one of the tableau's
  pub start_over : (table : SymbolTable) → table.functions ≡ fs → (a : PlainFormula) → IsWellFormed table 0 a → OverFormula fs S 0 (lift a)
  start_over table e a h = lifted_over table.predicates 0 0 a (subst (λ gs. IsWellFormed (record { functions = gs; predicates = table.predicates }) 0 a) e h)

  mutual
    pub weaker : (n k : ℕ) → n ≤ k → (t : FreeTerm) → Over fs S n t → Over fs S k t
    weaker n k le (bound m) h = omega (arith, le, h)
    weaker n k le (metavar x) h = tt
    weaker n k le (skolem x us) h = h
    weaker n k le (app f us) h = (h.0, all_weaker n k le us h.1)

    all_weaker : (n k : ℕ) → n ≤ k → (us : FreeTerms) → AllOver fs S n us → AllOver fs S k us
    all_weaker n k le no_terms h = tt
    all_weaker n k le (terms u us) h = (weaker n k le u h.0, all_weaker n k le us h.1)

  -- filling in leaves lists of metavariables
  unfilled : (fills : List (Option FreeTerm)) (k : ℕ) (us : FreeTerms) → AreMetavars us → fill_terms fills k us ≡ us
  unfilled fills k no_terms h = refl
  unfilled fills k (terms (metavar x) us) h = ap (λ vs. terms (metavar x) vs) (unfilled fills k us h)
  unfilled fills k (terms (bound n) us) h = absurd h
  unfilled fills k (terms (skolem x vs) us) h = absurd h
  unfilled fills k (terms (app f vs) us) h = absurd h

  pub fill_count : (fills : List (Option FreeTerm)) (k : ℕ) (us : FreeTerms) → count (fill_terms fills k us) ≡ count us
  fill_count fills k no_terms = refl
  fill_count fills k (terms u us) = ap suc (fill_count fills k us)

  variable_over : (t : FreeTerm) (k n : ℕ) → Over fs S 0 t → n < suc k → Over fs S k (filled_with (Some t ∷ []) k n)
  variable_over t k n h lt = by_test (leb_tells (suc n) k) where
    by_test : ((leb (suc n) k ≡ true) × (suc n ≤ k)) ⊎ ((leb (suc n) k ≡ false) × (k < suc n)) → Over fs S k (filled_with (Some t ∷ []) k n)
    by_test (inl e) = subst (Over fs S k) (sym (ap (λ (q : Bool). if q then bound n else or_variable n (slice_get (Some t ∷ []) (n - k))) e.0)) e.1
    by_test (inr e) =
        let first : n - k ≡ 0 = omega (arith, lt, e.1) in
        subst (Over fs S k)
        (sym (ap (λ (q : Bool). if q then bound n else or_variable n (slice_get (Some t ∷ []) (n - k))) e.0
        ∙ ap (λ m. or_variable n (slice_get (Some t ∷ []) m)) first))
        (weaker 0 k (omega arith) t h)

  mutual
    fill_over : OnMetavars S → (t : FreeTerm) → Over fs S 0 t → (k : ℕ) (u : FreeTerm) → Over fs S (suc k) u → Over fs S k (fill_term (Some t ∷ []) k u)
    fill_over on t h k (bound n) o = variable_over t k n h o
    fill_over on t h k (metavar x) o = tt
    fill_over on t h k (skolem x us) o = subst (λ vs. S (skolem x vs)) (sym (unfilled (Some t ∷ []) k us (on x us o))) o
    fill_over on t h k (app f us) o =
        (subst (HasArity (slice_get fs f)) (sym (fill_count (Some t ∷ []) k us)) o.0, fill_all_over on t h k us o.1)

    fill_all_over : OnMetavars S → (t : FreeTerm) → Over fs S 0 t → (k : ℕ) (us : FreeTerms) → AllOver fs S (suc k) us → AllOver fs S k (fill_terms (Some t ∷ []) k us)
    fill_all_over on t h k no_terms o = tt
    fill_all_over on t h k (terms u us) o = (fill_over on t h k u o.0, fill_all_over on t h k us o.1)

  filled_over : OnMetavars S → (t : FreeTerm) → Over fs S 0 t → (k : ℕ) (a : FreeFormula) → OverFormula fs S (suc k) a → OverFormula fs S k (fill_at (Some t ∷ []) k a)
  filled_over on t h k (atom p us) o = fill_all_over on t h k us o
  filled_over on t h k verum o = tt
  filled_over on t h k falsum o = tt
  filled_over on t h k (not a) o = filled_over on t h k a o
  filled_over on t h k (and a b) o = (filled_over on t h k a o.0, filled_over on t h k b o.1)
  filled_over on t h k (or a b) o = (filled_over on t h k a o.0, filled_over on t h k b o.1)
  filled_over on t h k (imp a b) o = (filled_over on t h k a o.0, filled_over on t h k b o.1)
  filled_over on t h k (iff a b) o = (filled_over on t h k a o.0, filled_over on t h k b o.1)
  filled_over on t h k (all a) o = filled_over on t h (suc k) a o
  filled_over on t h k (ex a) o = filled_over on t h (suc k) a o

  pub instance_over : OnMetavars S → (t : FreeTerm) → Over fs S 0 t → (a : FreeFormula) → OverFormula fs S 1 a → OverFormula fs S 0 (instance a t)
  instance_over on t h a o = filled_over on t h 0 a o

  pub alpha_over : (a : FreeFormula) → OverFormula fs S 0 a → AllOverFormula fs S (or_none (alpha_parts a))
  alpha_over (not (not a)) h = (h, tt)
  alpha_over (and a b) h = (h.0, (h.1, tt))
  alpha_over (not (or a b)) h = (h.0, (h.1, tt))
  alpha_over (not (imp a b)) h = (h.0, (h.1, tt))
  alpha_over a h = tt

  pub left_over : (a : FreeFormula) → OverFormula fs S 0 a → AllOverFormula fs S (left_part (beta_parts a))
  left_over (or a b) h = (h.0, tt)
  left_over (not (and a b)) h = (h.0, tt)
  left_over (imp a b) h = (h.0, tt)
  left_over (iff a b) h = (h.0, (h.1, tt))
  left_over (not (iff a b)) h = (h.0, (h.1, tt))
  left_over a h = tt

  pub right_over : (a : FreeFormula) → OverFormula fs S 0 a → AllOverFormula fs S (right_part (beta_parts a))
  right_over (or a b) h = (h.1, tt)
  right_over (not (and a b)) h = (h.1, tt)
  right_over (imp a b) h = (h.1, tt)
  right_over (iff a b) h = (h.0, (h.1, tt))
  right_over (not (iff a b)) h = (h.0, (h.1, tt))
  right_over a h = tt

  pub delta_over : OnMetavars S → (t : FreeTerm) → Over fs S 0 t → (a : FreeFormula) → OverFormula fs S 0 a → AllOverFormula fs S (one_of (delta_part (λ b. instance b t) a))
  delta_over on t h (ex a) o = (instance_over on t h a o, tt)
  delta_over on t h (not (all a)) o = (instance_over on t h a o, tt)
  delta_over on t h a o = tt

  pub gamma_over : OnMetavars S → (t : FreeTerm) → Over fs S 0 t → (a : FreeFormula) → OverFormula fs S 0 a → AllOverFormula fs S (one_of (gamma_part (λ b. instance b t) a))
  gamma_over on t h (all a) o = (instance_over on t h a o, tt)
  gamma_over on t h (not (ex a)) o = (instance_over on t h a o, tt)
  gamma_over on t h a o = tt

-- A problem's formulas in the tableau, and the instances that rewriting makes of them.
use Rattle.std.proofs.Common.{◌≡◌, ℕ, zero, suc, ◌+◌, ◌-◌, ◌<◌, ◌≤◌, Bool, true, false, ◌||◌, eqb, leb, nat_lt, if◌then◌else◌, List, [], ◌∷◌, ◌++◌, map, reverse, Option, Some, None, option_map, slice_get, refl, ap, ap₂, sym, ◌∙◌, subst, arith, ◌⊎◌, inl, inr, ◌≢◌}
use Rattle.std.proofs.lemmas.Bool.{false≢true}
use Rattle.std.proofs.lemmas.Bool.Decides.{leb_tells, eqb_tells}
use mathlib.Core.List.{reverse-cons}
use Rattle.fol_core.specs.Syntax as plain
use Rattle.fol_core.specs.Syntax.{PlainTerm, PlainTerms, PlainFormula, FormulaOver, atom, verum, falsum, not, and, or, imp, iff, all, ex, map_atoms}
use Rattle.fol_core.specs.Symbol.{Symbol}
use Rattle.free_terms.specs.Free.{Name, FreeTerm, bound, lift_term, lift_terms, lift, fill_term, fill_terms, fill_all, filled_with, or_variable}
use Rattle.free_terms.specs.Matching.{variable_in_term, variable_in_terms}
use Rattle.unify.specs.Offers.{Offer, resolved_all}
use Rattle.rewrite_rules.specs.Rules.{variable_in}
use Rattle.translation.specs.Translation.{closed_all, term_under, fill_under}
use Rattle.translation.proofs.Grounding.{under}
use Rattle.translation.proofs.Built.{IsBuiltTerm, AreBuiltTerms, IsBuilt, closed_term}
use Rattle.translation.proofs.Opening.{opened_term, opened_terms, opened_by, AreClosedTerms, or_bound, opened_bound, opened_app, opened_none, opened_more, opened_atom, opened_verum, opened_falsum, opened_not, opened_and, opened_or, opened_imp, opened_iff, opened_all, opened_ex}

-- no parameter at all
abbrev pub NoParam : ℕ → Type 0
NoParam q = ⊥

abbrev Fills : Type 0
Fills = List (Option FreeTerm)

-- A variable that stands in it has its term, where k quantifiers were passed.
abbrev pub IsFilled : Fills → ℕ → (ℕ → Bool) → Type 0
IsFilled fills k occurs = (n m : ℕ) → m ≡ k + n → occurs m ≡ true → slice_get fills n ≡ Some None → ⊥

abbrev pub ListBuilt : List Symbol → (ℕ → Type 0) → List PlainTerm → Type 0
ListBuilt fs P [] = Unit {0}
ListBuilt fs P (t ∷ ts) = IsBuiltTerm fs P 0 t × ListBuilt fs P ts

pub list_closed : (fs : List Symbol) (P : ℕ → Type 0) (ts : List PlainTerm) → ListBuilt fs P ts → AreClosedTerms ts
list_closed fs P [] h = tt
list_closed fs P (t ∷ ts) h = (closed_term fs P t h.0, list_closed fs P ts h.1)

built_last : (fs : List Symbol) (P : ℕ → Type 0) (ts : List PlainTerm) (t : PlainTerm) → ListBuilt fs P ts → IsBuiltTerm fs P 0 t → ListBuilt fs P (ts ++ t ∷ [])
built_last fs P [] t h c = (c, tt)
built_last fs P (u ∷ ts) t h c = (h.0, built_last fs P ts t h.1 c)

pub built_reverse : (fs : List Symbol) (P : ℕ → Type 0) (ts : List PlainTerm) → ListBuilt fs P ts → ListBuilt fs P (reverse ts)
built_reverse fs P [] h = tt
built_reverse fs P (t ∷ ts) h =
    subst (ListBuilt fs P) (sym (reverse-cons t ts)) (built_last fs P (reverse ts) t (built_reverse fs P ts h.1) h.0)

get_map : {A B : Type 0} (f : A → B) (xs : List A) (i : ℕ) → slice_get (map f xs) i ≡ option_map f (slice_get xs i)
get_map f [] i = refl
get_map f (x ∷ xs) zero = refl
get_map f (x ∷ xs) (suc i) = get_map f xs i

after_or : (c d : Bool) → d ≡ true → (c || d) ≡ true
after_or true d e = refl
after_or false d e = e

module _ (fs : List Symbol) (s : Offer) (ys : List Name) where
  -- a problem's formula stands for itself
  mutual
    lifted_term : (n : ℕ) (u : PlainTerm) → IsBuiltTerm fs NoParam n u → term_under s ys (lift_term u) ≡ u
    lifted_term n (plain.bound k) h = refl
    lifted_term n (plain.param q) h = absurd h
    lifted_term n (plain.app f us) h = ap (plain.app f) (lifted_terms n us h.1)

    lifted_terms : (n : ℕ) (us : PlainTerms) → AreBuiltTerms fs NoParam n us → closed_all ys (resolved_all s (lift_terms us)) ≡ us
    lifted_terms n plain.no_terms h = refl
    lifted_terms n (plain.terms u us) h = ap₂ plain.terms (lifted_term n u h.0) (lifted_terms n us h.1)

  lifted_at : (j k n : ℕ) (a : PlainFormula) → IsBuilt fs NoParam n a
      → map_atoms (λ _ us. closed_all ys (resolved_all s us)) j (map_atoms (λ _ us. lift_terms us) k a) ≡ a
  lifted_at j k n (atom p us) h = ap (atom p) (lifted_terms n us h)
  lifted_at j k n verum h = refl
  lifted_at j k n falsum h = refl
  lifted_at j k n (not a) h = ap not (lifted_at j k n a h)
  lifted_at j k n (and a b) h = ap₂ and (lifted_at j k n a h.0) (lifted_at j k n b h.1)
  lifted_at j k n (or a b) h = ap₂ or (lifted_at j k n a h.0) (lifted_at j k n b h.1)
  lifted_at j k n (imp a b) h = ap₂ imp (lifted_at j k n a h.0) (lifted_at j k n b h.1)
  lifted_at j k n (iff a b) h = ap₂ iff (lifted_at j k n a h.0) (lifted_at j k n b h.1)
  lifted_at j k n (all a) h = ap all (lifted_at (suc j) (suc k) (suc n) a h)
  lifted_at j k n (ex a) h = ap ex (lifted_at (suc j) (suc k) (suc n) a h)

  pub lifted : (n : ℕ) (a : PlainFormula) → IsBuilt fs NoParam n a → under s ys (lift a) ≡ a
  lifted n a h = lifted_at 0 0 n a h

  -- Filled by terms, it stands for itself with the closed terms in place of its variables.
  module _ (fills : Fills) (closed : AreClosedTerms (map (fill_under s ys) fills)) where
    vs : List PlainTerm
    vs = map (fill_under s ys) fills

    either_option : (n : ℕ) (o : Option (Option FreeTerm)) → (o ≡ Some None → ⊥) → term_under s ys (or_variable n o) ≡ or_bound n (option_map (fill_under s ys) o)
    either_option n None some_term = refl
    either_option n (Some None) some_term = absurd (some_term refl)
    either_option n (Some (Some t)) some_term = refl

    filled_variable : (k n : ℕ) → IsFilled fills k (λ m. eqb n m) → term_under s ys (filled_with fills k n) ≡ opened_term k (map (fill_under s ys) fills) (plain.bound n)
    filled_variable k n filled = by_order (leb_tells (suc n) k) ∙ sym (opened_bound k (map (fill_under s ys) fills) n closed) where
      free : Bool → PlainTerm
      free q = term_under s ys (if q then bound n else or_variable n (slice_get fills (n - k)))

      chosen : Bool → PlainTerm
      chosen q = if q then plain.bound n else or_bound n (slice_get (map (fill_under s ys) fills) (n - k))

      itself : eqb n n ≡ true
      itself = by (eqb_tells n n) where
        by : ((eqb n n ≡ true) × (n ≡ n)) ⊎ ((eqb n n ≡ false) × (n ≢ n)) → eqb n n ≡ true
        by (inl p) = p.0
        by (inr p) = absurd (p.1 refl)

      by_order : ((leb (suc n) k ≡ true) × (suc n ≤ k)) ⊎ ((leb (suc n) k ≡ false) × (k < suc n))
          → term_under s ys (filled_with fills k n) ≡ (if nat_lt n k then plain.bound n else or_bound n (slice_get (map (fill_under s ys) fills) (n - k)))
      by_order (inl l) = ap free l.0 ∙ sym (ap chosen l.0)
      by_order (inr l) =
          ap free l.0 ∙ either_option n (slice_get fills (n - k)) (filled (n - k) n (omega (arith, l.1)) itself)
          ∙ ap (or_bound n) (sym (get_map (fill_under s ys) fills (n - k))) ∙ sym (ap chosen l.0)

    mutual
      filled_term : (k i : ℕ) (u : PlainTerm) → IsBuiltTerm fs NoParam i u → IsFilled fills k (λ m. variable_in_term m u)
          → term_under s ys (fill_term fills k (lift_term u)) ≡ opened_term k (map (fill_under s ys) fills) u
      filled_term k i (plain.bound n) h filled = filled_variable k n filled
      filled_term k i (plain.param q) h filled = absurd h
      filled_term k i (plain.app f us) h filled =
          ap (plain.app f) (filled_terms k i us h.1 filled) ∙ sym (opened_app k (map (fill_under s ys) fills) f us)

      filled_terms : (k i : ℕ) (us : PlainTerms) → AreBuiltTerms fs NoParam i us → IsFilled fills k (λ m. variable_in_terms m us)
          → closed_all ys (resolved_all s (fill_terms fills k (lift_terms us))) ≡ opened_terms k (map (fill_under s ys) fills) us
      filled_terms k i plain.no_terms h filled = sym (opened_none k (map (fill_under s ys) fills))
      filled_terms k i (plain.terms u us) h filled =
          ap₂ plain.terms (filled_term k i u h.0 (λ n m e o. filled n m e (ap (λ c. c || variable_in_terms m us) o)))
          (filled_terms k i us h.1 (λ n m e o. filled n m e (after_or (variable_in_term m u) (variable_in_terms m us) o)))
          ∙ sym (opened_more k (map (fill_under s ys) fills) u us)

    filled_at : (j k i : ℕ) (a : PlainFormula) → IsBuilt fs NoParam i a → IsFilled fills k (λ m. variable_in m a)
        → map_atoms (λ _ us. closed_all ys (resolved_all s us)) j (map_atoms (λ n us. fill_terms fills n us) k (map_atoms (λ _ us. lift_terms us) k a))
        ≡ opened_by k (map (fill_under s ys) fills) a
    filled_at j k i (atom p us) h filled = ap (atom p) (filled_terms k i us h filled) ∙ sym (opened_atom k (map (fill_under s ys) fills) p us)
    filled_at j k i verum h filled = sym (opened_verum k (map (fill_under s ys) fills))
    filled_at j k i falsum h filled = sym (opened_falsum k (map (fill_under s ys) fills))
    filled_at j k i (not a) h filled = ap not (filled_at j k i a h filled) ∙ sym (opened_not k (map (fill_under s ys) fills) a)
    filled_at j k i (and a b) h filled =
        ap₂ and (filled_at j k i a h.0 (λ n m e o. filled n m e (ap (λ c. c || variable_in m b) o))) (filled_at j k i b h.1 (λ n m e o. filled n m e (after_or (variable_in m a) (variable_in m b) o)))
        ∙ sym (opened_and k (map (fill_under s ys) fills) a b)
    filled_at j k i (or a b) h filled =
        ap₂ or (filled_at j k i a h.0 (λ n m e o. filled n m e (ap (λ c. c || variable_in m b) o))) (filled_at j k i b h.1 (λ n m e o. filled n m e (after_or (variable_in m a) (variable_in m b) o)))
        ∙ sym (opened_or k (map (fill_under s ys) fills) a b)
    filled_at j k i (imp a b) h filled =
        ap₂ imp (filled_at j k i a h.0 (λ n m e o. filled n m e (ap (λ c. c || variable_in m b) o))) (filled_at j k i b h.1 (λ n m e o. filled n m e (after_or (variable_in m a) (variable_in m b) o)))
        ∙ sym (opened_imp k (map (fill_under s ys) fills) a b)
    filled_at j k i (iff a b) h filled =
        ap₂ iff (filled_at j k i a h.0 (λ n m e o. filled n m e (ap (λ c. c || variable_in m b) o))) (filled_at j k i b h.1 (λ n m e o. filled n m e (after_or (variable_in m a) (variable_in m b) o)))
        ∙ sym (opened_iff k (map (fill_under s ys) fills) a b)
    filled_at j k i (all a) h filled = ap all (filled_at (suc j) (suc k) (suc i) a h (inside filled)) ∙ sym (opened_all k (map (fill_under s ys) fills) a) where
      inside : IsFilled fills k (λ m. variable_in (suc m) a) → IsFilled fills (suc k) (λ m. variable_in m a)
      inside f n m e o = f n (k + n) refl (subst (λ w. variable_in w a ≡ true) (omega (arith, e)) o)
    filled_at j k i (ex a) h filled = ap ex (filled_at (suc j) (suc k) (suc i) a h (inside filled)) ∙ sym (opened_ex k (map (fill_under s ys) fills) a) where
      inside : IsFilled fills k (λ m. variable_in (suc m) a) → IsFilled fills (suc k) (λ m. variable_in m a)
      inside f n m e o = f n (k + n) refl (subst (λ w. variable_in w a ≡ true) (omega (arith, e)) o)

    pub filled_formula : (i : ℕ) (a : PlainFormula) → IsBuilt fs NoParam i a → IsFilled fills 0 (λ m. variable_in m a)
        → under s ys (fill_all fills (lift a)) ≡ opened_by 0 (map (fill_under s ys) fills) a
    filled_formula i a h filled = filled_at 0 0 i a h filled

    pub filled_arguments : (i : ℕ) (us : PlainTerms) → AreBuiltTerms fs NoParam i us → IsFilled fills 0 (λ m. variable_in_terms m us)
        → closed_all ys (resolved_all s (fill_terms fills 0 (lift_terms us))) ≡ opened_terms 0 (map (fill_under s ys) fills) us
    filled_arguments i us h filled = filled_terms 0 i us h filled

  -- The terms of a match stand in the literal's arguments.
  module _ (P : ℕ → Type 0) (fills : Fills) (n : ℕ) (t : FreeTerm) (at : slice_get fills n ≡ Some (Some t)) where
    mutual
      part_of_term : (u : PlainTerm) → variable_in_term n u ≡ true → IsBuiltTerm fs P 0 (term_under s ys (fill_term fills 0 (lift_term u))) → IsBuiltTerm fs P 0 (term_under s ys t)
      part_of_term (plain.bound m) o h = by_test (eqb_tells m n) where
        value : filled_with fills 0 n ≡ t
        value = by (leb_tells (suc n) 0) where
          by : ((leb (suc n) 0 ≡ true) × (suc n ≤ 0)) ⊎ ((leb (suc n) 0 ≡ false) × (0 < suc n)) → filled_with fills 0 n ≡ t
          by (inl p) = let no_order : ⊥ = omega (arith, p.1) in absurd no_order
          by (inr p) =
              let same : n - 0 ≡ n = omega arith in
              ap (λ q. if q then bound n else or_variable n (slice_get fills (n - 0))) p.0 ∙ ap (λ k. or_variable n (slice_get fills k)) same ∙ ap (or_variable n) at

        by_test : ((eqb m n ≡ true) × (m ≡ n)) ⊎ ((eqb m n ≡ false) × (m ≢ n)) → IsBuiltTerm fs P 0 (term_under s ys t)
        by_test (inl e) = subst (λ u. IsBuiltTerm fs P 0 (term_under s ys u)) (ap (filled_with fills 0) e.1 ∙ value) h
        by_test (inr e) = absurd (false≢true (sym e.0 ∙ o))
      part_of_term (plain.param q) o h = absurd (false≢true o)
      part_of_term (plain.app f us) o h = part_of_terms us o h.1

      part_of_terms : (us : PlainTerms) → variable_in_terms n us ≡ true → AreBuiltTerms fs P 0 (closed_all ys (resolved_all s (fill_terms fills 0 (lift_terms us)))) → IsBuiltTerm fs P 0 (term_under s ys t)
      part_of_terms plain.no_terms o h = absurd (false≢true o)
      part_of_terms (plain.terms u us) o h = by_test (variable_in_term n u) refl o (λ e. part_of_term u e h.0) (λ e. part_of_terms us e h.1) where
        by_test : (q : Bool) → variable_in_term n u ≡ q → (q || variable_in_terms n us) ≡ true → (variable_in_term n u ≡ true → IsBuiltTerm fs P 0 (term_under s ys t))
            → (variable_in_terms n us ≡ true → IsBuiltTerm fs P 0 (term_under s ys t)) → IsBuiltTerm fs P 0 (term_under s ys t)
        by_test true e o first rest = first e
        by_test false e o first rest = rest o

    pub stands_in_arguments : (us : PlainTerms) → variable_in_terms n us ≡ true → AreBuiltTerms fs P 0 (closed_all ys (resolved_all s (fill_terms fills 0 (lift_terms us)))) → IsBuiltTerm fs P 0 (term_under s ys t)
    stands_in_arguments us o h = part_of_terms us o h

  pub fills_built : (P : ℕ → Type 0) → P 0 → (fills : Fills) → ((n : ℕ) (t : FreeTerm) → slice_get fills n ≡ Some (Some t) → IsBuiltTerm fs P 0 (term_under s ys t)) → ListBuilt fs P (map (fill_under s ys) fills)
  fills_built P zero_is [] each = tt
  fills_built P zero_is (None ∷ fills) each = (zero_is, fills_built P zero_is fills (λ n t e. each (suc n) t e))
  fills_built P zero_is (Some u ∷ fills) each = (each 0 u refl, fills_built P zero_is fills (λ n t e. each (suc n) t e))

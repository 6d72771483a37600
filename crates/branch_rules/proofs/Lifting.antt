-- The axioms are lifted one after the other.
use Rattle.std.proofs.Common.{◌≡◌, ℕ, zero, suc, ◌<◌, ◌≤◌, List, [], ◌∷◌, ◌++◌, map, take, drop, length, get_or, Option, Some, None, slice_get, refl, ap, sym, ◌∙◌, subst, arith}
use Rattle.std.proofs.lemmas.List.{map-append, append-nil}
use Rattle.std.proofs.lemmas.Option.{slice_get-get_or}
use Rattle.std.specs.Prelude.{IfSome, option_map, option_to_list}
use Rattle.fol_core.specs.Symbol.{SymbolTable}
use Rattle.fol_core.specs.Syntax.{not}
use Rattle.fol_core.specs.View as plain
use Rattle.fol_core.specs.View.{TermFormula}
use Rattle.free_terms.specs.Free.{FreeFormula, lift, HoldsNoParam}
use Rattle.free_terms.specs.NoParam.{NoParamIn}
use Rattle.free_terms.specs.View.{FreeTermFormula, formula_of, formulas_of}
use Rattle.rewrite_rules.specs.Fitting.{HoldNoParams}
use Rattle.rewrite_rules.proofs.Sides.{holds_none}
use Rattle.rewrite_rules.proofs.WellFormed.{well_formed_no_param}
use Rattle.fof_parse.specs.WellFormed.{IsClosedOver}
use Rattle.branch_rules.proofs.Works.{take_next, take_past}

pub record AreLifted (axioms : List TermFormula) (i : ℕ) (out : List FreeTermFormula) : Type 0 where
  pub done : formulas_of out ≡ map lift (plain.formulas_of (take i axioms))
  pub left : HoldNoParams (plain.formulas_of (drop i axioms))

none_is_some : {A : Type 0} (a : A) → None ≡ Some a → ⊥
none_is_some a e = cc

some_once : {A : Type 0} (x y : A) → Some x ≡ Some y → x ≡ y
some_once x y e = cc

drop_at : {A : Type 0} (xs : List A) (i : ℕ) (a : A) → slice_get xs i ≡ Some a → drop i xs ≡ a ∷ drop (suc i) xs
drop_at [] i a e = absurd (none_is_some a e)
drop_at (x ∷ xs) zero a e = ap (λ z. z ∷ xs) (some_once x a e)
drop_at (x ∷ xs) (suc i) a e = drop_at xs i a e

stands : (axioms : List TermFormula) (i : ℕ) (a : TermFormula) → i < length axioms → a ≡ get_or axioms i a → slice_get axioms i ≡ Some a
stands axioms i a lt at = slice_get-get_or axioms i a lt ∙ ap (λ z. Some z) (sym at)

pub lifted_start : (axioms : List TermFormula) (out : List FreeTermFormula) → out ≡ [] → HoldNoParams (plain.formulas_of axioms) → AreLifted axioms 0 out
lifted_start axioms out e h = record { done = ap formulas_of e; left = h }

pub lifted_more : (axioms : List TermFormula) (i m : ℕ) (a : TermFormula) (out new : List FreeTermFormula) (g : FreeTermFormula) → m ≡ suc i → i < length axioms → a ≡ get_or axioms i a
    → formula_of g ≡ lift (plain.formula_of a) → new ≡ out ++ g ∷ [] → AreLifted axioms i out → AreLifted axioms m new
lifted_more axioms i m a out new g next lt at is more h = subst (λ k. AreLifted axioms k new) (sym next) (record {
  done = ap formulas_of more ∙ map-append formula_of out (g ∷ []) ∙ ap (λ z. z ++ formula_of g ∷ []) h.done ∙ ap (λ z. map lift (plain.formulas_of (take i axioms)) ++ z ∷ []) is
      ∙ sym (ap (λ z. map lift (plain.formulas_of z)) (take_next axioms i a here) ∙ ap (map lift) (map-append plain.formula_of (take i axioms) (a ∷ [])) ∙ map-append lift (plain.formulas_of (take i axioms)) (plain.formula_of a ∷ []));
  left = (subst (λ z. HoldNoParams (plain.formulas_of z)) (drop_at axioms i a here) h.left).1;
}) where
  here : slice_get axioms i ≡ Some a
  here = stands axioms i a lt at

pub next_no_param : (axioms : List TermFormula) (i : ℕ) (a : TermFormula) (out : List FreeTermFormula) → i < length axioms → a ≡ get_or axioms i a → AreLifted axioms i out → HoldsNoParam (plain.formula_of a)
next_no_param axioms i a out lt at h =
    holds_none (plain.formula_of a) (subst (λ z. HoldNoParams (plain.formulas_of z)) (drop_at axioms i a (stands axioms i a lt at)) h.left).0

pub lifted_all : (axioms : List TermFormula) (i : ℕ) (out : List FreeTermFormula) → length axioms ≤ i → AreLifted axioms i out → formulas_of out ≡ map lift (plain.formulas_of axioms)
lifted_all axioms i out le h = h.done ∙ ap (λ z. map lift (plain.formulas_of z)) (take_past axioms i le)

pub conjecture_no_param : (table : SymbolTable) (o : Option TermFormula) (f : TermFormula) → o ≡ Some f → IfSome (option_map plain.formula_of o) (IsClosedOver table) → HoldsNoParam (plain.formula_of f)
conjecture_no_param table o f e h =
    holds_none (plain.formula_of f) (well_formed_no_param table 0 (plain.formula_of f) (subst (λ z. IfSome (option_map plain.formula_of z) (IsClosedOver table)) e h))

-- the axioms and the negated conjecture
abbrev lifted_start_list : List TermFormula → Option TermFormula → List FreeFormula
lifted_start_list axioms o = map lift (plain.formulas_of axioms ++ map not (option_to_list (option_map plain.formula_of o)))

pub with_conjecture : (axioms : List TermFormula) (o : Option TermFormula) (f : TermFormula) (g n : FreeTermFormula) (out new : List FreeTermFormula) → o ≡ Some f → formula_of g ≡ lift (plain.formula_of f)
    → formula_of n ≡ not (formula_of g) → new ≡ out ++ n ∷ [] → formulas_of out ≡ map lift (plain.formulas_of axioms) → formulas_of new ≡ lifted_start_list axioms o
with_conjecture axioms o f g n out new e is negated more h =
    ap formulas_of more ∙ map-append formula_of out (n ∷ []) ∙ ap (λ z. z ++ formula_of n ∷ []) h
    ∙ ap (λ z. map lift (plain.formulas_of axioms) ++ z ∷ []) (negated ∙ ap (λ z. not z) is)
    ∙ sym (map-append lift (plain.formulas_of axioms) (not (plain.formula_of f) ∷ [])) ∙ ap (lifted_start_list axioms) (sym e)

pub without_conjecture : (axioms : List TermFormula) (o : Option TermFormula) (out new : List FreeTermFormula) → o ≡ None → new ≡ out → formulas_of out ≡ map lift (plain.formulas_of axioms) → formulas_of new ≡ lifted_start_list axioms o
without_conjecture axioms o out new e same h =
    ap formulas_of same ∙ h ∙ ap (map lift) (sym (append-nil (plain.formulas_of axioms))) ∙ ap (lifted_start_list axioms) (sym e)

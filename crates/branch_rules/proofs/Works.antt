-- The work of existential and universal steps.
use Rattle.std.proofs.Common.{◌≡◌, ℕ, zero, suc, ◌<◌, ◌≤◌, List, [], ◌∷◌, ◌++◌, map, take, length, Some, None, refl, ap, sym, ◌∙◌, subst, arith}
use Rattle.std.specs.Prelude.{slice_get}
use Rattle.std.proofs.lemmas.List.{map-append}
use Rattle.free_terms.specs.declared.term.FTerm.{FTerm}
use Rattle.fol_core.specs.Syntax.{FormulaOver}
use Rattle.gs3_rules.specs.Rules.{delta_part, gamma_part}
use Rattle.free_terms.specs.Free as free
use Rattle.free_terms.specs.Free.{FreeTerm, FreeTerms, terms_of_list, metavar, skolem, instance, HoldsNoBound, HoldNoBound}
use Rattle.free_terms.specs.View.{name_of, term_of, terms_of, formula_of, formulas_of}
use Rattle.free_terms.specs.declared.term.Name.{Name}
use Rattle.free_terms.specs.View.{FreeTermFormula}
use Rattle.branch_rules.specs.Branch.{Branch, Entry, entries, metavars, skolemize, instantiate, next_skolem, next_metavar, one_of, segment, skolems_made, metavars_made}
use Rattle.branch_rules.specs.BranchValue.{entry_of}
use Rattle.branch_rules.specs.BranchView.{Reads}
use Rattle.branch_rules.specs.Plans.{WorksAt}
use Rattle.branch_rules.specs.declared.held.Entry as code
use Rattle.branch_rules.specs.declared.branch.Lists.{Lists}
use Rattle.branch_rules.specs.declared.step.TabKind.TheVariants as kind
use Rattle.branch_rules.specs.declared.work.Work.{Work}

pub metavars_closed : (xs : List free.Name) → HoldNoBound (terms_of_list (map metavar xs))
metavars_closed [] = tt
metavars_closed (x ∷ xs) = (tt, metavars_closed xs)

abbrev skolem_work : ℕ → Name → ℕ → List FreeTermFormula → Work
skolem_work place name level parts = record { place = place; kind = kind.Skolem name; level = level; parts = parts }

abbrev instance_work : ℕ → Name → ℕ → List FreeTermFormula → Work
instance_work place name level parts = record { place = place; kind = kind.Instance name; level = level; parts = parts }

abbrev named : ℕ → ℕ → free.Name
named s n = record { segment = s; count = n }

pub existential_works : (b : Branch) (l : Lists) (place : ℕ) (e : code.Entry) (name : Name) (t : FreeTerm) (names : List Name) (parts : List FreeTermFormula) → Reads b l
    → name_of name ≡ named l.counts.segment (suc l.counts.skolems) → names ≡ l.metavars.items → t ≡ skolem (name_of name) (terms_of_list (map metavar (map name_of names)))
    → slice_get (entries b) place ≡ Some (entry_of e) → formulas_of parts ≡ one_of (delta_part (λ a. instance a t) (formula_of e.formula))
    → WorksAt b place (skolemize place (next_skolem b)) (skolem_work place name e.level parts)
existential_works b l place e name t names parts reads is_name are_names is_term at makes =
    let next : name_of name ≡ next_skolem b = is_name ∙ ap (λ s. named s (suc l.counts.skolems)) reads.segment_is ∙ ap (λ n. named (segment b) (suc n)) reads.skolems_made_are in
    let over : t ≡ skolem (name_of name) (terms_of_list (map metavar (metavars b))) =
    is_term ∙ ap (λ z. skolem (name_of name) (terms_of_list (map metavar (map name_of z)))) are_names ∙ ap (λ z. skolem (name_of name) (terms_of_list (map metavar z))) reads.metavars_are in (
      ap (skolemize place) next,
      entry_of e,
      at,
      record { at = refl; makes = makes ∙ ap (λ z. one_of (delta_part (λ a. instance a z) (formula_of e.formula))) over; level = refl },
    )

pub universal_works : (b : Branch) (l : Lists) (place : ℕ) (e : code.Entry) (name : Name) (t : FreeTerm) (parts : List FreeTermFormula) → Reads b l
    → name_of name ≡ named l.counts.segment (suc l.counts.metavars) → t ≡ metavar (name_of name)
    → slice_get (entries b) place ≡ Some (entry_of e) → formulas_of parts ≡ one_of (gamma_part (λ a. instance a t) (formula_of e.formula))
    → WorksAt b place (instantiate place (next_metavar b)) (instance_work place name e.level parts)
universal_works b l place e name t parts reads is_name is_term at makes =
    let next : name_of name ≡ next_metavar b = is_name ∙ ap (λ s. named s (suc l.counts.metavars)) reads.segment_is ∙ ap (λ n. named (segment b) (suc n)) reads.metavars_made_are in (
      ap (instantiate place) next,
      entry_of e,
      at,
      record { at = refl; makes = makes ∙ ap (λ z. one_of (gamma_part (λ a. instance a z) (formula_of e.formula))) is_term; level = refl },
    )

pub take_past : {A : Type 0} (xs : List A) (i : ℕ) → length xs ≤ i → take i xs ≡ xs
take_past [] zero le = refl
take_past [] (suc i) le = refl
take_past (x ∷ xs) zero le = absurd (let none : ⊥ = omega (arith, le) in none)
take_past (x ∷ xs) (suc i) le = ap (λ z. x ∷ z) (take_past xs i (omega (arith, le)))

both_maps : (xs : List Name) → map (λ x. metavar (name_of x)) xs ≡ map metavar (map name_of xs)
both_maps [] = refl
both_maps (x ∷ xs) = ap (λ z. metavar (name_of x) ∷ z) (both_maps xs)

pub all_metavars : (names : List Name) (terms : List FreeTerm) (i : ℕ) → length names ≤ i → terms ≡ map (λ x. metavar (name_of x)) (take i names) → terms_of_list terms ≡ terms_of_list (map metavar (map name_of names))
all_metavars names terms i le e = ap terms_of_list (e ∙ ap (map (λ x. metavar (name_of x))) (take_past names i le) ∙ both_maps names)

some_once : {A : Type 0} (x y : A) → Some x ≡ Some y → x ≡ y
some_once x y e = cc

none_is_some : {A : Type 0} (a : A) → None ≡ Some a → ⊥
none_is_some a e = cc

pub take_next : {A : Type 0} (xs : List A) (i : ℕ) (a : A) → slice_get xs i ≡ Some a → take (suc i) xs ≡ take i xs ++ a ∷ []
take_next [] i a e = absurd (none_is_some a e)
take_next (x ∷ xs) zero a e = ap (λ z. z ∷ []) (some_once x a e)
take_next (x ∷ xs) (suc i) a e = ap (λ z. x ∷ z) (take_next xs i a e)

-- one name more as a term
pub next_metavar_term : (out new : List FTerm) (names : List Name) (i m : ℕ) (x : Name) (t : FTerm) → m ≡ suc i → slice_get names i ≡ Some x → term_of t ≡ metavar (name_of x) → new ≡ out ++ t ∷ []
    → map term_of out ≡ map (λ z. metavar (name_of z)) (take i names) → map term_of new ≡ map (λ z. metavar (name_of z)) (take m names)
next_metavar_term out new names i m x t next at term more e =
    ap (map term_of) more ∙ map-append term_of out (t ∷ []) ∙ ap (λ z. z ++ term_of t ∷ []) e ∙ ap (λ z. map (λ y. metavar (name_of y)) (take i names) ++ z ∷ []) term
    ∙ sym (ap (λ k. map (λ z. metavar (name_of z)) (take k names)) next ∙ ap (map (λ z. metavar (name_of z))) (take_next names i x at) ∙ map-append (λ z. metavar (name_of z)) (take i names) (x ∷ []))

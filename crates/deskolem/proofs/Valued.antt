-- The closed values of metavariables that a map holds.
use Rattle.std.proofs.Common.{◌≡◌, ◌<◌, ◌≤◌, ℕ, zero, suc, Bool, true, false, List, [], ◌∷◌, length, map, get_or, Some, None, refl, ap, sym, ◌∙◌, arith, ◌⊎◌, inl, inr, if◌then◌else◌}
use Rattle.std.specs.HashMap.{get, IsEmpty, Updates}
use Rattle.std.specs.Map.{lookup}
use Rattle.fol_core.specs.View as plain
use Rattle.fol_core.specs.View.{term_of}
use Rattle.fol_core.specs.Syntax as syntax
use Rattle.fol_core.specs.declared.term.Term.{Term}
use Rattle.free_terms.specs.Free as free
use Rattle.free_terms.specs.Free.{FreeTerm, metavar}
use Rattle.free_terms.specs.View as free_view
use Rattle.free_terms.specs.View.{name_of}
use Rattle.free_terms.specs.declared.term.FTerm.{FTerm}
use Rattle.free_terms.specs.declared.term.Name.{Name}
use Rattle.unify.specs.Index.{is_same}
use Rattle.unify.specs.Offers.{Offer, resolved, resolved_all}
use Rattle.unify.specs.Work.{size, size_all}
use Rattle.unify.proofs.Acyclic.{tells}
use Rattle.translation.specs.Translation.{closed_all, term_under}
use Rattle.deskolem.specs.Numbers.{Values, AreValues}

some_once : {A : Type 0} (a b : A) → Some a ≡ Some b → a ≡ b
some_once a b e = cc

none_is_some : {A : Type 0} (a : A) → None ≡ Some a → ⊥
none_is_some a e = cc

pub none_valued : (s : Offer) (ys : List free.Name) (values : Values) → IsEmpty values → AreValues s ys values
none_valued s ys values none x t at = absurd (none_is_some t (sym (ap (lookup (is_same x)) none) ∙ at))

pub values_with : (s : Offer) (ys : List free.Name) (values more : Values) (x : Name) (t : Term) → AreValues s ys values → term_of t ≡ term_under s ys (metavar (name_of x))
    → Updates is_same values more x (Some t) → AreValues s ys more
values_with s ys values more x t known is updates y u at = by_case (tells (name_of x) (name_of y)) where
  is_there : (q : Bool) → is_same x y ≡ q → (if q then Some t else get is_same values y) ≡ Some u
  is_there q same = sym (updates.0 y ∙ ap (λ b. if b then Some t else get is_same values y) same) ∙ at

  by_case : ((is_same x y ≡ true) × (name_of x ≡ name_of y)) ⊎ ((is_same x y ≡ false) × (name_of x ≡ name_of y → ⊥)) → term_of u ≡ term_under s ys (metavar (name_of y))
  by_case (inl p) = ap term_of (sym (some_once t u (is_there true p.0))) ∙ is ∙ ap (λ z. term_under s ys (metavar z)) p.1
  by_case (inr p) = known y u (is_there false p.0)

pub closed_each : (s : Offer) (ys : List free.Name) (us : List FTerm)
    → closed_all ys (resolved_all s (free_view.terms_of us)) ≡ plain.terms_of_list (map (λ u. term_under s ys (free_view.term_of u)) us)
closed_each s ys [] = refl
closed_each s ys (u ∷ us) = ap (λ vs. syntax.terms (term_under s ys (free_view.term_of u)) vs) (closed_each s ys us)

pub part_size : (s : Offer) (us : List FTerm) (i : ℕ) (u : FTerm) → i < length us → u ≡ get_or us i u
    → size (resolved s (free_view.term_of u)) ≤ size_all (resolved_all s (free_view.terms_of us))
part_size s [] i u lt e = let no_place : ⊥ = omega (arith, lt) in absurd no_place
part_size s (v ∷ us) zero u lt e = omega (arith, ap (λ w. size (resolved s (free_view.term_of w))) e)
part_size s (v ∷ us) (suc i) u lt e = omega (arith, part_size s us i u (omega (arith, lt)) e)

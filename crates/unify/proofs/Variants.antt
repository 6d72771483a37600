-- A term that the program sees is no metavariable is none as a plain tree.
use Rattle.std.proofs.Common.{◌≡◌, refl, subst}
use Rattle.free_terms.specs.View.{term_of}
use Rattle.free_terms.specs.declared.term.Name.{Name}
use Rattle.free_terms.specs.declared.term.FTerm.{FTerm, ind-FTerm}
use Rattle.free_terms.specs.declared.term.FTerm.TheVariants.{Meta}
use Rattle.free_terms.specs.declared.term.FTerm.TheOpen.{FTerm-F}
use Rattle.free_terms.specs.declared.term.FTerm.TheFolds.{map-FTerm}
use Rattle.free_terms.specs.declared.term.FTerm.TheViews.{roll-FTerm}
use Rattle.free_terms.proofs.Trees.{term_of_bound, term_of_skolem, term_of_app}
use Rattle.unify.specs.Work.{IsMetavar}
use denote.Hole.Carrier.{roll}

abbrev IsNone : FTerm → Type 0
IsNone t = ((x : Name) → t ≡ Meta x → ⊥) → IsMetavar (term_of t) → ⊥

level_is : (y : FTerm-F ((t : FTerm) × IsNone t)) → IsNone (roll-FTerm (map-FTerm _ _ (λ e. e.0) y))
unfolding roll-FTerm roll
level_is (FTerm-F.Bound n) apart m = subst IsMetavar (term_of_bound n) m
level_is (FTerm-F.Meta x) apart m = apart x refl
level_is (FTerm-F.Skolem x es) apart m = subst IsMetavar (term_of_skolem x _) m
level_is (FTerm-F.App f es) apart m = subst IsMetavar (term_of_app f _) m

pub not_metavar : (t : FTerm) → ((x : Name) → t ≡ Meta x → ⊥) → IsMetavar (term_of t) → ⊥
not_metavar = ind-FTerm IsNone (λ x y is. subst (λ z. IsNone (roll-FTerm z)) is (level_is y))

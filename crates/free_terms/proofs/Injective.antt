-- Two free terms of the program that stand for one plain tree are equal.
use Rattle.std.proofs.Common.{◌≡◌, List, [], ◌∷◌, map, refl, ap, sym, ◌∙◌, subst}
use Rattle.free_terms.specs.Free.{FreeTerm, FreeTerms, bound, metavar, skolem, app, no_terms, terms}
use Rattle.free_terms.specs.Free as free
use Rattle.free_terms.specs.View.{name_of, term_of, terms_of}
use Rattle.free_terms.specs.declared.term.Name.{Name}
use Rattle.free_terms.specs.declared.term.FTerm.{FTerm, ind-FTerm}
use Rattle.free_terms.specs.declared.term.FTerm.TheVariants.{Bound, Meta, Skolem, App}
use Rattle.free_terms.specs.declared.term.FTerm.TheOpen.{FTerm-F}
use Rattle.free_terms.specs.declared.term.FTerm.TheFolds.{map-FTerm}
use Rattle.free_terms.specs.declared.term.FTerm.TheViews.{roll-FTerm}
use Rattle.free_terms.proofs.Trees.{term_of_bound, term_of_meta, term_of_skolem, term_of_app}
use denote.Hole.Carrier.{roll}

abbrev pub name_from : free.Name → Name
name_from x = record { segment = x.segment; count = x.count }

pub name_from_of : (x : Name) → name_from (name_of x) ≡ x
name_from_of x = refl

abbrev mutual
  pub term_from : FreeTerm → FTerm
  term_from (bound n) = Bound n
  term_from (metavar x) = Meta (name_from x)
  term_from (skolem x us) = Skolem (name_from x) (terms_from us)
  term_from (app f us) = App f (terms_from us)

  pub terms_from : FreeTerms → List FTerm
  terms_from no_terms = []
  terms_from (terms u us) = term_from u ∷ terms_from us

abbrev IsBack : FTerm → Type 0
IsBack t = term_from (term_of t) ≡ t

each_back : (es : List ((t : FTerm) × IsBack t)) → terms_from (terms_of (map (λ e. e.0) es)) ≡ map (λ e. e.0) es
each_back [] = refl
each_back (e ∷ es) = λ i. e.1 i ∷ each_back es i

level_back : (y : FTerm-F ((t : FTerm) × IsBack t)) → IsBack (roll-FTerm (map-FTerm _ _ (λ e. e.0) y))
unfolding roll-FTerm roll
level_back (FTerm-F.Bound n) = ap term_from (term_of_bound n)
level_back (FTerm-F.Meta x) = ap term_from (term_of_meta x)
level_back (FTerm-F.Skolem x es) = ap term_from (term_of_skolem x _) ∙ ap (λ us. Skolem x us) (each_back es)
level_back (FTerm-F.App f es) = ap term_from (term_of_app f _) ∙ ap (λ us. App f us) (each_back es)

pub term_from_of : (t : FTerm) → term_from (term_of t) ≡ t
term_from_of = ind-FTerm IsBack (λ x y is. subst (λ z. IsBack (roll-FTerm z)) is (level_back y))

pub term_of_injective : (t u : FTerm) → term_of t ≡ term_of u → t ≡ u
term_of_injective t u e = sym (term_from_of t) ∙ ap term_from e ∙ term_from_of u

-- Each plain tree is that of a term of the program.
mutual
  pub term_of_from : (t : FreeTerm) → term_of (term_from t) ≡ t
  term_of_from (bound n) = term_of_bound n
  term_of_from (metavar x) = term_of_meta (name_from x)
  term_of_from (skolem x us) = term_of_skolem (name_from x) (terms_from us) ∙ ap (λ vs. skolem x vs) (terms_of_from us)
  term_of_from (app f us) = term_of_app f (terms_from us) ∙ ap (λ vs. app f vs) (terms_of_from us)

  pub terms_of_from : (us : FreeTerms) → terms_of (terms_from us) ≡ us
  terms_of_from no_terms = refl
  terms_of_from (terms u us) = λ i. terms (term_of_from u i) (terms_of_from us i)

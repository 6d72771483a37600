-- Offers of a round.
use Rattle.std.specs.Prelude.{◌≡◌, List, [], ◌∷◌, slice_get, Option, Some, ◌⊎◌}
use Rattle.fol_core.specs.Symbol.{Symbol}
use Rattle.fol_core.specs.Spelling.{HasArity}
use Rattle.free_terms.specs.Free.{FreeTerm, FreeTerms, bound, metavar, skolem, app, no_terms, terms}
use Rattle.unify.specs.Offers.{Offer}
use Rattle.unify.specs.Work.{count}
use Rattle.branch_rules.specs.Branch.{Branch, Entry, Done, principal, skolemize, go_left, go_right, entries, metavars}
use Rattle.branch_rules.specs.Branch.{after, skolem_term}
use Rattle.tab_tree.specs.Tableau.{Tableau, leaf, step, split}

-- the Skolem term that a step makes, where it is one of class 2
abbrev pub MakesOf : Branch → Done → Option Entry → FreeTerm → Type 0
MakesOf b (skolemize i x) (Some e) t = t ≡ skolem_term (metavars b) e.formula x
MakesOf b _ _ t = ⊥

-- a step of class 2 in the tableau below the branch introduces the Skolem term
abbrev pub Introduces : Branch → Tableau → FreeTerm → Type 0
Introduces b leaf t = ⊥
Introduces b (step d below) t = MakesOf b d (slice_get (entries b) (principal d)) t ⊎ Introduces (after b d) below t
Introduces b (split i l r) t = Introduces (after b (go_left i)) l t ⊎ Introduces (after b (go_right i)) r t

-- A term of the round: of metavariables, of these function symbols with their numbers of arguments, and of the Skolem
-- terms that the tableau introduces, each with the very arguments that its step gives it.
abbrev mutual
  pub IsTermOf : List Symbol → Branch → Tableau → FreeTerm → Type 0
  IsTermOf fs b t (bound n) = ⊥
  IsTermOf fs b t (metavar x) = Unit {0}
  IsTermOf fs b t (skolem x us) = Introduces b t (skolem x us)
  IsTermOf fs b t (app f us) = HasArity (slice_get fs f) (count us) × AreTermsOf fs b t us

  pub AreTermsOf : List Symbol → Branch → Tableau → FreeTerms → Type 0
  AreTermsOf fs b t no_terms = Unit {0}
  AreTermsOf fs b t (terms u us) = IsTermOf fs b t u × AreTermsOf fs b t us

-- an offer of the round, where these are the problem's function symbols
abbrev pub IsOfRound : List Symbol → Branch → Tableau → Offer → Type 0
IsOfRound fs b t [] = Unit {0}
IsOfRound fs b t (x ∷ s) = IsTermOf fs b t x.term × IsOfRound fs b t s

-- Pairs of terms that are still to be made one, and what a step of unification makes of them.
use Rattle.std.specs.Prelude.{◌≡◌, ℕ, suc, ◌+◌, ◌≤◌, List, [], ◌∷◌, ◌++◌, map, Option, Some, None, MatchOption, Bool}
use Rattle.std.specs.Prelude.{◌&&◌, eqb, if◌then◌else◌, ◌⊎◌}
use Rattle.free_terms.specs.Free.{Name, FreeTerm, FreeTerms, bound, metavar, skolem, app, no_terms, terms}
use Rattle.free_terms.specs.View.{term_of, terms_of}
use Rattle.free_terms.specs.declared.term.FTerm.{FTerm}
use Rattle.unify.specs.Offers.{Offer, Binding, Equates, Entails, OccursIn, IsSubterm, IsSubtermOfBound, value_of}
use Rattle.unify.specs.Offers.{resolved, same_name}
use Rattle.unify.specs.View.{binding_of}
use Rattle.unify.specs.declared.work.Pair.{Pair}
use Rattle.unify.specs.declared.work.Step.{Step}
use Rattle.unify.specs.declared.work.Step.TheVariants as step

abbrev pub Pairs : Type 0
Pairs = List (FreeTerm × FreeTerm)

abbrev pub pair_of : Pair → FreeTerm × FreeTerm
pair_of p = (term_of p.left, term_of p.right)

abbrev pub pairs_of : List Pair → Pairs
pairs_of ps = map pair_of ps

-- the offer makes each pair one
abbrev pub Agrees : Offer → Pairs → Type 0
Agrees r [] = Unit {0}
Agrees r (p ∷ ps) = Equates r p.0 p.1 × Agrees r ps

-- how large a term is
abbrev mutual
  pub size : FreeTerm → ℕ
  size (bound n) = 1
  size (metavar x) = 1
  size (skolem x us) = suc (size_all us)
  size (app f us) = suc (size_all us)

  pub size_all : FreeTerms → ℕ
  size_all no_terms = 0
  size_all (terms u us) = size u + size_all us

-- how large the left sides are with the bindings applied
abbrev pub load : Offer → Pairs → ℕ
load s [] = 0
load s (p ∷ ps) = size (resolved s p.0) + load s ps

abbrev pub count : FreeTerms → ℕ
count no_terms = 0
count (terms u us) = suc (count us)

-- the terms of two lists, place by place
abbrev pub zipped : FreeTerms → FreeTerms → Pairs
zipped no_terms vs = []
zipped (terms u us) no_terms = []
zipped (terms u us) (terms v vs) = (u, v) ∷ zipped us vs

abbrev pub zipped_if : Bool → FreeTerms → FreeTerms → Option Pairs
zipped_if q us vs = if q then Some (zipped us vs) else None

-- The pairs that have to be made one, so that two terms are one neither of which is a metavariable. None
-- where no offer makes them one.
abbrev pub parts : FreeTerm → FreeTerm → Option Pairs
parts (bound m) (bound n) = zipped_if (eqb m n) no_terms no_terms
parts (skolem x us) (skolem y vs) = zipped_if (same_name x y && eqb (count us) (count vs)) us vs
parts (app f us) (app g vs) = zipped_if (eqb f g && eqb (count us) (count vs)) us vs
parts t u = None

abbrev pub IsMetavar : FreeTerm → Type 0
IsMetavar (metavar x) = Unit {0}
IsMetavar t = ⊥

-- the term is no metavariable, or one that is unbound
abbrev pub IsUnboundHead : Offer → FreeTerm → Type 0
IsUnboundHead s t = (x : Name) → t ≡ metavar x → value_of s x ≡ None

-- the term that the first one's bindings lead to, with no more to follow
pub record IsHead (s : Offer) (t h : FreeTerm) : Type 0 where
  pub same : resolved s t ≡ resolved s h
  pub stands : IsSubterm h t ⊎ IsSubtermOfBound h s
  pub unbound : IsUnboundHead s h

-- t stands in a term of the pairs or in a bound term
abbrev pub IsSubtermOfPair : FreeTerm → Pairs → Type 0
IsSubtermOfPair t [] = ⊥
IsSubtermOfPair t (p ∷ ps) = IsSubterm t p.0 ⊎ (IsSubterm t p.1 ⊎ IsSubtermOfPair t ps)

abbrev pub Stands : Offer → Pairs → FreeTerm → Type 0
Stands s ps t = IsSubtermOfPair t ps ⊎ IsSubtermOfBound t s

abbrev pub AllStand : Offer → Pairs → Pairs → Type 0
AllStand s old [] = Unit {0}
AllStand s old (p ∷ ps) = Stands s old p.0 × Stands s old p.1 × AllStand s old ps

-- The new pairs come to what the old ones do: an offer that entails s agrees with both or with neither.
pub record Reduces (s : Offer) (old new : Pairs) : Type 0 where
  pub stand : AllStand s old new
  pub forward : (r : Offer) → Entails r s → Agrees r old → Agrees r new
  pub back : (r : Offer) → Entails r s → Agrees r new → Agrees r old

-- The old pairs come to the new ones and a binding that the offer can take up.
pub record Binds (s : Offer) (old new : Pairs) (b : Binding) : Type 0 where
  pub unbound : value_of s b.name ≡ None
  pub fresh : OccursIn b.name (resolved s b.term) → ⊥
  pub reduces : Reduces s old ((metavar b.name, b.term) ∷ new)

abbrev pub Clashes : Offer → Pairs → Type 0
Clashes s old = (r : Offer) → Entails r s → Agrees r old → ⊥

abbrev pub StepMeans : Offer → Pairs → Pairs → Step → Type 0
StepMeans s old new step.Agreed = Reduces s old new
StepMeans s old new step.Clash = Clashes s old
StepMeans s old new (step.Bind b) = Binds s old new (binding_of b)

-- what a metavariable that is unbound comes to, against another term
abbrev pub AgainstMeans : Offer → Name → FreeTerm → Step → Type 0
AgainstMeans s x t step.Agreed = t ≡ metavar x
AgainstMeans s x t step.Clash = (r : Offer) → Entails r s → Equates r (metavar x) t → ⊥
AgainstMeans s x t (step.Bind b) =
    ((binding_of b).name ≡ x) × ((binding_of b).term ≡ t) × (OccursIn x (resolved s t) → ⊥)

-- where nothing is bound, and nothing clashes, what is left is less
abbrev pub LessIfAgreed : Offer → Pairs → Pairs → Step → Type 0
LessIfAgreed s old new step.Agreed = suc (load s new) ≤ load s old
LessIfAgreed s old new step.Clash = Unit {0}
LessIfAgreed s old new (step.Bind b) = Unit {0}

abbrev pub NoneIfAgreed : Pairs → Step → Type 0
NoneIfAgreed new step.Agreed = new ≡ []
NoneIfAgreed new step.Clash = Unit {0}
NoneIfAgreed new (step.Bind b) = Unit {0}

-- what splitting a pair comes to
abbrev pub SplitMeans : FreeTerm → FreeTerm → Pairs → Pairs → Step → Type 0
SplitMeans t u old new step.Agreed = MatchOption (parts t u) ⊥ (λ ps. new ≡ old ++ ps)
SplitMeans t u old new step.Clash = parts t u ≡ None
SplitMeans t u old new (step.Bind b) = ⊥

abbrev pub PushMeans : FreeTerms → FreeTerms → Pairs → Pairs → Step → Type 0
PushMeans us vs old new step.Agreed = (count us ≡ count vs) × (new ≡ old ++ zipped us vs)
PushMeans us vs old new step.Clash = count us ≡ count vs → ⊥
PushMeans us vs old new (step.Bind b) = ⊥

-- the same of the program's terms and pairs
abbrev pub AddsPairs : List FTerm → List FTerm → List Pair → List Pair → Type 0
AddsPairs us vs old new = pairs_of new ≡ pairs_of old ++ zipped (terms_of us) (terms_of vs)

abbrev pub PushTells : List FTerm → List FTerm → List Pair → List Pair → Step → Type 0
PushTells us vs old new told = PushMeans (terms_of us) (terms_of vs) (pairs_of old) (pairs_of new) told

abbrev pub SplitTells : FTerm → FTerm → List Pair → List Pair → Step → Type 0
SplitTells t u old new told = SplitMeans (term_of t) (term_of u) (pairs_of old) (pairs_of new) told

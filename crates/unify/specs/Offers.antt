-- Offers: finite substitutions for metavariables, kept as lists of bindings.
use Rattle.std.specs.Prelude.{◌≡◌, ℕ, zero, suc, List, [], ◌∷◌, ◌++◌, map, length, Option, Some, None, Bool, ◌&&◌}
use Rattle.std.specs.Prelude.{eqb, if◌then◌else◌, ◌⊎◌}
use Rattle.std.specs.List.{IsDistinct}
use Rattle.free_terms.specs.Free.{Name, FreeTerm, FreeTerms, bound, metavar, skolem, app, no_terms, terms}

pub record Binding : Type 0 where
  pub name : Name
  pub term : FreeTerm

abbrev pub Offer : Type 0
Offer = List Binding

abbrev pub same_name : Name → Name → Bool
same_name x y = eqb x.segment y.segment && eqb x.count y.count

-- the term that the first binding of the name gives
abbrev pub value_of : Offer → Name → Option FreeTerm
value_of [] x = None
value_of (b ∷ s) x = if same_name b.name x then Some b.term else value_of s x

-- a term for each metavariable, put in its place
abbrev mutual
  pub substitute : (Name → FreeTerm) → FreeTerm → FreeTerm
  substitute f (bound n) = bound n
  substitute f (metavar x) = f x
  substitute f (skolem x us) = skolem x (substitute_all f us)
  substitute f (app g us) = app g (substitute_all f us)

  pub substitute_all : (Name → FreeTerm) → FreeTerms → FreeTerms
  substitute_all f no_terms = no_terms
  substitute_all f (terms u us) = terms (substitute f u) (substitute_all f us)

abbrev pub substituted_in : (Name → FreeTerm) → Name → Option FreeTerm → FreeTerm
substituted_in f x None = metavar x
substituted_in f x (Some t) = substitute f t

-- The value of a metavariable: its binding's term, in which the metavariables have theirs, along chains
-- of at most n bindings.
abbrev pub value_within : ℕ → Offer → Name → FreeTerm
value_within zero s x = metavar x
value_within (suc n) s x = substituted_in (value_within n s) x (value_of s x)

-- The term with all bindings applied until none applies: in an acyclic offer no chain is longer than
-- the list.
abbrev pub resolved : Offer → FreeTerm → FreeTerm
resolved s t = substitute (value_within (length s) s) t

abbrev pub resolved_all : Offer → FreeTerms → FreeTerms
resolved_all s us = substitute_all (value_within (length s) s) us

-- whether the metavariable stands in the term
abbrev mutual
  pub OccursIn : Name → FreeTerm → Type 0
  OccursIn x (bound n) = ⊥
  OccursIn x (metavar y) = x ≡ y
  OccursIn x (skolem y us) = OccursInSome x us
  OccursIn x (app f us) = OccursInSome x us

  pub OccursInSome : Name → FreeTerms → Type 0
  OccursInSome x no_terms = ⊥
  OccursInSome x (terms u us) = OccursIn x u ⊎ OccursInSome x us

-- a chain of bindings that leads from one metavariable to another
pub data Chain (s : Offer) : Name → Name → Type 0 where
  link : (x y : Name) (t : FreeTerm) → value_of s x ≡ Some t → OccursIn y t → Chain s x y
  links : (x y z : Name) → Chain s x y → Chain s y z → Chain s x z

-- An offer has one binding a metavariable, and no chain from a metavariable into itself.
pub record IsOffer (s : Offer) : Type 0 where
  pub distinct : IsDistinct same_name (map (λ b. b.name) s)
  pub acyclic : (x : Name) → Chain s x x → ⊥

abbrev pub Equates : Offer → FreeTerm → FreeTerm → Type 0
Equates s t u = resolved s t ≡ resolved s u

abbrev pub EquatesAll : Offer → FreeTerms → FreeTerms → Type 0
EquatesAll s ts us = resolved_all s ts ≡ resolved_all s us

-- the first equates both sides of each binding of the second
abbrev pub Entails : Offer → Offer → Type 0
Entails r [] = Unit {0}
Entails r (b ∷ s) = Equates r (metavar b.name) b.term × Entails r s

-- t is the term or stands in it
abbrev mutual
  pub IsSubterm : FreeTerm → FreeTerm → Type 0
  IsSubterm t (bound n) = t ≡ bound n
  IsSubterm t (metavar x) = t ≡ metavar x
  IsSubterm t (skolem x us) = (t ≡ skolem x us) ⊎ IsSubtermOfSome t us
  IsSubterm t (app f us) = (t ≡ app f us) ⊎ IsSubtermOfSome t us

  pub IsSubtermOfSome : FreeTerm → FreeTerms → Type 0
  IsSubtermOfSome t no_terms = ⊥
  IsSubtermOfSome t (terms u us) = IsSubterm t u ⊎ IsSubtermOfSome t us

-- t is a subterm of a bound term
abbrev pub IsSubtermOfBound : FreeTerm → Offer → Type 0
IsSubtermOfBound t [] = ⊥
IsSubtermOfBound t (b ∷ s) = IsSubterm t b.term ⊎ IsSubtermOfBound t s

-- t stands in one of the two lists or in a bound term of the offer
abbrev pub StandsIn : Offer → FreeTerms → FreeTerms → FreeTerm → Type 0
StandsIn given ts us t = IsSubtermOfSome t ts ⊎ (IsSubtermOfSome t us ⊎ IsSubtermOfBound t given)

-- Each of the bindings is of a metavariable that the given offer leaves unbound, to a term that stands in
-- one of the two lists or in a bound term of the given offer.
abbrev pub AreNew : Offer → FreeTerms → FreeTerms → Offer → Type 0
AreNew given ts us [] = Unit {0}
AreNew given ts us (b ∷ more) =
    (value_of given b.name ≡ None) × StandsIn given ts us b.term × AreNew given ts us more

-- What unification answers: an offer that begins with the given one, goes on with new bindings, equates
-- the lists, and is entailed by every offer that entails the given one and equates them.
pub record IsMostGeneral (given : Offer) (ts us : FreeTerms) (found : Offer) : Type 0 where
  pub offer : IsOffer found
  pub more : Offer
  pub begins : found ≡ given ++ more
  pub fresh : AreNew given ts us more
  pub equates : EquatesAll found ts us
  pub general : (r : Offer) → IsOffer r → Entails r given → EquatesAll r ts us → Entails r found

-- a most general offer, or none where no offer entails the given one and equates the lists
abbrev pub Unifies : Offer → FreeTerms → FreeTerms → Option Offer → Type 0
Unifies given ts us (Some found) = IsMostGeneral given ts us found
Unifies given ts us None = (r : Offer) → IsOffer r → Entails r given → EquatesAll r ts us → ⊥

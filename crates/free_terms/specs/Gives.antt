-- What fills give for a pattern, part by part, and what a step of matching tells.
use Rattle.std.specs.Prelude.{◌≡◌, ℕ, zero, suc, Bool, true, false, List, [], ◌∷◌, Option, Some, None, slice_get}
use Rattle.fol_core.specs.Syntax as plain
use Rattle.free_terms.specs.Free.{FreeTerm, FreeTerms, bound, app, no_terms, terms}

abbrev pub FillList : Type 0
FillList = List (Option FreeTerm)

-- what stands for the variable n is t; past the fills it is the variable itself
abbrev pub GivesAt : Option (Option FreeTerm) → ℕ → FreeTerm → Type 0
GivesAt None n t = bound n ≡ t
GivesAt (Some None) n t = ⊥
GivesAt (Some (Some u)) n t = u ≡ t

abbrev mutual
  pub Gives : FillList → plain.PlainTerm → FreeTerm → Type 0
  Gives g (plain.bound n) t = GivesAt (slice_get g n) n t
  Gives g (plain.param n) t = ⊥
  Gives g (plain.app f us) (app h vs) = (f ≡ h) × GivesAll g us vs
  Gives g (plain.app f us) t = ⊥

  pub GivesAll : FillList → plain.PlainTerms → FreeTerms → Type 0
  GivesAll g plain.no_terms no_terms = Unit {0}
  GivesAll g plain.no_terms (terms v vs) = ⊥
  GivesAll g (plain.terms u us) no_terms = ⊥
  GivesAll g (plain.terms u us) (terms v vs) = Gives g u v × GivesAll g us vs

-- the second has what the first gives
abbrev pub Fits : FillList → FillList → Type 0
Fits [] [] = Unit {0}
Fits [] (x ∷ g) = ⊥
Fits (o ∷ old) [] = ⊥
Fits (None ∷ old) (x ∷ g) = Fits old g
Fits (Some t ∷ old) (x ∷ g) = (x ≡ Some t) × Fits old g

-- the new fills are the old ones with what the term needs, or no further fills do
pub record Told (old new : FillList) (u : plain.PlainTerm) (t : FreeTerm) : Type 0 where
  pub forward : (g : FillList) → Fits old g → Gives g u t → Fits new g
  pub back : (g : FillList) → Fits new g → Fits old g × Gives g u t

abbrev pub Tells : FillList → FillList → plain.PlainTerm → FreeTerm → Bool → Type 0
Tells old new u t true = Told old new u t
Tells old new u t false = (g : FillList) → Fits old g → Gives g u t → ⊥

pub record ToldAll (old new : FillList) (us : plain.PlainTerms) (ts : FreeTerms) : Type 0 where
  pub forward : (g : FillList) → Fits old g → GivesAll g us ts → Fits new g
  pub back : (g : FillList) → Fits new g → Fits old g × GivesAll g us ts

abbrev pub TellsAll : FillList → FillList → plain.PlainTerms → FreeTerms → Bool → Type 0
TellsAll old new us ts true = ToldAll old new us ts
TellsAll old new us ts false = (g : FillList) → Fits old g → GivesAll g us ts → ⊥

abbrev pub unused : ℕ → FillList
unused zero = []
unused (suc n) = None ∷ unused n

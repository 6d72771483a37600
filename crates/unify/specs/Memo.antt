-- The pairs of bound metavariables that unification has met.
use Rattle.std.specs.Prelude.{◌≡◌, ℕ, zero, suc, ◌≤◌, length, Bool, true, ◌&&◌, List, [], ◌∷◌, ◌++◌}
use Rattle.std.specs.declared.hash.FoldHasher.{FoldHasher}
use Rattle.std.specs.declared.hash.BuildHasherDefault.{BuildHasherDefault}
use Rattle.std.specs.HashSet.{HashSet, contains}
use Rattle.free_terms.specs.Free.{FreeTerm, metavar}
use Rattle.free_terms.specs.View.{name_of}
use Rattle.free_terms.specs.declared.term.Name.{Name}
use Rattle.unify.specs.Index.{is_same}
use Rattle.unify.specs.Offers.{Offer, Entails, Equates}
use Rattle.unify.specs.View.{binding_of, offer_of}
use Rattle.unify.specs.Work.{Pairs, pairs_of, Agrees, Reduces, Binds, Clashes, load}
use Rattle.unify.specs.declared.bindings.Binding.{Binding}
use Rattle.unify.specs.declared.memo.Memo.{Memo}
use Rattle.unify.specs.declared.memo.Met.{Met}
use Rattle.unify.specs.declared.work.Pair.{Pair}
use Rattle.unify.specs.declared.work.Step.{Step}
use Rattle.unify.specs.declared.work.Step.TheVariants as step

abbrev pub is_same_pair : Name × Name → Name × Name → Bool
is_same_pair p q = is_same p.0 q.0 && is_same p.1 q.1

abbrev pub Couples : Type 0
Couples = HashSet (Name × Name) (BuildHasherDefault FoldHasher)

abbrev pub EquatesNames : Offer → Name → Name → Type 0
EquatesNames r x y = Equates r (metavar (name_of x)) (metavar (name_of y))

-- two metavariables as a pair of terms, alone and behind others
abbrev pub names : Name → Name → FreeTerm × FreeTerm
names x y = (metavar (name_of x), metavar (name_of y))

abbrev pub with_names : Pairs → Name → Name → Pairs
with_names work x y = work ++ names x y ∷ []

-- the pairs from that place on
abbrev pub from : ℕ → Pairs → Pairs
from zero ps = ps
from (suc n) [] = []
from (suc n) (p ∷ ps) = from n ps

-- an offer that entails s and agrees with what is left from that place on makes the two one
abbrev pub Waits : Offer → Pairs → Met → Type 0
Waits s work m = (r : Offer) → Entails r s → Agrees r (from m.below work) → EquatesNames r m.left m.right

abbrev pub AllWait : Offer → Pairs → List Met → Type 0
AllWait s work [] = Unit {0}
AllWait s work (m ∷ ms) = Waits s work m × AllWait s work ms

-- each offer that entails s makes the couples one
abbrev pub AreEquated : Offer → Couples → Type 0
AreEquated s done =
    (x y : Name) → contains is_same_pair done (x, y) ≡ true
    → (r : Offer) → Entails r s → EquatesNames r x y

pub record Remembers (s : Offer) (work : Pairs) (memo : Memo) : Type 0 where
  pub waiting : AllWait s work memo.waiting.items
  pub done : AreEquated s memo.done

-- the same once a step is made
abbrev pub StillRemembers : Offer → Pairs → Memo → Step → Type 0
StillRemembers s work memo step.Agreed = Remembers s work memo
StillRemembers s work memo step.Clash = Unit {0}
StillRemembers s work memo (step.Bind b) = Remembers (s ++ binding_of b ∷ []) work memo

-- What a pair comes to beside the pairs w: it gives way to others, clashes or is bound.
abbrev pub GoesOn : Offer → Pairs → FreeTerm × FreeTerm → Pairs → Step → Type 0
GoesOn s w pair new step.Agreed =
    (more : Pairs) × (new ≡ w ++ more) × Reduces s (pair ∷ []) more × (suc (load s more) ≤ load s (pair ∷ []))
GoesOn s w pair new step.Clash = Clashes s (pair ∷ [])
GoesOn s w pair new (step.Bind b) = (new ≡ w) × Binds s (pair ∷ []) [] (binding_of b)

-- the same of the program's lists
abbrev pub Advances : List Binding → List Pair → FreeTerm × FreeTerm → List Pair → Step → Type 0
Advances s old pair new told = GoesOn (offer_of s) (pairs_of old) pair (pairs_of new) told

abbrev pub RemembersWith : List Binding → List Pair → FreeTerm × FreeTerm → Memo → Type 0
RemembersWith s work pair memo = Remembers (offer_of s) (pairs_of work ++ pair ∷ []) memo

-- the second has all that the first has, where one pair more is left than the number
abbrev pub KeepsMemory : ℕ → Memo → Memo → Type 0
KeepsMemory left old new =
    (s : Offer) (work : Pairs) → length work ≡ suc left → Remembers s work old → Remembers s work new

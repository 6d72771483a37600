-- What was answered, where it is known which of the two it was; and tests that say the same.
use Rattle.std.proofs.Common.{◌≡◌, Bool, true, false, Option, Some, None, refl, subst, IsTrue}
use Rattle.std.specs.Prelude.{MatchOption, ◌↔◌}
use Rattle.std.proofs.lemmas.Bool.{false≢true}

pub of_some : {A : Type 0} (o : Option A) (N : Type 0) (P : A → Type 0) (x : A) → o ≡ Some x → MatchOption o N P → P x
of_some o N P x e h = subst (λ q. MatchOption q N P) e h

pub of_none : {A : Type 0} (o : Option A) (N : Type 0) (P : A → Type 0) → o ≡ None → MatchOption o N P → N
of_none o N P e h = subst (λ q. MatchOption q N P) e h

-- a test that says what another test says
pub same_test : {P : Type 0} (p q : Bool) → IsTrue p ↔ P → q ≡ true ↔ P → p ≡ q
same_test true true x y = refl
same_test true false x y = absurd (false≢true (y.1 (x.0 refl)))
same_test false true x y = absurd (false≢true (x.1 (y.0 refl)))
same_test false false x y = refl

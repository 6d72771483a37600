-- A text printed by two puts.
use Rattle.std.proofs.Common.{ℕ, ◌+◌, List, ◌++◌, length, take, Option, Some, None, ap, sym, subst, ◌∙◌, arith, append_assoc, length-append}
use Rattle.std.proofs.Math.Seq.{take-append-add}
use Rattle.gl_outside.specs.Outside.{Appends, AppendsFront}

pub then_front : (old mid new : Option (List ℕ)) (a b : List ℕ) → Appends old a mid → AppendsFront mid b new → AppendsFront old (a ++ b) new
then_front None mid new a b h (n, fits, k) = (0, omega arith, subst (λ m. Appends m (take n b) new) h k)
then_front (Some old) mid new a b h (n, fits, k) = (
  length a + n,
  omega (arith, fits, length-append a b),
  subst (λ m. Appends m (take n b) new) h k ∙ ap Some (append_assoc old a (take n b) ∙ ap (λ l. old ++ l) (sym (take-append-add a b n))),
)

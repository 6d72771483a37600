-- By what the following of bindings is seen to end.
use Rattle.std.specs.Prelude.{ℕ, max, List, [], ◌∷◌}
use Rattle.free_terms.specs.declared.term.FTerm.{size-FTerm}
use Rattle.unify.specs.declared.bindings.Binding.{Binding}

-- the greatest size of a bound term
abbrev pub weight : List Binding → ℕ
weight [] = 0
weight (b ∷ s) = max (size-FTerm b.term) (weight s)

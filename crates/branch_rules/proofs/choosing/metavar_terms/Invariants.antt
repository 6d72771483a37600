use Rattle.std.proofs.Common.{◌≡◌, take}
use Rattle.std.specs.Prelude.{map}
use Rattle.free_terms.specs.Free.{FreeTerm, metavar}
use Rattle.free_terms.specs.View.{name_of, term_of}
use Rattle.branch_rules.proofs.choosing.metavar_terms.Given as goal

abbrev pub invariant-loop-i : goal.invariant-loop-i
invariant-loop-i l = map term_of l.out ≡ map (λ x. metavar (name_of x)) (take l.i l.names.items)

use Rattle.std.proofs.Common.{◌≡◌, ◌++◌, drop}
use Rattle.free_terms.specs.View.{terms_of}
use Rattle.unify.specs.Work.{pairs_of, zipped}
use Rattle.unify.proofs.work.push_pairs.Given as goal

abbrev pub invariant-loop-i : goal.invariant-loop-i
invariant-loop-i l =
    pairs_of l.work.items ++ zipped (terms_of (drop l.i l.us)) (terms_of (drop l.i l.vs)) ≡ pairs_of l.initial.work.items ++ zipped (terms_of l.us) (terms_of l.vs)

use Rattle.std.proofs.Common.{◌≡◌, ◌↔◌, drop}
use Rattle.free_terms.specs.View.{terms_of}
use Rattle.free_terms.proofs.same.+same.Given as goal

abbrev pub invariant-same_terms-loop-i : goal.invariant-same_terms-loop-i
invariant-same_terms-loop-i l =
    (terms_of (drop l.i l.us) ≡ terms_of (drop l.i l.vs)) ↔ (terms_of l.us ≡ terms_of l.vs)

use Rattle.std.proofs.Common.{drop}
use Rattle.fol_core.specs.View as plain
use Rattle.free_terms.specs.View.{terms_of, fills_of}
use Rattle.free_terms.proofs.Matched.{SoFar}
use Rattle.free_terms.proofs.matching.+matching.Given as goal

abbrev pub invariant-match_terms-loop-i : goal.invariant-match_terms-loop-i
invariant-match_terms-loop-i l =
    SoFar (fills_of l.initial.fills) (fills_of l.fills) (plain.terms_of l.ps) (terms_of l.us) (plain.terms_of (drop l.i l.ps)) (terms_of (drop l.i l.us))

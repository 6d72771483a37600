use Rattle.std.proofs.Common.{◌≡◌, drop}
use Rattle.fol_core.specs.View.{terms_of}
use Rattle.rewrite_rules.specs.Fitting.{terms_use}
use Rattle.rewrite_rules.proofs.fitting.+using.Given as goal

abbrev pub invariant-terms_use-loop-term : goal.invariant-terms_use-loop-term
invariant-terms_use-loop-term l =
    terms_use l.depth l.marks (terms_of (drop l.term-index l.term-items)) ≡ terms_use l.depth l.marks (terms_of l.term-items)

use Rattle.std.proofs.Common.{◌≡◌, max, drop}
use Rattle.fol_core.specs.Syntax.{param_bound_in_terms}
use Rattle.fol_core.specs.View.{terms_of}
use Rattle.fol_core.proofs.term.+bound.Given as goal

abbrev pub invariant-param_bound_in_all-loop-term : goal.invariant-param_bound_in_all-loop-term
invariant-param_bound_in_all-loop-term l =
    max l.most (param_bound_in_terms (terms_of (drop l.term-index l.term-items))) ≡ param_bound_in_terms (terms_of l.term-items)

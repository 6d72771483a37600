use Rattle.std.proofs.Common.{◌≡◌, ◌||◌, ℕ, false, drop, get_or}
use Rattle.fol_core.specs.View.{terms_of}
use Rattle.free_terms.specs.Matching.{variable_in_terms}
use Rattle.rewrite_rules.proofs.fitting.+marking.Given as goal

abbrev pub invariant-mark_terms-loop-term : goal.invariant-mark_terms-loop-term
invariant-mark_terms-loop-term l = (k : ℕ) →
    (variable_in_terms k (terms_of (drop l.term-index l.term-items)) || get_or l.marks k false)
    ≡ (variable_in_terms k (terms_of l.term-items) || get_or l.initial.marks k false)

use Rattle.std.proofs.Common.{◌≡◌, ◌≤◌, drop, max}
use Rattle.free_terms.specs.View.{terms_of}
use Rattle.unify.specs.Nesting.{nesting_below}
use Rattle.unify.proofs.nesting.+nesting.Given as goal

abbrev pub invariant-nested_below-loop-u : goal.invariant-nested_below-loop-u
invariant-nested_below-loop-u l = record {
  whole : max l.deepest (nesting_below (terms_of (drop l.u-index l.us-2))) ≡ nesting_below (terms_of l.us-2);
  within : l.deepest ≤ l.most;
}

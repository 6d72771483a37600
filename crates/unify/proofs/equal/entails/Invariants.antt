use Rattle.std.proofs.Common.{drop, ◌≤◌, length}
use Rattle.unify.specs.Offers.{Entails}
use Rattle.unify.specs.View.{offer_of}
use Rattle.unify.proofs.equal.entails.Given as goal

abbrev pub invariant-loop-left : goal.invariant-loop-left
invariant-loop-left l = record {
  bounded : l.left ≤ length l.other;
  behind : Entails (offer_of l.s) (offer_of (drop l.left l.other));
}

abbrev pub decreases-loop-left : goal.decreases-loop-left
decreases-loop-left l = l.left

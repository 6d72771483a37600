use Rattle.std.proofs.Common.{◌≡◌, ◌++◌, length, List}
use Rattle.free_terms.specs.Free.{Name}
use Rattle.unify.specs.Offers.{Offer}
use Rattle.deskolem.specs.Lines.{rules_of_lines, symbols_of}
use Rattle.deskolem.specs.Walking.{IsStanding, closing_rules}
use Rattle.deskolem.proofs.walk.close_all.Given as goal

abbrev pub decreases-loop-atom : goal.decreases-loop-atom
decreases-loop-atom l = length l.closings

abbrev pub invariant-loop-atom : goal.invariant-loop-atom
invariant-loop-atom l = record {
  standing : IsStanding l.walk;
  written : (s : Offer) (ys : List Name) → rules_of_lines s ys l.walk.lines ++ closing_rules l.closings ≡ rules_of_lines s ys l.fn.walk.lines ++ closing_rules l.fn.closings;
  symbols : symbols_of l.walk.lines ≡ symbols_of l.fn.walk.lines;
  places : l.walk.places.items ≡ l.fn.walk.places.items;
  left : l.walk.left ≡ l.fn.walk.left;
  len : l.walk.len ≡ l.fn.walk.len;
}

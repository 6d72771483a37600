use Rattle.std.proofs.Common.{◌≡◌, ◌≤◌, length, drop, map, reverse}
use Rattle.fol_core.specs.View.{term_of}
use Rattle.free_terms.specs.View.{fills_of}
use Rattle.unify.specs.View.{offer_of}
use Rattle.translation.specs.Translation.{fill_under}
use Rattle.deskolem.specs.Numbers.{AreValues}
use Rattle.deskolem.specs.View.{names_of}
use Rattle.deskolem.proofs.build.fill_terms.Given as goal

abbrev pub decreases-loop-at : goal.decreases-loop-at
decreases-loop-at l = l.at

abbrev pub invariant-loop-at : goal.invariant-loop-at
invariant-loop-at l =
    (l.at ≤ length l.fills)
    × (reverse (map term_of l.terms) ≡ map (fill_under (offer_of l.s) (names_of l.names)) (fills_of (drop l.at l.fills)))
    × AreValues (offer_of l.s) (names_of l.names) l.done

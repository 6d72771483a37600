use Rattle.std.proofs.Common.{◌≡◌, ◌++◌, take}
use Rattle.tab_tree.specs.ItemsAt.{pairs_of}
use Rattle.tab_tree.specs.SiteValue.{items_in}
use Rattle.tab_tree.proofs.finding.push_pairs.Given as goal

abbrev pub invariant-loop-opposite : goal.invariant-loop-opposite
invariant-loop-opposite l =
    items_in l.out ≡ items_in l.initial.out ++ pairs_of l.negated l.place (take l.opposite-index l.opposites)

use Rattle.std.proofs.Common.{◌≡◌, ◌++◌, drop}
use Rattle.std.specs.List.{AllByRecursion}
use Rattle.gs3_rules.specs.Apply.{rules_of}
use Rattle.unify.specs.View.{offer_of}
use Rattle.deskolem.specs.Numbers.{AreValues}
use Rattle.deskolem.specs.View.{names_of}
use Rattle.deskolem.specs.Lines.{rules_of_lines, HasRoom}
use Rattle.deskolem.proofs.build.steps_of.Given as goal

abbrev pub invariant-loop-line : goal.invariant-loop-line
invariant-loop-line l =
    (rules_of l.out ++ rules_of_lines (offer_of l.s) (names_of l.names) (drop l.line-index l.lines)
    ≡ rules_of_lines (offer_of l.s) (names_of l.names) l.lines)
    × AllByRecursion HasRoom (drop l.line-index l.lines)
    × AreValues (offer_of l.s) (names_of l.names) l.done

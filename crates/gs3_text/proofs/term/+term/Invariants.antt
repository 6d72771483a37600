use Rattle.std.proofs.Common.{◌≡◌, ◌+◌, ◌*◌, length, map}
use Rattle.fol_core.specs.View.{term_of}
use Rattle.gs3_text.specs.Reading.{onto, term_at, arguments_from}
use Rattle.gs3_text.proofs.term.+term.Given as goal

abbrev pub decreases-application_at : goal.decreases-application_at
decreases-application_at l = 4 * l.depth + 3

abbrev pub decreases-arguments_at : goal.decreases-arguments_at
decreases-arguments_at l = 4 * l.depth + 2

abbrev pub decreases-arguments_from : goal.decreases-arguments_from
decreases-arguments_from l = 4 * l.depth + 1

abbrev pub decreases-term_at : goal.decreases-term_at
decreases-term_at l = 4 * l.depth

abbrev pub invariant-arguments_from-arguments : goal.invariant-arguments_from-arguments
invariant-arguments_from-arguments l =
    let argument = term_at l.symbols.functions l.depth in
    onto (map term_of l.args) (arguments_from argument (length l.rest) l.rest) ≡ arguments_from argument (length l.bytes) l.bytes

abbrev pub decreases-arguments_from-arguments : goal.decreases-arguments_from-arguments
decreases-arguments_from-arguments l = length l.rest

use Rattle.std.proofs.Common.{◌+◌, arith, refl}
use Rattle.free_terms.specs.View as free
use Rattle.unify.specs.View.{offer_of}
use Rattle.translation.specs.Counting.{digits_of}
use Rattle.deskolem.proofs.Texts.{sum_as, gamma_sum}
use Rattle.deskolem.proofs.measuring.add_gamma.Goals as goal

pub returns-clause-sum : goal.returns-clause-sum
returns-clause-sum c fs ys are =
    let e = c.in_ok-extent.extent in
    gamma_sum fs ys c.args.lengths.now are (offer_of c.args.offer.now) c.args.so_far c.args.place (free.term_of c.args.term.now) e c.args.limit c.add.result c.in_ok-extent.ensures.extent
    c.requires.limit
    (sum_as c.args.so_far (8 + c.digits.result + e.length) (8 + digits_of c.args.place + e.length) e.depth e.depth c.args.limit c.add.result (omega (arith, c.digits.ensures.value)) refl c.add.ensures)

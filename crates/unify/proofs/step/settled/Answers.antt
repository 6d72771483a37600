use Rattle.std.proofs.Common.{[], ap, sym, ◌∙◌}
use Rattle.free_terms.specs.View.{term_of}
use Rattle.free_terms.proofs.Trees.{term_of_meta}
use Rattle.unify.specs.View.{offer_of}
use Rattle.unify.specs.Work.{pairs_of}
use Rattle.unify.proofs.Reduce.{reduce_equal}
use Rattle.unify.proofs.Remembered.{nothing_more}
use Rattle.unify.proofs.step.settled.Goals as goal

pub returns-then-is_metavar-clause-step : goal.returns-then-is_metavar-clause-step
returns-then-is_metavar-clause-step c =
    nothing_more (offer_of c.args.s.now) (pairs_of c.args.work.now.items) (term_of c.args.pair.left) (term_of c.args.pair.right)
    (reduce_equal (offer_of c.args.s.now) [] (term_of c.args.pair.left) (term_of c.args.pair.right)
    (ap term_of c.in-Meta.is ∙ term_of_meta c.in-Meta.x ∙ sym (c.is_metavar.ensures.0 c.if-is_metavar.true)))

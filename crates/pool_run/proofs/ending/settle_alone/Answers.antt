use Rattle.std.proofs.Common.{◌+◌, refl, subst, sym}
use Rattle.pool_run.specs.Ends.{IsTrueEnd}
use Rattle.pool_run.specs.declared.outcome.PoolEnd.{PoolEnd}
use Rattle.pool_run.proofs.Settled.{settled-nodes, settled-tries, settled-end}
use Rattle.pool_run.proofs.ending.settle_alone.Goals as goal

pub returns-clause-made : goal.returns-clause-made
returns-clause-made g c =
    settled-tries g.F.Offer.Offer.tree (g.F.Field.tree c.args.field.now) (g.met.F.Field.laws c.args.field.now) c.args.round
    _ c.settle.new.tries c.in_ok-verdict.field-0.verdict c.in_ok-verdict.field-0.nodes c.in_ok-verdict.ensures.settled
    c.args.limit c.args.before c.requires c.ranges.limit.fits refl refl

pub returns-clause-nodes : goal.returns-clause-nodes
returns-clause-nodes g c =
    settled-nodes g.F.Offer.Offer.tree (g.F.Field.tree c.args.field.now) (g.met.F.Field.laws c.args.field.now) c.args.round
    _ c.settle.new.tries c.in_ok-verdict.field-0.verdict c.in_ok-verdict.field-0.nodes c.in_ok-verdict.ensures.settled

pub returns-clause-end : goal.returns-clause-end
returns-clause-end g c =
    subst (λ (e : PoolEnd _). IsTrueEnd g.F.Offer.Offer.tree (g.F.Field.tree c.args.field.now) c.args.round c.args.limit (c.args.before + c.settle.new.tries.made) c.in_ok-verdict.field-0.nodes e) (sym c.end_of.ensures)
    (settled-end g.F.Offer.Offer.tree (g.F.Field.tree c.args.field.now) (g.met.F.Field.laws c.args.field.now) c.args.round
    _ c.settle.new.tries c.in_ok-verdict.field-0.verdict c.in_ok-verdict.field-0.nodes c.in_ok-verdict.ensures.settled
    c.args.limit c.args.before c.requires c.ranges.limit.fits refl refl)

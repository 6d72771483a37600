use Rattle.nego_plain.specs.Views.{board_node}
use Rattle.nego_plain.proofs.Settled.{settled-so}
use Rattle.nego_plain.proofs.settling.settle.Goals as goal

pub returns-clause-settled : goal.returns-clause-settled
returns-clause-settled g c =
    settled-so g.F.Offer.Offer.tree (g.F.Field.tree c.args.field.now) (g.met.F.Field.laws c.args.field.now) c.args.round c.args.tries.now c.play.new.tries (board_node c.in_ok-family.family.node) c.in_ok-family.family.below c.in_ok-family.limited c.in_ok-verdict.verdict c.in_ok-nodes.nodes c.in_ok-family.ensures.played c.in_ok-verdict.ensures c.in_ok-family.ensures.ends c.in_ok-nodes.ensures

use Rattle.nego_plain.specs.Views.{board_node, family_of}
use Rattle.nego_plain.proofs.Running.{started, in-plain}
use Rattle.nego_plain.proofs.Playing.{play-holds, play-goes, play-ends}
use Rattle.nego_plain.proofs.settling.play.Goals as goal

pub work-requires-clause-plain : goal.work-requires-clause-plain
work-requires-clause-plain g c κs within =
    let u = started g.F.Offer.Offer.tree (g.F.Field.tree c.args.field.now) (g.met.F.Field.laws c.args.field.now) c.args.round c.args.tries.now (family_of c.in_ok-family.family) c.in_ok-family.ensures.state in
    in-plain g.F.Offer.Offer.tree (g.F.Field.tree c.args.field.now) (g.met.F.Field.laws c.args.field.now) c.args.round c.args.tries.now c.args.tries.now (family_of c.in_ok-family.family) u

pub work-requires-clause-holds : goal.work-requires-clause-holds
work-requires-clause-holds g c κs within =
    let u = started g.F.Offer.Offer.tree (g.F.Field.tree c.args.field.now) (g.met.F.Field.laws c.args.field.now) c.args.round c.args.tries.now (family_of c.in_ok-family.family) c.in_ok-family.ensures.state in
    play-holds g.F.Offer.Offer.tree (g.F.Field.tree c.args.field.now) (g.met.F.Field.laws c.args.field.now) c.args.round c.args.tries.now c.args.tries.now (board_node c.in_ok-family.family.node) (board_node c.in_ok-family.family.node) c.in_ok-family.family.below c.in_ok-family.family.below u

pub returns-clause-played : goal.returns-clause-played
returns-clause-played g c =
    let u = started g.F.Offer.Offer.tree (g.F.Field.tree c.args.field.now) (g.met.F.Field.laws c.args.field.now) c.args.round c.args.tries.now (family_of c.in_ok-family.family) c.in_ok-family.ensures.state in
    play-goes g.F.Offer.Offer.tree (g.F.Field.tree c.args.field.now) (g.met.F.Field.laws c.args.field.now) c.args.round c.args.tries.now c.work.new.tries (board_node c.in_ok-family.family.node) (board_node c.work.new.family.node) c.in_ok-family.family.below c.work.new.family.below u c.in_ok-answered.answered c.in_ok-answered.ensures.did

pub returns-clause-ends : goal.returns-clause-ends
returns-clause-ends g c =
    play-ends g.F.Offer.Offer.tree (g.F.Field.tree c.args.field.now) c.in_ok-family.family.node.state.round c.args.tries.now c.work.new.tries (family_of c.in_ok-family.family) (board_node c.work.new.family.node) c.work.new.family.below c.in_ok-answered.answered c.in_ok-answered.ensures.did

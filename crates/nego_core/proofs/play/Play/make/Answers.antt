use Rattle.std.proofs.Common.{refl}
use Rattle.nego_core.proofs.Here.{read-at}
use Rattle.nego_core.proofs.Acting.{moved-stepped}
use Rattle.nego_core.proofs.play.Play.make.Goals as goal

pub returns : goal.returns
returns g c =
    let v = c.index_mut.result.now in
    let is = read-at c.args.self.now.nodes.items c.args.at v c.requires.at c.index_mut.ensures.value in
    moved-stepped _ _ (g.met.F.Field.laws c.args.field.now) _ _ _ _ c.requires.plays c.args.at v is c.args.step _ _ c.in_ok-did.did c.requires.no_split refl c.make.ensures.site c.in_ok-did.ensures.turn

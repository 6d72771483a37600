use Rattle.std.proofs.Common.{◌∙◌, sym, refl}
use Rattle.nego_core.proofs.Here.{read-at}
use Rattle.nego_core.proofs.Reading.{bare-get}
use Rattle.nego_core.proofs.Acting.{asked-belongs, received-stepped}
use Rattle.nego_core.specs.Bare.{bare_node}
use Rattle.nego_core.proofs.play.Play.receive.Goals as goal

pub take-requires-clause-belongs : goal.take-requires-clause-belongs
take-requires-clause-belongs g c κs within =
    let v = c.index_mut.result.now in
    let is = read-at c.args.self.now.nodes.items c.args.at v c.requires.at c.index_mut.ensures.value in
    asked-belongs _ _ (g.met.F.Field.laws c.args.field.now) _ _ _ _ c.requires.plays c.args.at v is c.in-Some.task
    (sym (c.in_ok-asked.ensures (bare_node v) (bare-get c.args.self.now.nodes.items c.args.at v is)) ∙ c.in-Some.is)

pub returns-in_ok-did-in-Some : goal.returns-in_ok-did-in-Some
returns-in_ok-did-in-Some g c =
    let v = c.index_mut.result.now in
    let is = read-at c.args.self.now.nodes.items c.args.at v c.requires.at c.index_mut.ensures.value in
    received-stepped _ _ (g.met.F.Field.laws c.args.field.now) _ _ _ _ c.requires.plays c.args.at v is c.in-Some.task _ _ c.in_ok-did-in-Some.did
    (sym (c.in_ok-asked.ensures (bare_node v) (bare-get c.args.self.now.nodes.items c.args.at v is)) ∙ c.in-Some.is)
    refl c.take.ensures.site c.in_ok-did-in-Some.ensures.turn

use Rattle.std.proofs.Common.{◌∙◌, sym, refl}
use Rattle.nego_core.specs.Bare.{bare_node}
use Rattle.nego_core.proofs.Here.{read-at}
use Rattle.nego_core.proofs.Reading.{bare-get}
use Rattle.nego_core.proofs.Acting.{said-belongs, keeps-here, posted-stepped}
use Rattle.nego_core.proofs.play.Play.post.Goals as goal

pub accept-requires-clause-belongs : goal.accept-requires-clause-belongs
accept-requires-clause-belongs g c κs within =
    let v = c.index_mut.result.now in
    let is = read-at c.args.self.now.nodes.items c.args.at v c.requires.at c.index_mut.ensures.value in
    said-belongs _ _ (g.met.F.Field.laws c.args.field.now) _ _ _ _ c.requires.plays c.args.at v is _ c.in-Some.answer
    (sym (c.in_ok-said.ensures (bare_node v) (bare-get c.args.self.now.nodes.items c.args.at v is)) ∙ c.in-Some.is)

pub accept-requires-clause-keeps : goal.accept-requires-clause-keeps
accept-requires-clause-keeps g c κs within =
    let v = c.index_mut.result.now in
    let is = read-at c.args.self.now.nodes.items c.args.at v c.requires.at c.index_mut.ensures.value in
    keeps-here _ _ (g.met.F.Field.laws c.args.field.now) _ _ _ _ c.requires.plays c.args.at v is

pub returns-in_ok-did-in-Some : goal.returns-in_ok-did-in-Some
returns-in_ok-did-in-Some g c =
    let v = c.index_mut.result.now in
    let is = read-at c.args.self.now.nodes.items c.args.at v c.requires.at c.index_mut.ensures.value in
    posted-stepped _ _ (g.met.F.Field.laws c.args.field.now) _ _ _ _ c.requires.plays c.args.at v is c.args.side c.in-Some.answer _ _ c.in_ok-did-in-Some.did
    (sym (c.in_ok-said.ensures (bare_node v) (bare-get c.args.self.now.nodes.items c.args.at v is)) ∙ c.in-Some.is)
    refl c.accept.ensures.site c.in_ok-did-in-Some.ensures.turn

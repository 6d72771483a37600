use Rattle.std.proofs.Common.{◌∙◌, sym}
use Rattle.nego_core.proofs.Picked.{turned-by}
use Rattle.nego_core.proofs.play.Play.turn.Goals as goal

pub returns-in_ok-did-in-Some : goal.returns-in_ok-did-in-Some
returns-in_ok-did-in-Some g c =
    turned-by _ _ _ c.args.round _ c.args.pick c.place-at.result c.place-at.ensures.place c.place-at.ensures.within _ c.requires.plays c.in-Some.act _ _ c.in_ok-did-in-Some.did
    (sym c.act_numbered.ensures ∙ c.in-Some.is) c.in_ok-did-in-Some.ensures

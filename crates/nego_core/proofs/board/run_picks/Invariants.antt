use Rattle.std.proofs.Common.{take}
use Rattle.nego_core.specs.Plays.{HasPicked}
use Rattle.nego_core.proofs.board.run_picks.Given as goal

abbrev pub invariant-loop-pick : goal.invariant-loop-pick
invariant-loop-pick g l =
    HasPicked g.F.Offer.Offer.tree (g.F.Field.tree l.fn.field) g.F.Field.around l.fn.round (take l.pick-index l.pick-items) l.play.nodes.items l.play.links.items l.unlawful

use Rattle.std.proofs.Common.{◌≡◌, All, length}
use Rattle.nego_node.specs.Truth.{entails_some}
use Rattle.nego_node.proofs.bans.entails_some.Given as goal

abbrev pub invariant-loop-rest : goal.invariant-loop-rest
invariant-loop-rest g l =
    All (λ b. g.F.Offer.Offer.tree b ≡ g.F.Field.tree l.field) l.rest
    × (entails_some (g.F.Field.tree l.field) l.s l.rest ≡ entails_some (g.F.Field.tree l.field) l.s l.list)

abbrev pub decreases-loop-rest : goal.decreases-loop-rest
decreases-loop-rest g l = length l.rest

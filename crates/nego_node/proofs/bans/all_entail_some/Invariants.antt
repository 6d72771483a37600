use Rattle.std.proofs.Common.{◌≡◌, All, length}
use Rattle.nego_node.specs.Machine.{all_entail_some}
use Rattle.nego_node.proofs.bans.all_entail_some.Given as goal

abbrev pub invariant-loop-rest : goal.invariant-loop-rest
invariant-loop-rest g l =
    All (λ b. g.F.Offer.Offer.tree b ≡ g.F.Field.tree l.field) l.rest
    × (all_entail_some (g.F.Field.tree l.field) l.rest l.those ≡ all_entail_some (g.F.Field.tree l.field) l.these l.those)

abbrev pub decreases-loop-rest : goal.decreases-loop-rest
decreases-loop-rest g l = length l.rest

use Rattle.std.proofs.Common.{◌≡◌, ◌↔◌, All, length}
use Rattle.nego_node.proofs.bans.same_offers.Given as goal

abbrev pub invariant-loop-these : goal.invariant-loop-these
invariant-loop-these g l =
    All (λ x. g.F.Offer.Offer.tree x ≡ g.F.Field.tree l.field) l.these
    × All (λ x. g.F.Offer.Offer.tree x ≡ g.F.Field.tree l.field) l.those
    × ((l.these ≡ l.those) ↔ (l.a ≡ l.b))

abbrev pub decreases-loop-these : goal.decreases-loop-these
decreases-loop-these g l = length l.these

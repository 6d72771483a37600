use Rattle.std.proofs.Common.{◌≡◌, ◌+◌, ◌*◌}
use Rattle.nego_plain.specs.Width.{sites_at}
use Rattle.nego_plain.specs.Rest.{effort}
use Rattle.nego_plain.specs.Views.{family_of, IsAround}
use Rattle.nego_plain.proofs.Working.{HasPlayed}
use Rattle.nego_plain.proofs.stepping.+step.Given as goal

-- the height of the site, and the function's place in a walk down
abbrev pub decreases-work : goal.decreases-work
decreases-work g l = 3 * (g.F.Field.tree l.field.now).height l.family.now.node.state.name + 2

abbrev pub decreases-step : goal.decreases-step
decreases-step g l = 3 * (g.F.Field.tree l.field.now).height l.family.now.node.state.name + 1

abbrev pub decreases-step_part : goal.decreases-step_part
decreases-step_part g l = 3 * (g.F.Field.tree l.field.now).height l.node.now.state.name

abbrev pub invariant-work-picks : goal.invariant-work-picks
invariant-work-picks g l =
    record {
      around : IsAround g.F.Field.around (g.F.Field.tree l.field) l.family;
      played : HasPlayed g.F.Offer.Offer.tree (g.F.Field.tree l.field) l.fn.family.node.state.round (family_of l.fn.family) (family_of l.family) l.fn.tries l.tries;
      level : (g.F.Field.tree l.field).height l.family.node.state.name ≡ (g.F.Field.tree l.field).height l.fn.family.node.state.name;
    }

abbrev pub decreases-work-picks : goal.decreases-work-picks
decreases-work-picks g l =
    effort 1 (g.F.Field.tree l.field) (sites_at (g.F.Field.tree l.field) l.family.node.state.name) (family_of l.family)

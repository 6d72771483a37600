use Rattle.std.proofs.Common.{◌∙◌, ap, subst, List, [], ◌∷◌, ◌++◌, None}
use Rattle.nego_node.specs.NodeValue.{NodeValue}
use Rattle.nego_node.specs.declared.tasks.Side.TheVariants.{Left}
use Rattle.nego_core.specs.Plays.{Opens}
use Rattle.nego_core.specs.declared.links.Link.{Link}
use Rattle.nego_core.proofs.Picked.{picked-none}
use Rattle.nego_core.proofs.play.Play.begin.Goals as goal

pub returns : goal.returns
returns g c =
    picked-none _ _ g.F.Field.around c.args.round (g.met.F.Field.laws c.args.field.now) c.in_ok-site.site _ _ _ c.in_ok-site.ensures.0 c.in_ok-site.ensures.1
    (subst (λ (l : List (NodeValue _ _)). Opens c.args.round c.in_ok-site.site (g.F.Field.named c.in_ok-site.site) l c.open.new.self.nodes.items) c.new.ensures.items c.in_ok-open.ensures.nodes)
    (c.in_ok-open.ensures.links ∙ ap (λ (l : List Link). l ++ record { parent = 0; side = Left; parts = None } ∷ []) c.new-2.ensures.items)

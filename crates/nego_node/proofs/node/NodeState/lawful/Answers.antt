use Rattle.std.proofs.Common.{◌∙◌, sym, subst}
use Rattle.nego_node.specs.NodeValue.{NodeValue}
use Rattle.nego_node.specs.Sound.{Keeps}
use Rattle.nego_node.proofs.Deciding.{decides, decided}
use Rattle.nego_node.proofs.node.NodeState.lawful.Goals as goal

pub returns : goal.returns
returns g c =
    let keeps = subst (λ (v : NodeValue _ _). Keeps g.F.Offer.Offer.tree (g.F.Field.around v.site) v.state) c.self.view_is c.self.invariant.node.keeps in
    (λ h. decides _ _ _ keeps c.args.step (sym c.may_move.ensures ∙ h), λ m. c.may_move.ensures ∙ decided _ _ _ keeps c.args.step m)

use Rattle.std.proofs.Common.{◌≡◌, ◌≢◌, true, sym, subst}
use Rattle.nego_node.specs.NodeValue.{NodeValue}
use Rattle.nego_node.specs.Moves.{MayMove, OnlyMessages}
use Rattle.nego_node.specs.Sound.{Keeps}
use Rattle.nego_node.specs.declared.moves.Move.{Move}
use Rattle.nego_node.specs.declared.moves.Move.TheVariants.{Wait}
use Rattle.nego_node.proofs.Conditions.{laws_around}
use Rattle.nego_node.proofs.Waiting.{next-lawful, next-waits}
use Rattle.nego_node.proofs.node.NodeState.next_move.Goals as goal

pub returns-clause-lawful : goal.returns-clause-lawful
returns-clause-lawful g c =
    let keeps = subst (λ (v : NodeValue _ _). Keeps g.F.Offer.Offer.tree (g.F.Field.around v.site) v.state) c.self.view_is c.self.invariant.node.keeps in
    let laws = laws_around g.F.Offer.Offer.tree c.requires.tree (g.met.F.Field.laws c.args.field.now) in
    subst (λ (m : Move). m ≢ Wait → MayMove (g.F.Field.around c.args.self.now.site) c.args.self.now.state m) (sym c.first_move.ensures)
    (next-lawful _ _ laws _ keeps c.args.eager)

pub returns-clause-waits : goal.returns-clause-waits
returns-clause-waits g c =
    subst (λ (m : Move). c.args.eager ≡ true → m ≡ Wait → OnlyMessages g.F.Offer.Offer.tree (g.F.Field.around c.args.self.now.site) c.args.self.now.state) (sym c.first_move.ensures)
    (next-waits _ _ _ c.args.eager)

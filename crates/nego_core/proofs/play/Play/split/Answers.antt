use Rattle.std.proofs.Common.{rules, ◌∙◌, ap, refl, subst, List, [], ◌∷◌, ◌++◌, slice_set, Some, None}
use Rattle.nego_node.specs.Lawful.{MaySplit}
use Rattle.nego_node.specs.NodeValue.{NodeValue}
use Rattle.nego_node.proofs.Sides.{same-some}
use Rattle.nego_core.specs.declared.links.Link.{Link}
use Rattle.nego_core.proofs.Here.{read-at}
use Rattle.nego_core.proofs.Acting.{site-at}
use Rattle.nego_core.proofs.Reading.{link-within}
use Rattle.nego_core.proofs.Splitting.{split-stepped, split-of}
use Rattle.nego_node.specs.Moves.{Did}
use Rattle.nego_node.specs.declared.moves.Move.TheVariants as moves
use Rattle.nego_node.specs.declared.tasks.Side.TheVariants.{Right}
use Rattle.nego_core.proofs.play.Play.split.Goals as goal

pub split_into-requires-clause-lawful : goal.split_into-requires-clause-lawful
split_into-requires-clause-lawful g c κs within =
    let v = c.index_mut.result.now in
    let is = read-at c.args.self.now.nodes.items c.args.at v c.requires.at c.index_mut.ensures.value in
    subst (λ (x : NodeValue _ _). MaySplit (g.F.Field.around x.site) x.state) (same-some c.node.ensures is) (c.lawful.ensures.0 (search rules))

pub returns : goal.returns
returns g c =
    let v = c.index_mut.result.now in
    let is = read-at c.args.self.now.nodes.items c.args.at v c.requires.at c.index_mut.ensures.value in
    let laws = g.met.F.Field.laws c.args.field.now in
    let lawful = subst (λ (x : NodeValue _ _). MaySplit (g.F.Field.around x.site) x.state) (same-some c.node.ensures is) (c.lawful.ensures.0 (search rules)) in
    let did = split-of _ _ _ _ _ _ (subst (λ (x : _). Did g.F.Offer.Offer.tree x moves.Split v.state c.split_into.new.self.state v.history c.split_into.new.self.history) (site-at _ _ laws _ _ _ _ c.requires.plays c.args.at v is) c.in_ok-left.ensures.did) in
    split-stepped _ _ laws _ _ _ _ c.requires.plays c.args.at v is c.link-link.result c.link-link.ensures c.split_into.new.self c.in_ok-left.left c.in_ok-left.right _ _ _ _ _ _ _ _
    (subst (λ (x : _). MaySplit x v.state) (site-at _ _ laws _ _ _ _ c.requires.plays c.args.at v is) lawful)
    c.in_ok-left.ensures.site did.0 did.1 refl c.in_ok-left.ensures.trees.0 c.in_ok-left.ensures.trees.1 c.in_ok-left.ensures.names.0 c.in_ok-left.ensures.names.1
    c.count-first.ensures c.in_ok-open.ensures.nodes c.count-second.ensures c.in_ok-open-2.ensures.nodes (link-within _ _ _ _ _ _ c.requires.plays c.args.at c.requires.at)
    (ap (λ (l : List Link). slice_set l c.args.at (record { parent = c.link-link.result.parent; side = c.link-link.result.side; parts = Some (c.count-first.result, c.count-second.result) }))
    (c.in_ok-open-2.ensures.links ∙ ap (λ (l : List Link). l ++ record { parent = c.args.at; side = Right; parts = None } ∷ []) c.in_ok-open.ensures.links))

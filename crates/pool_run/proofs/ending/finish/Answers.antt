use Rattle.std.proofs.Common.{rules, ◌≡◌, Option, All, List, IfSome, subst, sym}
use Rattle.nego_node.specs.NodeValue.{NodeValue}
use Rattle.pool_run.specs.Ends.{HasTry, IsAnswerEnd}
use Rattle.pool_run.specs.declared.outcome.PoolEnd.{PoolEnd}
use Rattle.pool_run.proofs.Gathered.{answer-ends}
use Rattle.pool_run.proofs.ending.finish.Goals as goal

pub returns-in-Some-clause-end : goal.returns-in-Some-clause-end
returns-in-Some-clause-end g c =
    let named : c.args.root.state.name ≡ 1 = search rules in
    answer-ends g.F.Offer.Offer.tree (g.F.Field.tree c.args.field.now) c.args.round c.args.limit c.args.tries
    c.args.root c.in_ok-nodes.nodes c.in_ok-nodes.ensures.first named c.in-Some.end
    (subst (λ (o : Option (PoolEnd _)). IfSome o (λ e. IsAnswerEnd g.F.Offer.Offer.tree (g.F.Field.tree c.args.field.now) c.args.round c.args.root.state.answer e)) c.in-Some.is c.in_ok-answer.ensures)

pub some_try-requires-after_bounds : goal.some_try-requires-after_bounds
some_try-requires-after_bounds g c κs within =
    subst (λ (nodes : List (NodeValue _ _)). All (λ n. g.F.Field.around n.site ≡ g.F.Field.tree c.args.field.now) nodes) (sym c.as_slice.ensures) c.in_ok-nodes.ensures.tree

pub returns-then-some_try-clause-end : goal.returns-then-some_try-clause-end
returns-then-some_try-clause-end g c =
    let same : c.args.tries ≡ c.args.limit = search rules in
    (same, subst (λ (nodes : List (NodeValue _ _)). HasTry (g.F.Field.tree c.args.field.now) nodes) c.as_slice.ensures (c.some_try.ensures.0 (search rules)))

use Rattle.std.proofs.Common.{rules, ◌≡◌, ◌≤◌, ◌<◌, true, IsTrue, length, slice_index_or}
use Rattle.nego_node.specs.Moves.{next_move}
use Rattle.nego_node.specs.declared.moves.Move.TheVariants.{Try}
use Rattle.pool_run.proofs.Lists.{all-further, all-whole, any-here, any-none}
use Rattle.pool_run.proofs.ending.some_try.Goals as goal

pub returns-then-is_to_try : goal.returns-then-is_to_try
returns-then-is_to_try g c =
    let within : c.loop-node.node-index < length c.args.nodes.now = search rules in
    let is : c.node-item.result ≡ slice_index_or c.args.nodes.now c.loop-node.node-index c.node-item.result = search rules in
    let tries : next_move (g.F.Field.tree c.args.field.now) true c.node-item.result.state ≡ Try = search rules in
    let here = any-here (λ n. next_move (g.F.Field.tree c.args.field.now) true n.state ≡ Try) c.args.nodes.now c.loop-node.node-index c.node-item.result within is tries in
    (λ _. here, λ _. search rules)

pub loop-node-preserved : goal.loop-node-preserved
loop-node-preserved g c =
    let within : c.loop-node.node-index < length c.args.nodes.now = search rules in
    let is : c.node-item.result ≡ slice_index_or c.args.nodes.now c.loop-node.node-index c.node-item.result = search rules in
    let waits : next_move (g.F.Field.tree c.args.field.now) true c.node-item.result.state ≡ Try → ⊥ = search rules in
    all-further (λ n. next_move (g.F.Field.tree c.args.field.now) true n.state ≡ Try → ⊥) c.args.nodes.now c.loop-node.node-index c.node-item.result within is c.loop-node.invariant waits

pub returns : goal.returns
returns g c =
    let end : length c.args.nodes.now ≤ c.loop-node.node-index = search rules in
    let all = all-whole (λ n. next_move (g.F.Field.tree c.args.field.now) true n.state ≡ Try → ⊥) c.args.nodes.now c.loop-node.node-index end c.loop-node.invariant in
    (λ e. absurd (search rules), λ w. absurd (any-none (λ n. next_move (g.F.Field.tree c.args.field.now) true n.state ≡ Try) c.args.nodes.now all w))

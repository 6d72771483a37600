use Rattle.std.proofs.Common.{rules, ◌≡◌, ◌<◌, Some}
use Rattle.nego_lock.proofs.Rising.{first-gathered, more-gathered}
use Rattle.nego_lock.proofs.directory.NodeMap.into_states.Goals as goal

pub nodes-init : goal.nodes-init
nodes-init g c =
    first-gathered (λ n. g.K.Key.tree ≡ Some (g.F.Field.around n.site)) c.args.first c.new-rising.result.items c.push.new.self.items c.node_name-last.result
    c.new-rising.ensures.items c.in_ok-push.ensures.items c.node_name-last.ensures c.requires

pub nodes-preserved-then-node_round-round : goal.nodes-preserved-then-node_round-round
nodes-preserved-then-node_round-round g c =
    let less : c.nodes.last < c.take_history-state.result.state.name = search rules in
    let same : c.take_history-state.result.state.round ≡ c.args.first.state.round = search rules in
    more-gathered (λ n. g.K.Key.tree ≡ Some (g.F.Field.around n.site)) c.nodes.last c.args.first c.take_history-state.result c.nodes.rising.items c.push-then-node_round-round.new.self.items c.node_name-name.result
    c.nodes.invariant less same c.in_ok-push-2.ensures.items c.node_name-name.ensures c.take_history-state.ensures

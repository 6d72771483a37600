use Rattle.std.proofs.Common.{rules, List, sym, subst}
use Rattle.std.proofs.lemmas.List.Sorted.{IsNonDecreasingBy-from_sort_by_key}
use Rattle.nego_node.specs.NodeValue.{NodeValue}
use Rattle.nego_node.specs.Order.{AreRising}
use Rattle.nego_core.proofs.Sorted.{sorted-rising}
use Rattle.nego_core.proofs.board.BoardNodes.into_sorted.Goals as goal

pub returns-clause-rising : goal.returns-clause-rising
returns-clause-rising g c =
    subst (λ (l : List (NodeValue _ _)). AreRising l) (sym c.from_vec.ensures)
    (sorted-rising _ _ (search rules) c.in_ok-sort_by_key.ensures.permutation
    (IsNonDecreasingBy-from_sort_by_key (λ (n : NodeValue _ _). n.state.name) _ c.in_ok-sort_by_key.ensures.sorted (λ a r q k. search rules)))

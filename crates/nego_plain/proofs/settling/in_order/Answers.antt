use Rattle.std.proofs.Common.{rules, ◌≡◌, ◌∙◌, ap, subst, map, ◌++◌, IsPermutation}
use Rattle.std.proofs.lemmas.List.Sorted.{IsPermutation-map, IsNonDecreasingBy-from_sort_by_key}
use Rattle.nego_plain.specs.BoardOf.{nodes_of}
use Rattle.nego_plain.specs.Views.{board_node, family_of}
use Rattle.nego_plain.proofs.settling.in_order.Goals as goal

pub returns : goal.returns
returns g c =
    let e : map (λ n. board_node n) c.gather.new.nodes.items ≡ nodes_of (family_of c.args.family) = c.in_ok-gather.ensures ∙ ap (λ xs. map (λ n. board_node n) xs ++ nodes_of (family_of c.args.family)) c.new-nodes.ensures.items in
    rw c.from_vec.ensures (
      subst (λ xs. IsPermutation xs (map (λ n. board_node n) c.sort_unstable_by_key.new.self.items)) e (IsPermutation-map (λ n. board_node n) _ _ c.sort_unstable_by_key.ensures.permutation),
      IsNonDecreasingBy-from_sort_by_key (λ n. n.state.name) _ c.sort_unstable_by_key.ensures.sorted (λ a r q k. search rules),
    )

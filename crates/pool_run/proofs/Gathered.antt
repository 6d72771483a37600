use Rattle.std.proofs.Common.{◌≡◌, ℕ, Option, Some, List, [], ◌∷◌, All, Any, slice_get, sym, refl, subst, arith}
use Rattle.nego_laws.specs.Tree.{Tree}
use Rattle.nego_node.specs.NodeValue.{NodeValue, IsNode}
use Rattle.nego_node.specs.Moves.{next_move}
use Rattle.nego_node.specs.declared.answers.Answer.{Answer}
use Rattle.nego_node.specs.declared.answers.Answer.TheVariants as answer
use Rattle.nego_node.proofs.Sides.{none-some, same-some}
use Rattle.nego_lock.specs.Gathering.{AreStatesFrom}
use Rattle.pool_run.specs.Ends.{IsOfRound, AreOfRound, RootAnswers, IsAnswerEnd, IsTrueEnd}
use Rattle.pool_run.specs.declared.outcome.PoolEnd.{PoolEnd}
use Rattle.pool_run.specs.declared.outcome.PoolEnd.TheVariants as end

-- what holds of the first element holds of some
any-got : {A : Type 0} (P : A → Type 0) (xs : List A) (x : A) → slice_get xs 0 ≡ Some x → P x → Any P xs
any-got P [] x is p = absurd (none-some refl is)
any-got P (y ∷ xs) x is p = (0, x, omega arith, same-some refl is, p)

module _ {S O : Type 0} (tree : O → Tree O) (t : Tree O) (around : S → Tree O) (named : S → ℕ) (key : Option (Tree O)) (is_key : key ≡ Some t) where
  -- nodes of the key's tree are of the field's
  pub of-tree : (nodes : List (NodeValue S O)) → All (λ n. key ≡ Some (around n.site)) nodes → All (λ n. around n.site ≡ t) nodes
  of-tree nodes all k d within = same-some (all k d within) is_key

  of-round : (round : ℕ) (n : NodeValue S O) → around n.site ≡ t → n.state.round ≡ round → IsNode tree (around n.site) (named n.site) n.state n.history → IsOfRound tree t round n
  of-round round n is same node =
      record {
        same_round = same;
        node =
            subst (λ (b : ℕ). IsNode tree t b n.state n.history) (sym node.is_named)
            (subst (λ (z : Tree O). IsNode tree z (named n.site) n.state n.history) is node);
      }

  -- with the root as the first, all are of its round
  pub are-of-round : (root : NodeValue S O) (nodes : List (NodeValue S O)) → AreStatesFrom root nodes → All (λ n. key ≡ Some (around n.site)) nodes → All (λ n. IsNode tree (around n.site) (named n.site) n.state n.history) nodes → AreOfRound tree t root.state.round nodes
  are-of-round root nodes from all histories =
      record {
        each = λ k d within. of-round root.state.round _ (of-tree nodes all k d within) (from.same_round k d within) (histories k d within);
        rising = from.rising;
      }

-- the end that the root's answer gives is true of the nodes, of which the root is the first
pub answer-ends : {S O : Type 0} (tree : O → Tree O) (t : Tree O) (round limit tries : ℕ) (root : NodeValue S O) (nodes : List (NodeValue S O)) → slice_get nodes 0 ≡ Some root → root.state.name ≡ 1 → (e : PoolEnd O) → IsAnswerEnd tree t round root.state.answer e → IsTrueEnd tree t round limit tries nodes e
answer-ends tree t round limit tries root nodes first named (end.Closed p) is =
    (any-got (λ n. (n.state.name ≡ 1) × (n.state.answer ≡ Some (answer.Proposal p))) nodes root first (named, is.0), is.1, is.2, is.3)
answer-ends tree t round limit tries root nodes first named (end.Open e) is =
    (any-got (λ n. (n.state.name ≡ 1) × (n.state.answer ≡ Some (answer.Exhausted e))) nodes root first (named, is.0), is.1, is.2)
answer-ends tree t round limit tries root nodes first named end.Spent is = absurd is

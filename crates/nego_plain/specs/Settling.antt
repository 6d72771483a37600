use Rattle.std.specs.Prelude.{
  ℕ,
  true,
  false,
  ◌≡◌,
  ◌≢◌,
  ◌+◌,
  ◌-◌,
  ◌^◌,
  ◌≤◌,
  ◌<◌,
  ◌⊎◌,
  min,
  Option,
  Some,
  None,
  List,
  IsPermutation,
  map,
  Bool,
  sum_by,
}
use Rattle.std.specs.List.Sorted.{IsNonDecreasingBy}
use Rattle.nego_laws.specs.Tree.{Tree, Solves}
use Rattle.nego_node.specs.NodeValue.{NodeValue}
use Rattle.nego_node.specs.Order.{AreRising}
use Rattle.nego_node.specs.Board.{BoardNode, first_task, first_board, said_at}
use Rattle.nego_node.specs.declared.answers.Answer.{Answer}
use Rattle.nego_node.specs.declared.answers.Answer.TheVariants as answer
use Rattle.nego_node.specs.declared.acts.Act.TheVariants.{Make}
use Rattle.nego_node.specs.declared.moves.Move.TheVariants.{Try}
use Rattle.nego_plain.specs.Width.{sites_at, attempts}
use Rattle.nego_plain.specs.PlainOrder.{IsPlainPick, PlainRun, tried_of}
use Rattle.nego_plain.specs.Family.{Family, top}
use Rattle.nego_plain.specs.Rest.{effort, IsBounded}
use Rattle.nego_plain.specs.Fits.{IsFamily}
use Rattle.nego_plain.specs.BoardOf.{IsBoardOf}
use Rattle.nego_plain.specs.Views.{board_node}
use Rattle.nego_plain.specs.Engine.{is_spent}
use Rattle.nego_plain.specs.declared.tries.Tries.{Tries}
use Rattle.nego_plain.specs.declared.settling.Verdict.{Verdict}
use Rattle.nego_plain.specs.declared.settling.Verdict.TheVariants.{Closed, Open, Spent}

-- So many attempts were made and counted, up to the last value, and none once the limit was reached.
pub record Counts (before after : Tries) (n : ℕ) : Type 0 where
  pub limit : after.limit ≡ before.limit
  pub made : before.made < 2 ^ 64 → after.made ≡ min (before.made + n) (2 ^ 64 - 1)
  pub within : (most : ℕ) → before.limit ≡ Some most → (n ≡ 0) ⊎ (after.made ≤ most)

-- The verdict on the root of a board: an offer that solves it, that no offer does, or that the next pick is Try and the
-- limit is reached.
abbrev pub IsVerdict : {O : Type 0} → (O → Tree O) → Tree O → ℕ → List (BoardNode O) → Tries → Verdict O → Type 0
IsVerdict tree t round board tries (Closed p) =
    (said_at board 1 ≡ Some (answer.Proposal p)) × (p.task ≡ first_task t round) × (tree p.offer ≡ t)
    × Solves t p.offer 1
IsVerdict {O} tree t round board tries (Open e) =
    (said_at board 1 ≡ Some (answer.Exhausted e)) × (e ≡ first_task t round) × ((s : O) → tree s ≡ t → Solves t s 1 → ⊥)
IsVerdict tree t round board tries Spent =
    (said_at board 1 ≡ None) × (b : ℕ) × IsPlainPick t board 1 b (Make Try) × (is_spent tries ≡ true)

-- the nodes are those of the board, in the rising order of their names
pub record AreInOrder {S O : Type 0} (board : List (BoardNode O)) (nodes : List (NodeValue S O)) : Type 0 where
  pub same : IsPermutation board (map (λ n. board_node n) nodes)
  pub rising : AreRising nodes

-- The plain order was followed from the root alone to a board, up to the verdict. As many attempts were made as the
-- histories of the nodes have, at most as many as the tree allows, and fewer where the limit stopped them. So the limit
-- never does where it is none, or where it is at least what the tree allows and nothing was counted before.
pub record IsSettled {S O : Type 0} (tree : O → Tree O) (t : Tree O) (round : ℕ) (before after : Tries)
    (found : Verdict O) (these : List (NodeValue S O)) : Type 0 where
  pub board : List (BoardNode O)
  pub made : ℕ
  pub run : PlainRun tree t round (first_board round) made board
  pub counts : Counts before after made
  pub tried : sum_by (λ n. tried_of n.history) these ≡ made
  pub bound : made ≤ attempts (sites_at t 1)
  pub spent : found ≡ Spent → made < attempts (sites_at t 1)
  pub unlimited : before.limit ≡ None → found ≢ Spent
  pub enough : (most : ℕ) → before.limit ≡ Some most → before.made ≡ 0 → attempts (sites_at t 1) ≤ most → found ≢ Spent
  pub verdict : IsVerdict tree t round board after found
  pub nodes : AreInOrder board these

-- the same while it is under way, of the root's family
pub record IsUnderWay {O : Type 0} (tree : O → Tree O) (t : Tree O) (round : ℕ) (before after : Tries)
    (f : Family O) : Type 0 where
  pub board : List (BoardNode O)
  pub made : ℕ
  pub run : PlainRun tree t round (first_board round) made board
  pub counts : Counts before after made
  pub is_board : IsBoardOf board f
  pub family : IsFamily tree t round 1 (sites_at t 1) f
  pub bounded : IsBounded t (sites_at t 1) f
  pub held : (top f).state.held ≡ Some (first_task t round)
  pub bound : made + effort 0 t (sites_at t 1) f ≤ attempts (sites_at t 1)

-- what a verdict says of the root's answer
abbrev pub Says : {O : Type 0} → Bool → Option (Answer O) → Verdict O → Type 0
Says true a v = v ≡ Spent
Says false a (Closed p) = a ≡ Some (answer.Proposal p)
Says false a (Open e) = a ≡ Some (answer.Exhausted e)
Says false a Spent = ⊥

-- the nodes of a list in the order of their names
abbrev pub AreSorted : {S O : Type 0} → List (BoardNode O) → List (NodeValue S O) → Type 0
AreSorted these nodes = IsPermutation these (map (λ n. board_node n) nodes)
    × IsNonDecreasingBy (λ n. n.state.name) nodes

use Rattle.std.specs.Prelude.{ℕ, Bool, true, false, ◌≡◌, Some, List, [], ◌∷◌, ◌++◌, ◌+◌, ◌≤◌, All, length, slice_get}
use Rattle.nego_laws.specs.Tree.{Tree}
use Rattle.nego_node.specs.NodeValue.{NodeValue}
use Rattle.nego_node.specs.Board.{BoardNode, opened, first_board, Happens, MayAct, IsOfAct}
use Rattle.nego_node.specs.declared.events.Event.{Event}
use Rattle.nego_node.specs.declared.acts.Act.{Act}
use Rattle.nego_core.specs.Bare.{bare_node, bare}
use Rattle.nego_core.specs.Links.{IsPlay}
use Rattle.nego_core.specs.Picking.{IsPicked, Leads}
use Rattle.nego_core.specs.declared.links.Link.{Link}
use Rattle.nego_core.specs.declared.picks.Pick.{Pick}

-- the nodes of a board of the round with their links, where all sites are of the tree
pub record Plays {S O : Type 0} (tree : O → Tree O) (t : Tree O) (around : S → Tree O) (round : ℕ)
    (nodes : List (NodeValue S O)) (links : List Link) : Type 0 where
  pub play : IsPlay tree t round (bare nodes) links
  pub sites : All (λ v. around v.site ≡ t) nodes

-- an event of the act's kind happened at the node, or the act is not lawful there and nothing changed
abbrev pub Acted : {O : Type 0} → (O → Tree O) → Tree O → ℕ → Act → List (BoardNode O) → List (BoardNode O)
    → BoardNode O → Bool → Type 0
Acted {O} tree t round act ns ns' n true = (e : Event O) × IsOfAct act e × Happens tree t round ns n.state.name e ns'
Acted tree t round act ns ns' n false = (MayAct t round ns n.state.name n.state act → ⊥) × (ns' ≡ ns)

-- what an act makes of the nodes and the links
pub record Stepped {S O : Type 0} (tree : O → Tree O) (t : Tree O) (around : S → Tree O) (round at : ℕ) (act : Act)
    (nodes : List (NodeValue S O)) (nodes' : List (NodeValue S O)) (links' : List Link) (did : Bool) : Type 0 where
  pub plays : Plays tree t around round nodes' links'
  pub acted : (n : BoardNode O) → slice_get (bare nodes) at ≡ Some n
      → Acted tree t round act (bare nodes) (bare nodes') n did

-- a node that has received nothing was opened behind the others, at the site of that name
pub record Opens {S O : Type 0} (round : ℕ) (site : S) (b : ℕ) (nodes nodes' : List (NodeValue S O)) : Type 0 where
  pub node : NodeValue S O
  pub of_site : node.site ≡ site
  pub is_new : bare_node node ≡ opened round b
  pub becomes : nodes' ≡ nodes ++ node ∷ []

-- the count of unlawful picks after one that was lawful or not
abbrev pub counted : Bool → ℕ → ℕ
counted true u = u
counted false u = u + 1

-- what a pick makes of the nodes and the links
pub record HasTurned {S O : Type 0} (tree : O → Tree O) (t : Tree O) (around : S → Tree O) (round : ℕ) (pick : Pick)
    (nodes : List (NodeValue S O)) (nodes' : List (NodeValue S O)) (links' : List Link) (did : Bool) : Type 0 where
  pub plays : Plays tree t around round nodes' links'
  pub picked : (u : ℕ) → IsPicked tree t round (bare nodes) u pick (bare nodes') (counted did u)

-- these picks were done from the first board on
pub record HasPicked {S O : Type 0} (tree : O → Tree O) (t : Tree O) (around : S → Tree O) (round : ℕ)
    (picks : List Pick) (nodes : List (NodeValue S O)) (links : List Link) (unlawful : ℕ) : Type 0 where
  pub plays : Plays tree t around round nodes links
  pub led : Leads tree t round (first_board round) 0 picks (bare nodes) unlawful
  pub few : unlawful ≤ length picks
